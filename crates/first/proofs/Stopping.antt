-- The search that stops at the first occurrence, by itself and beside the full search. Assumes nothing.
use Prim.Native.Nat.{ℕ, zero, suc, ◌+◌, ◌*◌, ◌≤◌, ◌<◌}
use mathlib.Core.Path.{◌≡◌, refl, sym, ap, ◌∙◌}
use mathlib.Core.List.{List, [], ◌∷◌, ◌++◌}
use native.Mathlib.Omega.{arith}
use lib.ListN.{length}
use Rattle.rules.specs.Occurs.{Occurs}
use Rattle.rules.specs.Rules.{State, End, text_source, leave, listed}
use Rattle.rules.specs.Colussi.{colussi_plan, colussi}
use Rattle.rules.specs.Stopped.{stopped}
use Rattle.rules.specs.Promise.{Lists, CutOff, Ceiling}
use Rattle.rules.specs.declared.Ending.{Ending}
use Rattle.rules.specs.declared.Ending.TheVariants.{Done, Spent, Full}
use Rattle.rules.proofs.Rules.{Moving}
use Rattle.rules.proofs.Runs.{turn_later, larger_cap, UntilFull, until_full}
use Rattle.rules.proofs.ColussiMethod.{method, colussi_finds}
use Rattle.rules.proofs.ColussiCeiling.{colussi_ceiling}
use Rattle.rules.proofs.Uncapped.{never_spent, uncapped}
use Rattle.first.specs.Answer.{first_at}
use Rattle.first.specs.Promise.{AtOrAbsent, FirstEntry, NoEntry, FirstOfFull, FirstUnderCeiling}
use Rattle.first.specs.declared.FirstAnswer.{FirstAnswer}

empty : (l : List ℕ) → length l ≤ 0 → l ≡ []
empty [] h = refl
empty (x ∷ l) h = absurd (omega arith)

-- What is put into an empty list is its only entry.
starts_with : (l : List ℕ) (x b : ℕ) → length l ≤ 0 → x ≡ b → l ++ (x ∷ []) ≡ b ∷ []
starts_with l x b h e = rw (empty l h, e) refl

module _ (w t : List ℕ) (some : 1 ≤ length w) where
  moving : Moving (colussi_plan w)
  moving = (method w t some).moving

  -- ---- What it comes to

  abbrev answer : FirstAnswer
  answer = first_at (stopped w t).ending (length (stopped w t).last.made)

  unspent : (b : ℕ) → (stopped w t).ending ≡ Spent b → ⊥
  unfolding stopped
  unspent = never_spent w t some (2 * length t) 0 (omega arith)

  -- The pattern occurs at the position and not before, or nowhere.
  pub first_occurs : AtOrAbsent (λ b count. Occurs w t b × ((x : ℕ) → x < b → Occurs w t x → ⊥)) (λ count. (x : ℕ) → Occurs w t x → ⊥) answer
  unfolding stopped
  first_occurs = let F = colussi_finds w t some (2 * length t) 0 in at (stopped w t).ending _ (stopped w t).last.found unspent F.lists F.cut_off
    where
      at : (e : Ending) (count : ℕ) (found : List ℕ) → ((b : ℕ) → e ≡ Spent b → ⊥) → Lists w t e found
          → CutOff colussi w t (2 * length t) 0 e count (length found)
          → AtOrAbsent (λ b count. Occurs w t b × ((x : ℕ) → x < b → Occurs w t x → ⊥)) (λ count. (x : ℕ) → Occurs w t x → ⊥) (first_at e count)
      at Done count found n L C = λ x O. let one = L.all x tt O in omega (arith, one.1, C.1)
      at (Spent b) count found n L C = absurd (n b refl)
      at (Full b) count found n L C = (C.0, λ x l O. let one = L.all x l O in omega (arith, one.1, C.2))

  -- Demand 3.
  pub first_ceiling : FirstUnderCeiling (length w) (length t) answer
  unfolding stopped
  first_ceiling = at (stopped w t).ending _ (colussi_ceiling w t some (2 * length t) 0)
    where
      at : (e : Ending) (count : ℕ) → Ceiling (length w) (length t) e count → FirstUnderCeiling (length w) (length t) (first_at e count)
      at Done count L = L
      at (Spent b) count L = L
      at (Full b) count L = L

  -- ---- Beside the full search

  -- A search whose list has an entry, beside the one whose list has none.
  beside : (cap size : ℕ) → UntilFull (colussi_plan w) (text_source w t) moving cap 0 (suc size) (colussi w t cap 0).ending (colussi w t cap 0).last
  unfolding colussi
  beside cap size = until_full (colussi_plan w) (text_source w t) moving cap 0 (suc size) (omega arith)

  -- Where the one is not spent, the other is not.
  not_spent : (cap size : ℕ) → (colussi w t cap size).ending ≡ Done → (b : ℕ) → (colussi w t cap 0).ending ≡ Spent b → ⊥
  unfolding colussi
  not_spent cap zero done b e = let z : ◌≡◌ {A = ℕ} 0 1 = cc in omega arith
  not_spent cap (suc size) done b e =
      let alike = ap (λ (E : End). E.ending) (rw e at (beside cap size)) in
      let z : ◌≡◌ {A = ℕ} 0 1 = cc in
      omega arith

  -- So the search that stops is the one with the cap of the full search and no list.
  stopped_is : (cap size : ℕ) → (colussi w t cap size).ending ≡ Done → colussi w t cap 0 ≡ stopped w t
  unfolding colussi
  stopped_is cap size done =
      sym (larger_cap (colussi_plan w) (text_source w t) moving cap 0 (cap + 2 * length t) (omega arith) (not_spent cap size done))
      ∙ uncapped w t some (cap + 2 * length t) (omega arith)

  -- And the full search goes by its last state.
  by_then : (cap size : ℕ) → (colussi w t cap size).ending ≡ Done
      → UntilFull (colussi_plan w) (text_source w t) moving cap 0 size (stopped w t).ending (stopped w t).last
  by_then cap zero done = at (stopped w t) (rw (stopped_is cap 0 done) at done) (stopped_is cap 0 done)
    where
      at : (E : End) → E.ending ≡ Done → colussi w t cap 0 ≡ E → UntilFull (colussi_plan w) (text_source w t) moving cap 0 0 E.ending E.last
      at E d e = rw d (unfold colussi in e ∙ rw (← d) refl)
  by_then cap (suc size) done = rw (stopped_is cap (suc size) done) at (beside cap size)

  pub first_of_full : FirstOfFull w t answer
  unfolding stopped colussi listed leave
  first_of_full cap size done =
      at (stopped w t).ending (stopped w t).last unspent (colussi_finds w t some (2 * length t) 0).cut_off (by_then cap size done)
    where
      at : (e : Ending) (s : State) → ((b : ℕ) → e ≡ Spent b → ⊥) → CutOff colussi w t (2 * length t) 0 e (length s.made) (length s.found)
          → UntilFull (colussi_plan w) (text_source w t) moving cap 0 size e s
          → AtOrAbsent (FirstEntry w t cap size s) (NoEntry w t cap size s) (first_at e (length s.made))
      at Done s n C u = record {
        none = ap (λ (E : End). E.last.found) u ∙ empty s.found C.1;
        counted = ap (λ (E : End). length E.last.made) u;
        same = ap (λ (E : End). E.last.made) u;
      }
      at (Spent b) s n C u = absurd (n b refl)
      at (Full b) s n C u =
          let L = turn_later (colussi_plan w) (text_source w t) moving cap size s (listed (colussi_plan w) s) u.0 u.1 in
          record {
            first = (L.found.0, L.found.1 ∙ ap (λ l. l ++ L.found.0) (starts_with s.found s.window b (omega (arith, C.2)) u.2));
            goes_by = u.0;
            lists = u.1;
            window = u.2;
            counted = refl;
            begins = L.made;
          }
