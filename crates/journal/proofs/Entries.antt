-- The entries of a journal: how many, which one is a comparison's, and what an entry tells of it. Assumes nothing.
use Prim.Native.Nat.{ℕ, ◌+◌, ◌*◌, ◌/◌, ◌%◌, ◌≤◌, ◌<◌}
use mathlib.Core.Path.{◌≡◌, refl, sym, ap, ◌∙◌, subst}
use mathlib.Core.Bool.{Bool, true, false, cond, ◌&&◌}
use mathlib.Core.List.{List, [], ◌∷◌, ◌++◌, append_assoc, append-nil}
use native.Mathlib.Omega.{arith}
use native.Mathlib.Nat.{mul-add-mod_self_left, div-add-mod, mod-lt}
use lib.Dec.{eqb}
use lib.ListN.{length, get_or, take, length-append}
use lib.Seq.{get_or-append_seam, take-suc}
use borrow.Author.Tests.{eqb-true, eqb-false, eq-eqb}
use Rattle.words.proofs.Cases.{both_true}
use Rattle.rules.specs.Rules.{Compared}
use Rattle.rules.specs.Answered.{Answered}
use Rattle.journal.specs.Journal.{entry, journal_of}
use Rattle.journal.specs.Replay.{journal_source, placed}

-- ---- One entry

-- It has its comparison's answer and place.
entry_answers : (x : Compared) → eqb (entry x % 2) 1 ≡ x.equal
unfolding entry
entry_answers x = at (x.window + x.place) x.equal
  where
    at : (k : ℕ) (e : Bool) → eqb ((2 * k + cond e 1 0) % 2) 1 ≡ e
    at k true = rw (mul-add-mod_self_left 2 k 1) refl
    at k false = rw (mul-add-mod_self_left 2 k 0) refl

pub half : (k : ℕ) (a : Bool) → (2 * k + cond a 1 0) / 2 ≡ k
half k true = let l : (2 * k + 1) % 2 < 2 = mod-lt (2 * k + 1) (omega arith) in omega (arith, div-add-mod (2 * k + 1) 2)
half k false = let l : (2 * k + 0) % 2 < 2 = mod-lt (2 * k + 0) (omega arith) in omega (arith, div-add-mod (2 * k + 0) 2)

entry_place : (x : Compared) → entry x / 2 ≡ x.window + x.place
unfolding entry
entry_place x = half (x.window + x.place) x.equal

-- And is known by them.
pub known_by : (v k : ℕ) (a : Bool) → v / 2 ≡ k → eqb (v % 2) 1 ≡ a → v ≡ 2 * k + cond a 1 0
known_by v k true p q = omega (arith, div-add-mod v 2, eqb-true (v % 2) 1 q)
known_by v k false p q = let l : v % 2 < 2 = mod-lt v (omega arith) in let z = eqb-false (v % 2) 1 q in omega (arith, div-add-mod v 2)

entry_is : (x : Compared) (v : ℕ) → v / 2 ≡ x.window + x.place → eqb (v % 2) 1 ≡ x.equal → v ≡ entry x
unfolding entry
entry_is x v p a = known_by v (x.window + x.place) x.equal p a

-- ---- All entries

pub length_journal : (made : List Compared) → length (journal_of made) ≡ length made
unfolding journal_of
length_journal [] = refl
length_journal (x ∷ made) = omega (arith, length-append (journal_of made) (entry x ∷ []), length_journal made)

-- Earlier comparisons have the earlier entries.
journal_append : (more made : List Compared) → journal_of (more ++ made) ≡ journal_of made ++ journal_of more
unfolding journal_of
journal_append [] made = sym (append-nil (journal_of made))
journal_append (x ∷ more) made = rw (journal_append more made) (append_assoc (journal_of made) (journal_of more) (entry x ∷ []))

-- A comparison has the entry of its number.
pub entry_at : (more : List Compared) (x : Compared) (made : List Compared) → get_or (journal_of (more ++ (x ∷ made))) (length made) 0 ≡ entry x
unfolding journal_of
entry_at more x made = rw (journal_append more (x ∷ made), append_assoc (journal_of made) (entry x ∷ []) (journal_of more), ← length_journal made)
    (get_or-append_seam (journal_of made) (entry x) (journal_of more) 0)

-- ---- A journal that begins with them

module _ (made : List Compared) where
  entry_in : (later : List ℕ) (x : Compared) → get_or (journal_of (x ∷ made) ++ later) (length made) 0 ≡ entry x
  unfolding journal_of
  entry_in later x = rw (append_assoc (journal_of made) (entry x ∷ []) later, ← length_journal made)
      (get_or-append_seam (journal_of made) (entry x) later 0)

-- It answers them as they were answered.
begins_answers : (n : ℕ) (made : List Compared) (later : List ℕ) → Answered (journal_source n (journal_of made ++ later)) made
unfolding journal_of
begins_answers n [] later = tt
begins_answers n (x ∷ made) later = (
  ap (λ v. eqb (v % 2) 1) (entry_in made later x) ∙ entry_answers x,
  subst (λ (l : List ℕ). Answered (journal_source n l) made) (sym (append_assoc (journal_of made) (entry x ∷ []) later)) (begins_answers n made (entry x ∷ later)),
)

pub own_answers : (n : ℕ) (made : List Compared) → Answered (journal_source n (journal_of made)) made
own_answers n made = rw append-nil at (begins_answers n made [])

and-true : (a b : Bool) → a ≡ true → b ≡ true → (a && b) ≡ true
and-true a b e f = rw (e, f) refl

-- And has their places.
begins_placed : (made : List Compared) (later : List ℕ) → placed (journal_of made ++ later) made ≡ true
unfolding journal_of placed
begins_placed [] later = refl
begins_placed (x ∷ made) later = and-true _ _
    (eq-eqb _ _ (ap (λ v. v / 2) (entry_in made later x) ∙ entry_place x))
    (subst (λ (l : List ℕ). placed l made ≡ true) (sym (append_assoc (journal_of made) (entry x ∷ []) later)) (begins_placed made (entry x ∷ later)))

pub own_placed : (made : List Compared) → placed (journal_of made) made ≡ true
own_placed made = rw append-nil at (begins_placed made [])

-- One that answers them so, and has their places, begins with their journal.
pub placed_begins : (n : ℕ) (journal : List ℕ) (made : List Compared) → Answered (journal_source n journal) made → placed journal made ≡ true
    → length made ≤ length journal → journal_of made ≡ take (length made) journal
unfolding journal_of placed
placed_begins n journal [] A P l = refl
placed_begins n journal (x ∷ made) A P l =
    rw (take-suc journal (length made) 0 l, placed_begins n journal made A.1 both.1 (omega arith))
    (ap (λ v. take (length made) journal ++ (v ∷ [])) (sym (entry_is x (get_or journal (length made) 0) here A.0)))
  where
    both : (eqb (get_or journal (length made) 0 / 2) (x.window + x.place) ≡ true) × (placed journal made ≡ true)
    both = both_true (eqb (get_or journal (length made) 0 / 2) (x.window + x.place)) (placed journal made) P

    here : get_or journal (length made) 0 / 2 ≡ x.window + x.place
    here = eqb-true (get_or journal (length made) 0 / 2) (x.window + x.place) both.0
