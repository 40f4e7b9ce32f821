-- The search in any arrangement of the places lists exactly the occurrences (part L of the proof). Assumes nothing.
use Prim.Native.Nat.{ℕ, suc, ◌+◌, ◌-◌, ◌≤◌, ◌<◌}
use mathlib.Core.Path.{◌≡◌, refl, sym, ap, ◌∙◌, subst}
use mathlib.Core.Logic.{inl, inr, ⊎_elim}
use mathlib.Core.Bool.{false}
use mathlib.Core.List.{List}
use native.Mathlib.Omega.{arith}
use lib.ListN.{length, get_or}
use Rattle.words.specs.Tables.{letter}
use Rattle.words.proofs.Cases.{less_or, not_both}
use Rattle.rules.specs.Occurs.{Occurs}
use Rattle.rules.specs.Rules.{edge_after}
use Rattle.rules.specs.Colussi.{colussi}
use Rattle.rules.specs.Internal.Passing.{Established}
use Rattle.rules.specs.declared.Ending.TheVariants.{Done}
use Rattle.rules.proofs.Rules.{edge_kept}
use Rattle.rules.proofs.Method.{Left, Method, Finds, finds}
use Rattle.rules.proofs.Occurs.{None}
use Rattle.rules.proofs.Excluded.{Same}
use Rattle.rules.proofs.Following.{Ranges}
use Rattle.rules.proofs.ColussiMethod.{colussi_finds}
use Rattle.custom.specs.Order.{Arrangement}
use Rattle.custom.specs.Custom.{match_rules_out, present_rules_out, ruled_out, custom_shift, custom_plan, custom}
use Rattle.custom.proofs.Arrangements.{has_place}
use Rattle.custom.proofs.Shifts.{match_allows, mismatch_allows, present_is, present_none, by_nothing, shift_is, shift_moves}

-- The known edge never moves.
pub edge_stays : (order w : List ℕ) (i b e : ℕ) → i ≤ length w → edge_after (custom_plan order w) i b e ≡ e
edge_stays order w i b e l = edge_kept (custom_plan order w) i b e (omega arith)

pub custom_ranges : (order w : List ℕ) → 1 ≤ length w → Ranges (custom_plan order w)
custom_ranges order w some = record {
  some = some;
  moving = λ i l. (shift_moves w order i some).on;
  shifts = λ i l. (shift_moves w order i some).upto;
  nexts = λ i l. omega arith;
}

-- ---- A distance at which the pattern occurs is not ruled out

module _ (w t : List ℕ) (b k : ℕ) (O : Occurs w t (b + k)) where
  -- The letter that comes under the text's at place p of window b.
  under : (p : ℕ) → k ≤ p → p < length w → letter w (p - k) ≡ letter t (b + p)
  under p l g = O.same (p - k) (omega arith) ∙ ap (letter t) (omega arith)

  not_by_match : (p : ℕ) → p < length w → Same w t b p → match_rules_out w p k ≡ false
  not_by_match p l same = match_allows w p k (λ g. same ∙ sym (under p g l))

  not_by_mismatch : (order : List ℕ) → Arrangement (length w) order → (i : ℕ) → (i < length w → Same w t b (get_or order i 0) → ⊥)
      → present_rules_out w order i k ≡ false
  not_by_mismatch order A i differ = ⊎_elim
      (λ (a : i < length w). present_is w order i k a
      ∙ mismatch_allows w (get_or order i 0) k (λ g same. differ a (same ∙ under (get_or order i 0) g (A.inside i a))))
      (λ (a : length w ≤ i). present_none w order i k a)
      (less_or i (length w))

-- ---- The method

module _ (order w t : List ℕ) (some : 1 ≤ length w) (A : Arrangement (length w) order) where
  -- In window b at rank i the places of the earlier ranks agree, and no edge is known.
  pub record Holds (b i e c : ℕ) : Type 0 where
    pub rank : i ≤ length w
    pub edge : e ≡ 0
    pub agree : (j : ℕ) → j < i → Same w t b (get_or order j 0)

  -- There is no bound on the count.
  abbrev pub Under : ℕ → ℕ → Type 0
  Under b c = Unit {0}

  -- The next window is compared afresh.
  left_with : (from b i e c : ℕ) → e ≡ 0 → i ≤ length w → None w t from (b + custom_shift w order i)
      → Left (custom_plan order w) w t Holds from b i e c
  left_with from b i e c none l N = record {
    holds = record { rank = omega arith; edge = edge_stays order w i b e l ∙ none; agree = λ j g. absurd (omega arith) };
    none = N;
  }

  -- Where the places of the earlier ranks agree, no distance below the shift is one at which the pattern occurs.
  none_before : (b i k : ℕ) → i ≤ length w → ((j : ℕ) → j < i → Same w t b (get_or order j 0))
      → (i < length w → Same w t b (get_or order i 0) → ⊥) → 1 ≤ k → k < custom_shift w order i → Occurs w t (b + k) → ⊥
  none_before b i k upto agree differ l g O = not_both (ruled_out w order i k)
      ((shift_is w order i some).passed k l g)
      (by_nothing w order i k
      (not_by_mismatch w t b k O order A i differ)
      (λ j h. not_by_match w t b k O (get_or order j 0) (A.inside j (omega arith)) (agree j h)))

  module _ (b i e c : ℕ) (H : Holds b i e c) where
    -- Every place has a rank.
    established_occurs : b + length w ≤ length t → Established (custom_plan order w) b i e → Occurs w t b
    established_occurs fits (inl l) = record {
      inside = fits;
      same = λ p g. let r = has_place (length w) order A p g in rw r.2 at (H.agree r.0 (omega (arith, r.1)));
    }
    established_occurs fits (inr l) = absurd (omega (arith, H.edge))

    after_listed : Occurs w t b → Left (custom_plan order w) w t Holds (suc b) b (length w) e c
    after_listed O = left_with (suc b) b (length w) e c H.edge (omega arith) λ x l g P.
        none_before b (length w) (x - b) (omega arith) (λ j h. O.same (get_or order j 0) (A.inside j h)) (λ h. absurd (omega arith))
        (omega arith) (omega arith) (subst (Occurs w t) (omega arith) P)

    module _ (rank : i < length w) where
      after_matched : Same w t b (get_or order i 0) → Holds b (suc i) e (suc c)
      after_matched q = record {
        rank = rank;
        edge = H.edge;
        agree = λ j l. ⊎_elim
            (λ (a : j < i). H.agree j a)
            (λ (a : i ≤ j). let z : i ≡ j = omega arith in rw z at q)
            (less_or j i);
      }

      after_missed : (Same w t b (get_or order i 0) → ⊥) → Left (custom_plan order w) w t Holds b b i e (suc c)
      after_missed differ = left_with b b i e (suc c) H.edge (omega arith) λ x l g P. ⊎_elim
          (λ (a : b < x). none_before b i (x - b) (omega arith) H.agree (λ h. differ)
          (omega arith) (omega arith) (subst (Occurs w t) (omega arith) P))
          (λ (a : x ≤ b). let z : x ≡ b = omega arith in differ ((rw z at P).same (get_or order i 0) (A.inside i rank)))
          (less_or b x)

  pub method : Method (custom_plan order w) w t Holds Under
  method = record {
    letters = refl;
    some = some;
    moving = λ i l. (shift_moves w order i some).on;
    begins = record { rank = omega arith; edge = refl; agree = λ j l. absurd (omega arith) };
    under = λ b i e c H. tt;
    occurs = established_occurs;
    listed = after_listed;
    counted = λ b i e c H d. tt;
    matched = λ b i e c H d q. after_matched b i e c H d.rank q;
    missed = λ b i e c H d q. after_missed b i e c H d.rank q;
  }

  -- ---- The promises

  -- Demand 2.
  pub custom_finds : (cap size : ℕ) → Finds (custom order) w t cap size
  custom_finds cap size = finds (custom_plan order w) w t Holds Under method (custom order) (λ cap size. unfold custom in refl) cap size

  -- Run to their ends, it and the search in Colussi's order list the same positions, whatever the caps and the lists' sizes are.
  pub same_as_colussi : (cap size cap' size' : ℕ) → (colussi w t cap size).ending ≡ Done → (custom order w t cap' size').ending ≡ Done
      → (colussi w t cap size).last.found ≡ (custom order w t cap' size').last.found
  same_as_colussi cap size cap' size' C K =
      (rw C at (colussi_finds w t some cap size).exactly) ∙ sym (rw K at (custom_finds cap' size').exactly)
