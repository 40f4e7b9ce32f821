-- The search for a distance that is not ruled out, in the terms of the code. Assumes nothing.
use Prim.Native.Nat.{ℕ, ◌+◌, ◌≤◌, ◌<◌}
use mathlib.Core.Path.{◌≡◌}
use mathlib.Core.Bool.{true, false}
use mathlib.Core.List.{List}
use native.Mathlib.Omega.{arith}
use lib.ListN.{length, get_or, set, replicate, length-set, length-replicate, get_or-replicate}
use borrow.Author.Count.{below_more}
use Rattle.hmax.proofs.Stores.{after_store}
use Rattle.custom.specs.Custom.{match_rules_out, present_rules_out, ruled_out, custom_shift}
use Rattle.custom.specs.Table.{named_places}
use Rattle.custom.specs.Internal.{Passed}
use Rattle.custom.proofs.Shifts.{by_mismatch, by_match, by_nothing, shift_only}

-- ---- What is known of each distance

-- Nothing, at first.
pub none_passed : (w order : List ℕ) → length w ≤ named_places → Passed w order (replicate named_places 0)
none_passed w order short = record {
  size = omega (arith, length-replicate {A = ℕ} named_places 0);
  allow = λ k j l g. absurd (omega (arith, get_or-replicate {A = ℕ} named_places k 0 0 (omega arith)));
}

-- Of distance k, that the first v ranks do not rule it out.
pub passed_more : (w order passed : List ℕ) (k v : ℕ) → k < length w → Passed w order passed
    → ((j : ℕ) → j < v → match_rules_out w (get_or order j 0) k ≡ false) → Passed w order (set passed k v)
passed_more w order passed k v inside P allow = record {
  size = rw (length-set passed k v) P.size;
  allow = λ d j l. after_store passed k v (λ x. j < x → match_rules_out w (get_or order j 0) d ≡ false) d (omega (arith, P.size))
      (λ same g. rw same (allow j g))
      (λ other g. P.allow d j l g);
}

-- ---- The distances, one after the other

module _ (w order : List ℕ) (i : ℕ) where
  -- Distance k is tried: those from 1 on and below it are ruled out.
  pub record Tries (passed : List ℕ) (k : ℕ) : Type 0 where
    pub on : 1 ≤ k
    pub upto : k ≤ length w
    pub rejected : (d : ℕ) → d < k → 1 ≤ d → ruled_out w order i d ≡ true
    pub known : Passed w order passed

  -- The present mismatch does not rule it out, nor do the matches at the first j ranks.
  pub record Tests (passed : List ℕ) (k j : ℕ) : Type 0 where
    pub tries : Tries passed k
    pub inside : k < length w
    pub present : present_rules_out w order i k ≡ false
    pub allow : (r : ℕ) → r < j → match_rules_out w (get_or order r 0) k ≡ false

  module _ {passed : List ℕ} {k : ℕ} where
    -- It is rejected, for the next one.
    next_tried : {later : List ℕ} → Tries passed k → k < length w → ruled_out w order i k ≡ true → Passed w order later → Tries later (k + 1)
    next_tried T inside out P =
        record { on = omega arith; upto = omega arith; rejected = below_more _ k T.rejected (λ g. out); known = P }

    pub rejected_at_once : Tries passed k → k < length w → present_rules_out w order i k ≡ true → Tries passed (k + 1)
    rejected_at_once T inside out = next_tried T inside (by_mismatch w order i k out) T.known

    -- What is known of it spares the first ranks.
    pub tests_start : Tries passed k → k < length w → present_rules_out w order i k ≡ false → {j : ℕ} → j ≡ get_or passed k 0 → Tests passed k j
    tests_start T inside present read =
        record { tries = T; inside = inside; present = present; allow = λ r l. T.known.allow k r inside (omega arith) }

    module _ {j : ℕ} (T : Tests passed k j) where
      pub tests_more : match_rules_out w (get_or order j 0) k ≡ false → Tests passed k (j + 1)
      tests_more allows = record { tries = T.tries; inside = T.inside; present = T.present; allow = below_more _ j T.allow allows }

      pub tests_reject : match_rules_out w (get_or order j 0) k ≡ true → j < i → Tries (set passed k j) (k + 1)
      tests_reject out l = next_tried T.tries T.inside (by_match w order i k j l out) (passed_more w order passed k j T.inside T.tries.known T.allow)

      -- No rank rules it out: it is the shift.
      pub tests_end : 1 ≤ length w → i ≤ j → {v : ℕ} → v ≤ j → (k ≡ custom_shift w order i) × Passed w order (set passed k v)
      tests_end some l {v} within = (
        shift_only w order i some k record {
          on = T.tries.on;
          upto = T.tries.upto;
          passed = λ d a b. T.tries.rejected d b a;
          stays = λ g. by_nothing w order i k T.present (λ r h. T.allow r (omega arith));
        },
        passed_more w order passed k v T.inside T.tries.known (λ r h. T.allow r (omega arith)),
      )

    -- All below m are ruled out: it is m.
    pub tries_end : 1 ≤ length w → Tries passed k → length w ≤ k → (k ≡ custom_shift w order i) × Passed w order passed
    tries_end some T l = (
      shift_only w order i some k record {
        on = T.on;
        upto = T.upto;
        passed = λ d a b. T.rejected d b a;
        stays = λ g. absurd (omega arith);
      },
      T.known,
    )
