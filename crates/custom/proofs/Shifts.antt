-- What rules a distance out, and the shifts of a custom order. Assumes nothing.
use Prim.Native.Nat.{ℕ, ◌-◌, ◌≤◌, ◌<◌}
use mathlib.Core.Path.{◌≡◌, refl, ap}
use mathlib.Core.Logic.{⊎_elim}
use mathlib.Core.Bool.{Bool, true, false, not, or-true}
use mathlib.Core.List.{List}
use native.Mathlib.Omega.{arith}
use lib.ListN.{length, get_or}
use borrow.Author.Tests.{lt-ltb, le-ltb, le-leb, lt-leb, eq-eqb, ne_eqb}
use Rattle.words.specs.Numbers.{first, some}
use Rattle.words.specs.Tables.{letter}
use Rattle.words.proofs.Cases.{less_or, true_or_false, not_both}
use Rattle.words.proofs.Numbers.{first_is, first_unique, some_of, some_is}
use Rattle.words.proofs.Shifts.{Moves}
use Rattle.custom.specs.Custom.{match_rules_out, mismatch_rules_out, present_rules_out, earlier_rule_out, ruled_out, custom_shift}

-- ---- By one place

module _ (w : List ℕ) (p k : ℕ) where
  pub match_rules : k ≤ p → (letter w p ≡ letter w (p - k) → ⊥) → match_rules_out w p k ≡ true
  unfolding match_rules_out
  match_rules l differ = rw (le-leb k p l, ne_eqb _ _ differ) refl

  pub match_allows : (k ≤ p → letter w p ≡ letter w (p - k)) → match_rules_out w p k ≡ false
  unfolding match_rules_out
  match_allows same = ⊎_elim
      (λ (a : p < k). rw (lt-leb k p a) refl)
      (λ (a : k ≤ p). rw (le-leb k p a, eq-eqb _ _ (same a)) refl)
      (less_or p k)

  pub mismatch_rules : k ≤ p → letter w p ≡ letter w (p - k) → mismatch_rules_out w p k ≡ true
  unfolding mismatch_rules_out
  mismatch_rules l same = rw (le-leb k p l, eq-eqb _ _ same) refl

  pub mismatch_allows : (k ≤ p → letter w p ≡ letter w (p - k) → ⊥) → mismatch_rules_out w p k ≡ false
  unfolding mismatch_rules_out
  mismatch_allows differ = ⊎_elim
      (λ (a : p < k). rw (lt-leb k p a) refl)
      (λ (a : k ≤ p). rw (le-leb k p a, ne_eqb _ _ (differ a)) refl)
      (less_or p k)

-- ---- By what is known in a window

module _ (w order : List ℕ) (i k : ℕ) where
  -- There is a mismatch at each rank below m.
  pub present_is : i < length w → present_rules_out w order i k ≡ mismatch_rules_out w (get_or order i 0) k
  unfolding present_rules_out
  present_is l = rw (lt-ltb i (length w) l) refl

  pub present_none : length w ≤ i → present_rules_out w order i k ≡ false
  unfolding present_rules_out
  present_none l = rw (le-ltb i (length w) l) refl

  -- The present mismatch rules k out,
  pub by_mismatch : present_rules_out w order i k ≡ true → ruled_out w order i k ≡ true
  unfolding ruled_out
  by_mismatch e = rw e refl

  -- or an earlier match does,
  pub by_match : (j : ℕ) → j < i → match_rules_out w (get_or order j 0) k ≡ true → ruled_out w order i k ≡ true
  unfolding ruled_out earlier_rule_out
  by_match j l e = rw (some_of 0 i (λ j. match_rules_out w (get_or order j 0) k) j (omega arith) l e) (or-true (present_rules_out w order i k))

  -- and nothing else.
  pub by_nothing : present_rules_out w order i k ≡ false → ((j : ℕ) → j < i → match_rules_out w (get_or order j 0) k ≡ false)
      → ruled_out w order i k ≡ false
  unfolding ruled_out earlier_rule_out
  by_nothing present earlier = rw (present, none) refl
    where
      rules : ℕ → Bool
      rules j = match_rules_out w (get_or order j 0) k

      none : some 0 i rules ≡ false
      none = ⊎_elim
          (λ (e : some 0 i rules ≡ true).
          let l = some_is 0 i rules e in
          absurd (not_both _ ((first_is 0 i rules (omega arith)).found l) (earlier (first 0 i rules) l)))
          (λ (e : some 0 i rules ≡ false). e)
          (true_or_false (some 0 i rules))

-- ---- The shifts

module _ (w order : List ℕ) (i : ℕ) (some_letter : 1 ≤ length w) where
  -- The shift is the first distance that is not ruled out,
  pub record Shift (s : ℕ) : Type 0 where
    pub on : 1 ≤ s
    pub upto : s ≤ length w
    pub passed : (k : ℕ) → 1 ≤ k → k < s → ruled_out w order i k ≡ true
    pub stays : s < length w → ruled_out w order i s ≡ false

  flipped : (b : Bool) → not b ≡ false → b ≡ true
  flipped true e = refl
  flipped false e = absurd (not_both true refl e)

  straight : (b : Bool) → not b ≡ true → b ≡ false
  straight true e = absurd (not_both false e refl)
  straight false e = refl

  pub shift_is : Shift (custom_shift w order i)
  unfolding custom_shift
  shift_is =
      let F = first_is 1 (length w) (λ k. not (ruled_out w order i k)) some_letter in
      record {
        on = F.from;
        upto = F.upto;
        passed = λ k l g. flipped _ (F.passed k l g);
        stays = λ l. straight _ (F.found l);
      }

  -- and no other is.
  pub shift_only : (s : ℕ) → Shift s → s ≡ custom_shift w order i
  unfolding custom_shift
  shift_only s S = first_unique 1 (length w) (λ k. not (ruled_out w order i k)) s (first 1 (length w) (λ k. not (ruled_out w order i k)))
      record { from = S.on; upto = S.upto; passed = λ k l g. ap not (S.passed k l g); found = λ l. ap not (S.stays l) }
      (first_is 1 (length w) (λ k. not (ruled_out w order i k)) some_letter)

  pub shift_moves : Moves w (custom_shift w order i)
  shift_moves = record { on = shift_is.on; upto = shift_is.upto }
