-- How a packed batch is split at a length byte. Assumes nothing.
use Prim.Native.Nat.{ℕ, zero, suc, ◌≤◌, ◌<◌}
use mathlib.Core.Path.{◌≡◌, refl, ap, ◌∙◌}
use mathlib.Core.Bool.{true, false}
use mathlib.Core.Logic.{⊎_elim}
use mathlib.Core.List.{List, [], ◌∷◌}
use native.Mathlib.Omega.{arith}
use lib.ListN.{length, take, drop, length-drop}
use Rattle.std.specs.List.{slice_range}
use Rattle.std.proofs.lemmas.List.{nil_from_length, take_all}
use Rattle.words.proofs.Cases.{less_or, not_both}
use Rattle.packed.specs.Packed.{patterns_after, whole_after, patterns, whole}

-- ---- The bytes that an earlier pattern still has, passed

patterns_past : (n : ℕ) (s : List ℕ) → patterns_after n s ≡ patterns_after 0 (drop n s)
unfolding patterns_after
patterns_past zero s = refl
patterns_past (suc n) [] = refl
patterns_past (suc n) (x ∷ s) = patterns_past n s

whole_past : (n : ℕ) (s : List ℕ) → n ≤ length s → whole_after n s ≡ whole_after 0 (drop n s)
unfolding whole_after
whole_past zero s h = refl
whole_past (suc n) [] h = absurd (omega arith)
whole_past (suc n) (x ∷ s) h = whole_past n s (omega arith)

whole_short : (n : ℕ) (s : List ℕ) → length s < n → whole_after n s ≡ false
unfolding whole_after
whole_short zero s h = absurd (omega arith)
whole_short (suc n) [] h = refl
whole_short (suc n) (x ∷ s) h = whole_short n s (omega arith)

-- ---- At a length byte

module _ (len : ℕ) (rest : List ℕ) where
  pub patterns_cons : patterns (len ∷ rest) ≡ take len rest ∷ patterns (drop len rest)
  unfolding patterns patterns_after
  patterns_cons = ap (λ (l : List (List ℕ)). take len rest ∷ l) (patterns_past len rest)

  pub whole_cons : len ≤ length rest → whole (len ∷ rest) ≡ whole (drop len rest)
  unfolding whole whole_after
  whole_cons h = whole_past len rest h

  pub whole_cut : length rest < len → whole (len ∷ rest) ≡ false
  unfolding whole whole_after
  whole_cut h = whole_short len rest h

  -- The bytes of a whole batch's pattern are there.
  pub whole_room : whole (len ∷ rest) ≡ true → len ≤ length rest
  whole_room w =
      ⊎_elim (λ (a : length rest < len). absurd (not_both (whole (len ∷ rest)) w (whole_cut a))) (λ (a : len ≤ length rest). a)
      (less_or (length rest) len)

  -- The same where a slice is read: what is left past the pattern's bytes.
  module _ {s left : List ℕ} (is : s ≡ len ∷ rest) (room : len ≤ length rest) (left_is : left ≡ slice_range rest len (length rest)) where
    left_past : left ≡ drop len rest
    left_past = left_is ∙ take_all _ (drop len rest) (omega (arith, length-drop len rest))

    pub whole_past_one : whole s ≡ whole left
    whole_past_one = rw (is, left_past) (whole_cons room)

    pub patterns_past_one : patterns s ≡ take len rest ∷ patterns left
    patterns_past_one = rw (is, left_past) patterns_cons

-- ---- Past the last byte

module _ (s : List ℕ) (past : length s ≡ 0) where
  pub patterns_end : patterns s ≡ []
  unfolding patterns patterns_after
  patterns_end = rw (nil_from_length s past) refl

  pub whole_end : whole s ≡ true
  unfolding whole whole_after
  whole_end = rw (nil_from_length s past) refl
