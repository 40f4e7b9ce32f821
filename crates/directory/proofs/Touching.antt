-- Records that touch: each starts where the one before it ends. Assumes nothing.
use Prim.Native.Nat.{ℕ, zero, suc, ◌+◌, ◌*◌, ◌≤◌, ◌<◌}
use mathlib.Core.Path.{◌≡◌, refl}
use mathlib.Core.Logic.{⊎_elim}
use mathlib.Core.Bool.{Bool, true, false}
use mathlib.Core.List.{List}
use native.Mathlib.Numerals.{add-one}
use native.Mathlib.Omega.{arith}
use lib.Dec.{eqb}
use borrow.Author.Tests.{eqb-true, eq-eqb}
use Rattle.words.specs.Numbers.{every}
use Rattle.words.proofs.Cases.{less_or, true_or_false, both_true}
use Rattle.words.proofs.Numbers.{every_of, every_is}
use Rattle.directory.specs.Archive.{entry_size, number_at, start_of, length_of, end_of, end_before, touch}

module _ (a : List ℕ) (d : ℕ) where
  -- The first n records touch.
  abbrev pub Touch : ℕ → Type 0
  Touch n = (r : ℕ) → r < n → start_of a d r ≡ end_before a d r

  pub touch_more : (n : ℕ) → Touch n → start_of a d n ≡ end_before a d n → Touch (n + 1)
  touch_more n T e r l = ⊎_elim
      (λ (h : r < n). T r h)
      (λ (h : n ≤ r). let z : r ≡ n = omega arith in rw z e)
      (less_or r n)

  -- The end of a record, as the code adds it up.
  pub end_more : (n : ℕ) {start len : ℕ} → start ≡ number_at a (d + entry_size * n) → len ≡ number_at a (d + entry_size * n + 4)
      → start + len ≡ end_before a d (n + 1)
  unfolding end_before end_of start_of length_of
  end_more n e f = rw (add-one n, e, f) refl

  -- Record r starts where the one before it ends, as a test.
  abbrev follows : ℕ → Bool
  follows r = eqb (start_of a d r) (end_before a d r)

  pub touched : (n : ℕ) → Touch n → touch a d n ≡ eqb (end_before a d n) d
  unfolding touch
  touched n T = rw (every_of n follows (λ r l. eq-eqb _ _ (T r l))) refl

  pub apart : (n r : ℕ) → r < n → (start_of a d r ≡ end_before a d r → ⊥) → touch a d n ≡ false
  unfolding touch
  apart n r l differ = ⊎_elim
      (λ e. absurd (differ (eqb-true _ _ (every_is n follows (both_true (every n follows) _ e).0 r l))))
      (λ e. e)
      (true_or_false (touch a d n))

  pub touch_is : (n : ℕ) → touch a d n ≡ true → Touch n × (end_before a d n ≡ d)
  unfolding touch
  touch_is n e =
      let h = both_true (every n follows) _ e in
      (λ r l. eqb-true _ _ (every_is n follows h.0 r l), eqb-true _ _ h.1)

  pub touch_of : (n : ℕ) → Touch n → end_before a d n ≡ d → touch a d n ≡ true
  touch_of n T e = rw (touched n T) (eq-eqb (end_before a d n) d e)

  -- No record ends past the last.
  pub ends_by : (n r : ℕ) → Touch n → r < n → end_of a d r ≤ end_before a d n
  unfolding end_before end_of
  ends_by zero r T l = absurd (omega arith)
  ends_by (suc n) r T l = ⊎_elim
      (λ (h : r < n). omega (arith, ends_by n r (λ i g. T i (omega arith)) h, T n (omega arith)))
      (λ (h : n ≤ r). let z : r ≡ n = omega arith in rw z (omega arith))
      (less_or r n)

-- What a walk over the records needs.
pub ruleset walking = (touch_more, end_more, touched, apart)
