-- Periods of a word, over the function f that gives the letter at each place: part A of the proof, up to the shift of longest
-- prefixes. Assumes nothing.
use Prim.Native.Nat.{ℕ, zero, suc, ◌+◌, ◌-◌, ◌≤◌, ◌<◌}
use mathlib.Core.Path.{◌≡◌, refl, sym, ap, ◌∙◌}
use mathlib.Core.Logic.{◌⊎◌, inl, inr, ⊎_elim}
use native.Mathlib.Omega.{arith}
use Rattle.words.proofs.Cases.{less_or}

-- The first L places have period k: a place y below L that lies k above x has the letter of x.
abbrev pub Periodic : (ℕ → ℕ) → ℕ → ℕ → Type 0
Periodic f k L = (x y : ℕ) → y ≡ x + k → y < L → f y ≡ f x

-- Colussi's MaxPP(k, h): the longest prefix with period k has h places, and place h breaks the period.
pub record MaxPP (f : ℕ → ℕ) (k h : ℕ) : Type 0 where
  pub positive : 1 ≤ k
  pub from : k ≤ h
  pub periodic : Periodic f k h
  pub breaks : (x : ℕ) → h ≡ x + k → f h ≡ f x → ⊥

module _ (f : ℕ → ℕ) where
  pub periodic_prefix : (k : ℕ) {L M : ℕ} → M ≤ L → Periodic f k L → Periodic f k M
  periodic_prefix k l P x y e h = P x y e (omega arith)

  -- Of the first a + b + 1 places with periods a + 1 and b + 1, the first b have the difference of the two for a period.
  difference : (a b L : ℕ) → a < b → a + b < L → Periodic f (suc a) L → Periodic f (suc b) L → Periodic f (suc (b - suc a)) b
  difference a b L h lt P Q x y e l = sym (P y (y + suc a) refl (omega arith)) ∙ Q x (y + suc a) (omega arith) (omega arith)

  -- By Euclid's subtractions, n of them at most.
  subtract : (n a b L : ℕ) → a + b ≤ n → a + b < L → Periodic f (suc a) L → Periodic f (suc b) L → f a ≡ f b
  subtract zero a b L le lt P Q = ap f (omega arith)
  subtract (suc n) a b L le lt P Q =
      ⊎_elim
      (λ (h : a < b).
      subtract n a (b - suc a) b (omega arith) (omega arith) (periodic_prefix (suc a) (omega arith) P) (difference a b L h lt P Q)
      ∙ sym (P (b - suc a) b (omega arith) (omega arith)))
      (⊎_elim
      (λ (g : b < a) (h : b ≤ a).
      Q (a - suc b) a (omega arith) (omega arith)
      ∙ subtract n (a - suc b) b a (omega arith) (omega arith) (difference b a L g (omega arith) Q P) (periodic_prefix (suc b) (omega arith) Q))
      (λ (g : a ≤ b) (h : b ≤ a). ap f (omega arith))
      (less_or b a))
      (less_or a b)

  -- A1. Two periods p and k of the first p + k - 1 places give places p - 1 and k - 1 one letter.
  pub two_periods : (p k L : ℕ) → 1 ≤ p → 1 ≤ k → p + k ≤ L + 1 → Periodic f p L → Periodic f k L → f (p - 1) ≡ f (k - 1)
  two_periods p k L hp hk l P Q =
      subtract (p + k) (p - 1) (k - 1) L (omega arith) (omega arith)
      (λ x y e h. P x y (omega arith) h) (λ x y e h. Q x y (omega arith) h)

  -- A2. In a prefix with period p, a place that breaks the period k is early.
  pub early_break : (p k h L : ℕ) → 1 ≤ p → h < L → Periodic f p L → MaxPP f k h → h + 2 ≤ k + p
  early_break p k h L hp lt P M = ⊎_elim (λ (a : h + 1 < k + p). omega arith) (λ (a : k + p ≤ h + 1). absurd (late a (less_or h (k + p)))) (less_or (h + 1) (k + p))
    where
      late : k + p ≤ h + 1 → (h < k + p) ⊎ (k + p ≤ h) → ⊥
      late a (inl b) =
          M.breaks (p - 1) (omega arith)
          (P (k - 1) h (omega arith) lt
          ∙ sym (two_periods p k h hp M.positive (omega arith) (periodic_prefix p (omega arith) P) M.periodic))
      late a (inr b) =
          M.breaks (h - k) (omega arith)
          (P (h - p) h (omega arith) lt ∙ M.periodic (h - k - p) (h - p) (omega arith) (omega arith)
          ∙ sym (P (h - k - p) (h - k) (omega arith) (omega arith)))

  -- A3. In a prefix with period r, a longest prefix with period k shifts up by r to one with period k + r,
  pub longest_up : (r L k h K H : ℕ) → K ≡ k + r → H ≡ h + r → H < L → Periodic f r L → MaxPP f k h → MaxPP f K H
  longest_up r L k h K H eK eH lt R M = record {
    positive = omega arith;
    from = omega arith;
    periodic = λ x y e l. R (y - r) y (omega arith) (omega arith) ∙ M.periodic x (y - r) (omega arith) (omega arith);
    breaks = λ x e q. M.breaks x (omega arith) (sym (R h H eH lt) ∙ q);
  }

  -- and down again.
  pub longest_down : (r L k h K H : ℕ) → K ≡ k + r → H ≡ h + r → H < L → 1 ≤ k → Periodic f r L → MaxPP f K H → MaxPP f k h
  longest_down r L k h K H eK eH lt pos R M = record {
    positive = pos;
    from = omega arith;
    periodic = λ x y e l. sym (R y (y + r) refl (omega arith)) ∙ M.periodic x (y + r) (omega arith) (omega arith);
    breaks = λ x e q. M.breaks x (omega arith) (R h H eH lt ∙ q);
  }

  pub longest_unique : (k h i : ℕ) → MaxPP f k h → MaxPP f k i → h ≡ i
  longest_unique k h i M N =
      ⊎_elim
      (λ (a : h < i). absurd (M.breaks (h - k) (omega arith) (N.periodic (h - k) h (omega arith) a)))
      (⊎_elim
      (λ (b : i < h) (a : i ≤ h). absurd (N.breaks (i - k) (omega arith) (M.periodic (i - k) i (omega arith) b)))
      (λ (b : h ≤ i) (a : i ≤ h). omega arith)
      (less_or i h))
      (less_or h i)
