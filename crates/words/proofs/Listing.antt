-- The lists of the numbers that pass a test: what stands at each index. Assumes nothing.
use Prim.Native.Nat.{ℕ, zero, suc, ◌+◌, ◌≤◌, ◌<◌}
use mathlib.Core.Path.{◌≡◌, refl, sym, ap, ◌∙◌}
use mathlib.Core.Logic.{⊎_elim}
use mathlib.Core.Bool.{Bool, true, false, not}
use mathlib.Core.List.{[], ◌∷◌, ◌++◌}
use native.Mathlib.Omega.{arith}
use lib.ListN.{length, get_or, length-append, get_or-append}
use lib.Seq.{get_or-append_seam}
use Rattle.words.specs.Numbers.{count, ascending, descending}
use Rattle.words.proofs.Cases.{less_or, true_or_false}
use Rattle.words.proofs.Numbers.{count_zero, count_hit, count_miss}

module _ (q : ℕ → Bool) where
  -- ---- Ascending

  pub ascending_hit : (n : ℕ) → q n ≡ true → ascending (suc n) q ≡ ascending n q ++ (n ∷ [])
  unfolding ascending
  ascending_hit n e = rw (e, ascending) refl

  pub ascending_miss : (n : ℕ) → q n ≡ false → ascending (suc n) q ≡ ascending n q
  unfolding ascending
  ascending_miss n e = rw (e, ascending) refl

  pub length_ascending : (n : ℕ) → length (ascending n q) ≡ count n q
  unfolding ascending
  length_ascending zero = sym (count_zero q)
  length_ascending (suc n) = ⊎_elim
      (λ e. rw (ascending_hit n e, count_hit n q e) (length-append (ascending n q) (n ∷ []) ∙ omega (arith, length_ascending n)))
      (λ e. rw (ascending_miss n e, count_miss n q e) (length_ascending n))
      (true_or_false (q n))

  -- p stands at the index i: it passes, and i numbers below it do.
  pub record AscendingAt (n i p : ℕ) : Type 0 where
    pub inside : p < n
    pub passes : q p ≡ true
    pub index : count p q ≡ i

  pub ascending_at : (n i : ℕ) → i < length (ascending n q) → AscendingAt n i (get_or (ascending n q) i 0)
  unfolding ascending
  ascending_at zero i l = absurd (omega arith)
  ascending_at (suc n) i l = ⊎_elim
      (λ e. rw (ascending_hit n e) (hit e (rw (ascending_hit n e) at l) (ascending_at n i)))
      (λ e. rw (ascending_miss n e) (later (ascending_at n i (rw (ascending_miss n e) at l))))
      (true_or_false (q n))
    where
      later : {p : ℕ} → AscendingAt n i p → AscendingAt (suc n) i p
      later A = record { inside = omega (arith, A.inside); passes = A.passes; index = A.index }

      hit : q n ≡ true → i < length (ascending n q ++ (n ∷ []))
          → (i < length (ascending n q) → AscendingAt n i (get_or (ascending n q) i 0))
          → AscendingAt (suc n) i (get_or (ascending n q ++ (n ∷ [])) i 0)
      hit e g before = ⊎_elim
          (λ (a : i < length (ascending n q)). rw (get_or-append (ascending n q) (n ∷ []) 0 i a) (later (before a)))
          (λ (a : length (ascending n q) ≤ i).
          let z : i ≡ length (ascending n q) = omega (arith, length-append (ascending n q) (n ∷ [])) in
          rw (z, get_or-append_seam (ascending n q) n [] 0) record { inside = omega arith; passes = e; index = sym (length_ascending n) })
          (less_or i (length (ascending n q)))

  -- ---- Descending

  descending_hit : (n : ℕ) → q n ≡ true → descending (suc n) q ≡ n ∷ descending n q
  unfolding descending
  descending_hit n e = rw (e, descending) refl

  descending_miss : (n : ℕ) → q n ≡ false → descending (suc n) q ≡ descending n q
  unfolding descending
  descending_miss n e = rw (e, descending) refl

  pub length_descending : (n : ℕ) → length (descending n q) ≡ count n q
  unfolding descending
  length_descending zero = sym (count_zero q)
  length_descending (suc n) = ⊎_elim
      (λ e. rw (descending_hit n e, count_hit n q e) (ap suc (length_descending n)))
      (λ e. rw (descending_miss n e, count_miss n q e) (length_descending n))
      (true_or_false (q n))

  -- p stands at the index i: it passes, and i numbers above it do.
  pub record DescendingAt (n i p : ℕ) : Type 0 where
    pub inside : p < n
    pub passes : q p ≡ true
    pub index : i + 1 + count p q ≡ count n q

  pub descending_at : (n i : ℕ) → i < length (descending n q) → DescendingAt n i (get_or (descending n q) i 0)
  unfolding descending
  descending_at zero i l = absurd (omega arith)
  descending_at (suc n) i l = ⊎_elim
      (λ e. rw (descending_hit n e) (hit e i (rw (descending_hit n e) at l) (descending_at n)))
      (λ e.
      let D = descending_at n i (rw (descending_miss n e) at l) in
      rw (descending_miss n e) record { inside = omega arith; passes = D.passes; index = omega (arith, D.index, count_miss n q e) })
      (true_or_false (q n))
    where
      hit : q n ≡ true → (i : ℕ) → i < length (n ∷ descending n q)
          → ((i : ℕ) → i < length (descending n q) → DescendingAt n i (get_or (descending n q) i 0))
          → DescendingAt (suc n) i (get_or (n ∷ descending n q) i 0)
      hit e zero g after = record { inside = omega arith; passes = e; index = omega (arith, count_hit n q e) }
      hit e (suc i) g after =
          let D = after i (omega arith) in
          record { inside = omega arith; passes = D.passes; index = omega (arith, D.index, count_hit n q e) }

-- The numbers below n that fail a test.
pub count_not : (n : ℕ) (q : ℕ → Bool) → count n q + count n (λ i. not (q i)) ≡ n
unfolding count
count_not zero q = refl
count_not (suc n) q = ⊎_elim (λ e. rw e (omega (arith, count_not n q))) (λ e. rw e (omega (arith, count_not n q))) (true_or_false (q n))
