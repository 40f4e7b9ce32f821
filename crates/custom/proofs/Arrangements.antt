-- What the test of an arrangement says, and that an arrangement has every place. Assumes nothing.
use Prim.Native.Nat.{ℕ, zero, suc, ◌≤◌, ◌<◌}
use mathlib.Core.Path.{◌≡◌, refl, sym, ◌∙◌}
use mathlib.Core.Logic.{◌↔◌, ⊎_elim}
use mathlib.Core.Bool.{true, false}
use mathlib.Core.List.{List}
use native.Mathlib.Omega.{arith}
use lib.Dec.{ltb, eqb}
use lib.ListN.{length, get_or}
use borrow.Author.Tests.{lt-ltb, le-ltb, ltb-true, eq-eqb, ne_eqb, eqb-true, eqb-false, not-true}
use Rattle.words.specs.Numbers.{first, count}
use Rattle.words.proofs.Cases.{less_or, both_true}
use Rattle.words.proofs.Numbers.{first_is, every_of, every_is, pigeonholes}
use Rattle.custom.specs.Order.{Arrangement, new_place, arranged}

-- ---- The test

module _ (m : ℕ) (order : List ℕ) where
  -- Of one entry.
  pub record NewPlace (i : ℕ) : Type 0 where
    pub inside : get_or order i 0 < m
    pub apart : (j : ℕ) → j < i → get_or order j 0 ≡ get_or order i 0 → ⊥

  pub new_place_is : (i : ℕ) → new_place m order i ≡ true → NewPlace i
  unfolding new_place
  new_place_is i e =
      let h = both_true (ltb (get_or order i 0) m) _ e in
      record { inside = ltb-true _ _ h.0; apart = λ j l. eqb-false _ _ (not-true _ (every_is i _ h.1 j l)) }

  pub new_place_of : (i : ℕ) → NewPlace i → new_place m order i ≡ true
  unfolding new_place
  new_place_of i N = rw (lt-ltb _ _ N.inside) (every_of i _ (λ j l. rw (ne_eqb _ _ (N.apart j l)) refl))

  -- Of all.
  arrangement : arranged m order ≡ true → Arrangement m order
  unfolding arranged
  arrangement e =
      let h = both_true (eqb (length order) m) _ e in
      let new : (i : ℕ) → i < m → NewPlace i = λ i l. new_place_is i (every_is m _ h.1 i l) in
      record { size = eqb-true _ _ h.0; inside = λ i l. (new i l).inside; apart = λ i j l g. (new j g).apart i l }

  arranged_of : Arrangement m order → arranged m order ≡ true
  unfolding arranged
  arranged_of A = rw (eq-eqb _ _ A.size)
      (every_of m _ (λ i l. new_place_of i record { inside = A.inside i l; apart = λ j g. A.apart j i g l }))

  pub arranged_is : (arranged m order ≡ true) ↔ Arrangement m order
  arranged_is = (arrangement, arranged_of)

-- ---- Every place

-- All numbers pass.
all : (n : ℕ) → count n (λ i. true) ≡ n
unfolding count
all zero = refl
all (suc n) = omega (arith, all n)

-- The place p once more, behind the m of the order.
with_one : ℕ → List ℕ → ℕ → ℕ → ℕ
with_one m order p i = elim (ltb i m) [ true ↦ get_or order i 0 | false ↦ p ]

with_one_early : (m : ℕ) (order : List ℕ) (p i : ℕ) → i < m → with_one m order p i ≡ get_or order i 0
unfolding with_one
with_one_early m order p i l = rw (lt-ltb i m l, with_one) refl

with_one_last : (m : ℕ) (order : List ℕ) (p i : ℕ) → m ≤ i → with_one m order p i ≡ p
unfolding with_one
with_one_last m order p i l = rw (le-ltb i m l, with_one) refl

module _ (m : ℕ) (order : List ℕ) (A : Arrangement m order) where
  -- Otherwise m + 1 different places would be below m.
  too_many : (p : ℕ) → p < m → ((i : ℕ) → i < m → get_or order i 0 ≡ p → ⊥) → ⊥
  too_many p l other = omega (
    arith,
    all (suc m),
    pigeonholes (λ i. true) (with_one m order p) m (suc m)
        (λ i g t. ⊎_elim
        (λ (a : i < m). rw (with_one_early m order p i a) (A.inside i a))
        (λ (a : m ≤ i). rw (with_one_last m order p i a) l)
        (less_or i m))
        (λ i j g h t t' q. ⊎_elim
        (λ (a : j < m). A.apart i j g a (sym (with_one_early m order p i (omega arith)) ∙ q ∙ with_one_early m order p j a))
        (λ (a : m ≤ j). other i (omega arith) (sym (with_one_early m order p i (omega arith)) ∙ q ∙ with_one_last m order p j a))
        (less_or j m)),
  )

  -- A place of the pattern has a rank.
  pub has_place : (p : ℕ) → p < m → (i : ℕ) × (i < m) × (get_or order i 0 ≡ p)
  has_place p l =
      let r : ℕ = first 0 m (λ i. eqb (get_or order i 0) p) in
      let F = first_is 0 m (λ i. eqb (get_or order i 0) p) (omega arith) in
      ⊎_elim
      (λ (a : r < m). (r, a, eqb-true _ _ (F.found a)))
      (λ (a : m ≤ r). absurd (too_many p l (λ i g. eqb-false _ _ (F.passed i (omega arith) (omega arith)))))
      (less_or r m)
