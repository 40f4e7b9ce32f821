-- The first number that passes a test, whether some or all do, and how many do. Assumes nothing.
use Prim.Native.Nat.{ℕ, zero, suc, ◌+◌, ◌-◌, ◌≤◌, ◌<◌}
use mathlib.Core.Path.{◌≡◌, refl, sym, ap, ◌∙◌}
use mathlib.Core.Logic.{◌⊎◌, ⊎_elim}
use mathlib.Core.Bool.{Bool, true, false, not, ◌&&◌, cond, true≢false}
use native.Mathlib.Omega.{arith}
use lib.Dec.{eqb}
use borrow.Author.Tests.{ltb-true, lt-ltb, eq-eqb, ne_eqb}
use Rattle.words.specs.Numbers.{first_of, first, some, every, count}
use Rattle.words.proofs.Cases.{less_or, true_or_false, both_true, not_both}

-- ---- The first

-- r is the first number from a on and below b that passes q, or b where none does.
pub record First (a b : ℕ) (q : ℕ → Bool) (r : ℕ) : Type 0 where
  pub from : a ≤ r
  pub upto : r ≤ b
  pub passed : (i : ℕ) → a ≤ i → i < r → q i ≡ false
  pub found : r < b → q r ≡ true

first_of_is : (n a : ℕ) (q : ℕ → Bool) → First a (a + n) q (first_of n a q)
unfolding first_of
first_of_is zero a q = record { from = omega arith; upto = omega arith; passed = λ i g h. absurd (omega arith); found = λ h. absurd (omega arith) }
first_of_is (suc n) a q = go (q a) refl (first_of_is n (suc a) q)
  where
    go : (t : Bool) → q a ≡ t → First (suc a) (suc a + n) q (first_of n (suc a) q)
        → First a (a + suc n) q (elim t [ true ↦ a | false ↦ first_of n (suc a) q ])
    go true e R = record { from = omega arith; upto = omega arith; passed = λ i g h. absurd (omega arith); found = λ h. e }
    go false e R = record {
      from = omega (arith, R.from);
      upto = omega (arith, R.upto);
      passed = λ i g h. ⊎_elim (λ (l : a < i). R.passed i l h) (λ (l : i ≤ a). ap q (omega arith) ∙ e) (less_or a i);
      found = λ h. R.found (omega arith);
    }

pub first_is : (a b : ℕ) (q : ℕ → Bool) → a ≤ b → First a b q (first a b q)
unfolding first
first_is a b q l = let e : a + (b - a) ≡ b = omega arith in rw e at (first_of_is (b - a) a q)

pub first_unique : (a b : ℕ) (q : ℕ → Bool) (r s : ℕ) → First a b q r → First a b q s → r ≡ s
first_unique a b q r s R S = ⊎_elim
    (λ (l : r < s). absurd (not_both (q r) (R.found (omega (arith, S.upto))) (S.passed r R.from l)))
    (λ (l : s ≤ r). ⊎_elim
    (λ (g : s < r). absurd (not_both (q s) (S.found (omega (arith, R.upto))) (R.passed s S.from g)))
    (λ (g : r ≤ s). omega arith)
    (less_or s r))
    (less_or r s)

-- ---- Some, every

pub some_of : (a b : ℕ) (q : ℕ → Bool) (i : ℕ) → a ≤ i → i < b → q i ≡ true → some a b q ≡ true
unfolding some
some_of a b q i l h e =
    let F = first_is a b q (omega arith) in
    lt-ltb (first a b q) b
    (⊎_elim
    (λ (g : i < first a b q). absurd (not_both (q i) e (F.passed i l g)))
    (λ (g : first a b q ≤ i). omega arith)
    (less_or i (first a b q)))

pub some_is : (a b : ℕ) (q : ℕ → Bool) → some a b q ≡ true → first a b q < b
unfolding some
some_is a b q e = ltb-true (first a b q) b e

pub every_of : (n : ℕ) (q : ℕ → Bool) → ((i : ℕ) → i < n → q i ≡ true) → every n q ≡ true
unfolding every
every_of zero q h = refl
every_of (suc n) q h = rw (h n (omega arith)) (every_of n q (λ i l. h i (omega arith)))

pub every_is : (n : ℕ) (q : ℕ → Bool) → every n q ≡ true → (i : ℕ) → i < n → q i ≡ true
unfolding every
every_is zero q e i l = absurd (omega arith)
every_is (suc n) q e i l =
    let h = both_true (q n) (every n q) e in
    ⊎_elim (λ (a : i < n). every_is n q h.1 i a) (λ (a : n ≤ i). ap q (omega arith) ∙ h.0) (less_or i n)

-- ---- How many

pub count_zero : (q : ℕ → Bool) → count 0 q ≡ 0
unfolding count
count_zero q = refl

pub count_hit : (n : ℕ) (q : ℕ → Bool) → q n ≡ true → count (suc n) q ≡ suc (count n q)
unfolding count
count_hit n q e = rw e (omega arith)

pub count_miss : (n : ℕ) (q : ℕ → Bool) → q n ≡ false → count (suc n) q ≡ count n q
unfolding count
count_miss n q e = rw e (omega arith)

-- What one number adds to a count.
bit_mono : (a b : Bool) → (a ≡ true → b ≡ true) → cond {A = ℕ} a 1 0 ≤ cond b 1 0
bit_mono true true h = omega arith
bit_mono true false h = absurd (true≢false (sym (h refl)))
bit_mono false true h = omega arith
bit_mono false false h = omega arith

bit_either : (a b c : Bool) → (a ≡ true → (b ≡ true) ⊎ (c ≡ true)) → cond {A = ℕ} a 1 0 ≤ cond b 1 0 + cond c 1 0
bit_either true b c h = ⊎_elim (λ e. rw e (omega arith)) (λ e. rw e (omega arith)) (h refl)
bit_either false b c h = omega arith

pub count_le : (n : ℕ) (q : ℕ → Bool) → count n q ≤ n
unfolding count
count_le zero q = omega arith
count_le (suc n) q = omega (arith, count_le n q, bit_mono (q n) true (λ e. refl))

-- The numbers below a sum of two bounds.
pub count_split : (p n : ℕ) (q : ℕ → Bool) → count (p + n) q ≡ count p q + count n (λ i. q (p + i))
unfolding count
count_split p zero q = let e : p + 0 ≡ p = omega arith in rw e (omega arith)
count_split p (suc n) q = let e : p + suc n ≡ suc (p + n) = omega arith in rw e (omega (arith, count_split p n q))

-- A test that passes wherever another does counts as many.
pub count_mono : (n : ℕ) (q t : ℕ → Bool) → ((i : ℕ) → i < n → q i ≡ true → t i ≡ true) → count n q ≤ count n t
unfolding count
count_mono zero q t h = omega arith
count_mono (suc n) q t h = omega (arith, bit_mono (q n) (t n) (h n (omega arith)), count_mono n q t (λ i l. h i (omega arith)))

-- Tests that agree count as many, and one that never passes counts none.
pub count_same : (n : ℕ) (q t : ℕ → Bool) → ((i : ℕ) → i < n → q i ≡ t i) → count n q ≡ count n t
unfolding count
count_same zero q t h = refl
count_same (suc n) q t h = rw (h n (omega arith), count_same n q t (λ i l. h i (omega arith))) refl

pub count_none : (n : ℕ) (q : ℕ → Bool) → ((i : ℕ) → i < n → q i ≡ false) → count n q ≡ 0
count_none zero q h = count_zero q
count_none (suc n) q h = count_miss n q (h n (omega arith)) ∙ count_none n q (λ i l. h i (omega arith))

-- Two tests of which one passes wherever a third does count as many together.
pub count-either :
    (n : ℕ) (q s t : ℕ → Bool) → ((i : ℕ) → i < n → q i ≡ true → (s i ≡ true) ⊎ (t i ≡ true)) → count n q ≤ count n s + count n t
unfolding count
count-either zero q s t h = omega arith
count-either (suc n) q s t h =
    omega (arith, bit_either (q n) (s n) (t n) (h n (omega arith)), count-either n q s t (λ i l. h i (omega arith)))

-- Counts, and what they leave over, grow with the bound.
pub count_grows : (a b : ℕ) (q : ℕ → Bool) → a ≤ b → count a q ≤ count b q
count_grows a b q h = let e : a + (b - a) ≡ b = omega arith in omega (arith, rw e at (count_split a (b - a) q))

pub rest_grows : (a b : ℕ) (q : ℕ → Bool) → a ≤ b → a + count b q ≤ b + count a q
rest_grows a b q h =
    let e : a + (b - a) ≡ b = omega arith in
    omega (arith, rw e at (count_split a (b - a) q), count_le (b - a) (λ i. q (a + i)))

-- Two numbers that pass, with as many below them, are one.
pub count_unique : (q : ℕ → Bool) (x y : ℕ) → q x ≡ true → q y ≡ true → count x q ≡ count y q → x ≡ y
count_unique q x y e f h = ⊎_elim
    (λ (a : x < y). absurd (omega (arith, count_hit x q e, count_grows (suc x) y q a)))
    (λ (a : y ≤ x). ⊎_elim
    (λ (b : y < x). absurd (omega (arith, count_hit y q f, count_grows (suc y) x q b)))
    (λ (b : x ≤ y). omega arith)
    (less_or y x))
    (less_or x y)

-- ---- Pigeonholes

-- The test t without the number c.
without : (ℕ → Bool) → ℕ → ℕ → Bool
without t c i = t i && not (eqb i c)

without_other : (t : ℕ → Bool) (c i : ℕ) → (i ≡ c → ⊥) → without t c i ≡ t i
unfolding without
without_other t c i h = rw (ne_eqb i c h) (go (t i))
  where
    go : (b : Bool) → (b && true) ≡ b
    go true = refl
    go false = refl

without_self : (t : ℕ → Bool) (c i : ℕ) → i ≡ c → without t c i ≡ false
unfolding without
without_self t c i h = rw (eq-eqb i c h) (go (t i))
  where
    go : (b : Bool) → (b && false) ≡ false
    go true = refl
    go false = refl

count_without : (t : ℕ → Bool) (c n : ℕ) → c < n → t c ≡ true → suc (count n (without t c)) ≤ count n t
unfolding count
count_without t c zero l e = absurd (omega arith)
count_without t c (suc n) l e =
    ⊎_elim
    (λ (h : c < n). rw (without_other t c n (λ g. omega arith)) (omega (arith, count_without t c n h e)))
    (λ (h : n ≤ c).
    let same : n ≡ c = omega arith in
    let m : count n (without t c) ≤ count n t = count_mono n (without t c) t (λ i g k. unfold without in (both_true (t i) (not (eqb i c)) k).0) in
    rw (without_self t c n same, ap t same ∙ e) (omega arith))
    (less_or c n)

-- An injection g of the numbers below d that pass q into those below n that pass t.
pigeon :
    (q : ℕ → Bool) (g : ℕ → ℕ) (n d : ℕ) (t : ℕ → Bool)
    → ((i : ℕ) → i < d → q i ≡ true → (g i < n) × (t (g i) ≡ true))
    → ((i j : ℕ) → i < j → j < d → q i ≡ true → q j ≡ true → g i ≡ g j → ⊥)
    → count d q ≤ count n t
unfolding count
pigeon q g n zero t into apart = omega arith
pigeon q g n (suc d) t into apart =
    ⊎_elim
    (λ e.
    let h = into d (omega arith) e in
    let r : count d q ≤ count n (without t (g d)) =
    pigeon q g n d (without t (g d))
    (λ i l k. ((into i (omega arith) k).0, without_other t (g d) (g i) (apart i d l (omega arith) k e) ∙ (into i (omega arith) k).1))
    (λ i j a b. apart i j a (omega arith)) in
    rw e (omega (arith, count_without t (g d) n h.0 h.1)))
    (λ e. rw e (omega (arith, pigeon q g n d t (λ i l. into i (omega arith)) (λ i j a b. apart i j a (omega arith)))))
    (true_or_false (q d))

-- Pigeonholes: where the numbers below d that pass q go to different numbers below n, at most n of them pass.
pub pigeonholes :
    (q : ℕ → Bool) (g : ℕ → ℕ) (n d : ℕ)
    → ((i : ℕ) → i < d → q i ≡ true → g i < n)
    → ((i j : ℕ) → i < j → j < d → q i ≡ true → q j ≡ true → g i ≡ g j → ⊥)
    → count d q ≤ n
pigeonholes q g n d into apart =
    omega (arith, pigeon q g n d (λ i. true) (λ i l k. (into i l k, refl)) apart, count_le n (λ i. true))
