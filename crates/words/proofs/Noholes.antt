-- What hmax, nohole, kmin and rmin of a word are, and how its noholes are counted: the rest of part A of the proof. Assumes nothing.
use Prim.Native.Nat.{ℕ, suc, ◌+◌, ◌-◌, ◌*◌, ◌/◌, ◌≤◌, ◌<◌, min}
use mathlib.Core.Path.{◌≡◌, refl, ap, ◌∙◌}
use mathlib.Core.Logic.{◌⊎◌, inl, inr, ⊎_elim, ◌↔◌}
use mathlib.Core.Bool.{Bool, true, false, not, ◌&&◌}
use mathlib.Core.List.{List}
use native.Mathlib.Omega.{arith}
use lib.Dec.{ltb, eqb}
use lib.ListN.{length}
use borrow.Author.Tests.{ltb-true, lt-ltb, eqb-true, eqb-false, eq-eqb, not-true, not-false}
use Rattle.words.specs.Numbers.{count}
use Rattle.words.specs.Tables.{letter, period, hmax, nohole, hole, kmin, rmin, below}
use Rattle.words.proofs.Cases.{less_or, true_or_false, both_true, not_both}
use Rattle.words.proofs.Numbers.{First, first_is, first_unique, some_of, some_is, every_of, every_is, count_split, count_mono, count-either, pigeonholes}
use Rattle.words.proofs.Periods.{Periodic, MaxPP, early_break, longest_up, longest_down, longest_unique}

module _ (w : List ℕ) where
  -- ---- Periods of the whole word

  pub period_iff : (k : ℕ) → (period w k ≡ true) ↔ Periodic (letter w) k (length w)
  unfolding period
  period_iff k = (
    λ e x y s l. ap (letter w) s ∙ eqb-true _ _ (every_is (length w - k) (λ p. eqb (letter w (p + k)) (letter w p)) e x (omega arith)),
    λ P. every_of (length w - k) (λ p. eqb (letter w (p + k)) (letter w p)) (λ i l. eq-eqb _ _ (P i (i + k) refl (omega arith))),
  )

  -- The length is always a period.
  pub length_period : period w (length w) ≡ true
  length_period = (period_iff (length w)).1 (λ x y e l. absurd (omega arith))

  -- ---- hmax

  -- The prefix that hmax(k) measures: it has period k, and where it ends inside the word it is the longest that has.
  pub record Hmax (k h : ℕ) : Type 0 where
    pub from : k ≤ h
    pub upto : h ≤ length w
    pub periodic : Periodic (letter w) k h
    pub longest : h < length w → MaxPP (letter w) k h

  pub hmax_is : (k : ℕ) → 1 ≤ k → k ≤ length w → Hmax k (hmax w k)
  unfolding hmax
  hmax_is k pos le = record {
    from = F.from;
    upto = F.upto;
    periodic = per;
    longest = λ l. record {
      positive = pos;
      from = F.from;
      periodic = per;
      breaks = λ x e q. eqb-false _ _ (not-true _ (F.found l)) (q ∙ ap (letter w) (omega arith));
    };
  }
    where
      F : First k (length w) (λ p. not (eqb (letter w p) (letter w (p - k)))) (hmax w k)
      F = first_is k (length w) (λ p. not (eqb (letter w p) (letter w (p - k)))) le

      per : Periodic (letter w) k (hmax w k)
      per x y e l = eqb-true _ _ (not-false _ (F.passed y (omega arith) l)) ∙ ap (letter w) (omega arith)

  -- No letter differs from itself: at 0 it is m.
  pub hmax_zero : hmax w 0 ≡ length w
  unfolding hmax
  hmax_zero =
      let differs : ℕ → Bool = λ p. not (eqb (letter w p) (letter w (p - 0))) in
      first_unique 0 (length w) differs (hmax w 0) (length w) (first_is 0 (length w) differs (omega arith)) record {
        from = omega arith;
        upto = omega arith;
        passed = λ i a l. ap not (eq-eqb _ _ (ap (letter w) (omega arith)));
        found = λ l. absurd (omega arith);
      }

  pub hmax_of : (k h : ℕ) → h < length w → MaxPP (letter w) k h → hmax w k ≡ h
  hmax_of k h l M =
      let H = hmax_is k M.positive (omega arith) in
      ⊎_elim
      (λ (a : hmax w k < length w). longest_unique (letter w) k (hmax w k) h (H.longest a) M)
      (λ (a : length w ≤ hmax w k). absurd (M.breaks (h - k) (omega arith) (H.periodic (h - k) h (omega arith) (omega arith))))
      (less_or (hmax w k) (length w))

  -- ---- Noholes and kmin

  pub kmin_is : (p : ℕ) → First 1 (suc (length w)) (λ k. eqb (hmax w k) p) (kmin w p)
  unfolding kmin
  kmin_is p = first_is 1 (suc (length w)) (λ k. eqb (hmax w k) p) (omega arith)

  pub nohole_inside : (p : ℕ) → nohole w p ≡ true → p < length w
  unfolding nohole
  nohole_inside p e = ltb-true p (length w) (both_true (ltb p (length w)) _ e).0

  pub nohole_of : (k p : ℕ) → p < length w → MaxPP (letter w) k p → nohole w p ≡ true
  unfolding nohole
  nohole_of k p l M =
      rw (lt-ltb p (length w) l)
      (some_of 1 (suc (length w)) (λ k. eqb (hmax w k) p) k M.positive (omega arith) (eq-eqb _ _ (hmax_of k p l M)))

  -- A place below m is a nohole exactly if kmin finds a k.
  pub nohole_kmin : (p : ℕ) → nohole w p ≡ true → kmin w p ≤ length w
  unfolding nohole kmin
  nohole_kmin p e = let h = some_is 1 (suc (length w)) (λ k. eqb (hmax w k) p) (both_true (ltb p (length w)) _ e).1 in omega arith

  pub kmin_nohole : (p : ℕ) → p < length w → kmin w p ≤ length w → nohole w p ≡ true
  kmin_nohole p l h =
      let k : ℕ = kmin w p in
      let K = kmin_is p in
      let e : hmax w k ≡ p = eqb-true _ _ (K.found (omega arith)) in
      nohole_of k p l (rw e at ((hmax_is k K.from h).longest (rw e l)))

  pub kmin_hole : (p : ℕ) → length w < kmin w p → nohole w p ≡ false
  kmin_hole p l = ⊎_elim (λ e. absurd (omega (arith, nohole_kmin p e))) (λ e. e) (true_or_false (nohole w p))

  pub past_hole : (p : ℕ) → length w ≤ p → nohole w p ≡ false
  past_hole p l = ⊎_elim (λ e. absurd (omega (arith, nohole_inside p e))) (λ e. e) (true_or_false (nohole w p))

  pub nohole_is : (p : ℕ) → nohole w p ≡ true → MaxPP (letter w) (kmin w p) p
  nohole_is p e =
      let k : ℕ = kmin w p in
      let K = kmin_is p in
      let h : k ≤ length w = nohole_kmin p e in
      let s : hmax w k ≡ p = eqb-true _ _ (K.found (omega arith)) in
      rw s at ((hmax_is k K.from h).longest (rw s (nohole_inside p e)))

  -- No smaller k has its longest prefix end there.
  pub kmin_least : (p k : ℕ) → 1 ≤ k → k < kmin w p → hmax w k ≡ p → ⊥
  kmin_least p k l h = eqb-false _ _ ((kmin_is p).passed k l h)

  pub zero_hole : nohole w 0 ≡ false
  zero_hole = ⊎_elim (λ e. absurd (omega (arith, nohole_is 0 e))) (λ e. e) (true_or_false (nohole w 0))

  -- Every place is one or the other.
  pub hole_false : (p : ℕ) → nohole w p ≡ true → hole w p ≡ false
  unfolding hole
  hole_false p e = rw e refl

  pub hole_true : (p : ℕ) → nohole w p ≡ false → hole w p ≡ true
  unfolding hole
  hole_true p e = rw e refl

  -- ---- rmin

  -- r is the least period above p.
  pub record LeastPeriod (p r : ℕ) : Type 0 where
    pub above : p < r
    pub upto : r ≤ length w
    pub periodic : Periodic (letter w) r (length w)
    pub least : (k : ℕ) → p < k → k < r → Periodic (letter w) k (length w) → ⊥

  pub rmin_is : (p : ℕ) → p < length w → LeastPeriod p (rmin w p)
  unfolding rmin
  rmin_is p l = record {
    above = F.from;
    upto = upto;
    periodic = (period_iff _).0 (F.found (omega (arith, upto)));
    least = λ k a b P. not_both (period w k) ((period_iff k).1 P) (F.passed k a b);
  }
    where
      F : First (suc p) (suc (length w)) (period w) (rmin w p)
      F = first_is (suc p) (suc (length w)) (period w) (omega arith)

      upto : rmin w p ≤ length w
      upto = ⊎_elim
          (λ (a : length w < rmin w p). absurd (not_both (period w (length w)) length_period (F.passed (length w) l a)))
          (λ (a : rmin w p ≤ length w). a)
          (less_or (length w) (rmin w p))

  -- ---- Counting the noholes of a prefix with period p

  -- A special nohole p + i breaks a period below p.
  special : ℕ → ℕ → Bool
  special p i = nohole w (p + i) && ltb (kmin w (p + i)) p

  -- Two numbers that share a cell of the fold of 2 .. p - 1, and do not lie opposite, are one.
  cells : (p k l : ℕ) → k < p → 2 ≤ k → l < p → 2 ≤ l → p + 2 ≤ k + l → min k (p + 1 - k) - 2 ≡ min l (p + 1 - l) - 2 → k ≡ l
  cells p k l a b c d far e = omega arith

  -- A prefix of j places with period p, j = p + d.
  module _ (p d j : ℕ) (sum : j ≡ p + d) (pos : 1 ≤ p) (inside : j ≤ length w) (P : Periodic (letter w) p j) where
    up : (i : ℕ) → i < d → nohole w i ≡ true → nohole w (p + i) ≡ true
    up i l e =
        nohole_of (kmin w i + p) (p + i) (omega arith)
        (longest_up (letter w) p j (kmin w i) i _ _ refl (omega arith) (omega arith) P (nohole_is i e))

    -- A4. A nohole below d shifts up by p to a nohole below j.
    pub shifted_noholes : below w d + below w p ≤ below w j
    unfolding below
    shifted_noholes = rw sum (omega (arith, count_split p d (nohole w), count_mono d (nohole w) (λ i. nohole w (p + i)) up))

    -- Every nohole above p comes so from a nohole, or is special.
    down_or_special : (i : ℕ) → i < d → nohole w (p + i) ≡ true → (nohole w i ≡ true) ⊎ (special p i ≡ true)
    unfolding special
    down_or_special i l e =
        let k : ℕ = kmin w (p + i) in
        let M : MaxPP (letter w) k (p + i) = nohole_is (p + i) e in
        ⊎_elim
        (λ (a : k < p). inr (rw (e, lt-ltb _ _ a)))
        (⊎_elim
        (λ (b : p < k) (a : p ≤ k).
        inl (nohole_of (k - p) i (omega arith)
        (longest_down (letter w) p j (k - p) i k (p + i) (omega arith) (omega arith) (omega arith) (omega arith) P M)))
        (λ (b : k ≤ p) (a : p ≤ k). absurd (M.breaks i (omega arith) (P i (p + i) (omega arith) (omega arith))))
        (less_or p k))
        (less_or k p)

    record Special (i k : ℕ) : Type 0 where
      pub small : k < p
      pub large : 2 ≤ k
      pub longest : MaxPP (letter w) k (p + i)

    special_is : (i : ℕ) → i < d → special p i ≡ true → Special i (kmin w (p + i))
    unfolding special
    special_is i l e =
        let s = both_true (nohole w (p + i)) (ltb (kmin w (p + i)) p) e in
        let M = nohole_is (p + i) s.0 in
        record { small = ltb-true _ _ s.1; large = omega (arith, early_break (letter w) p _ (p + i) j pos (omega arith) P M); longest = M }

    -- Two special noholes break periods of different cells.
    apart : (i j k l : ℕ) → i < j → Special i k → Special j l → min k (p + 1 - k) - 2 ≡ min l (p + 1 - l) - 2 → ⊥
    apart i j k l lt S T e =
        let b : p + i + 2 ≤ k + l = early_break (letter w) l k (p + i) (p + j) T.longest.positive (omega arith) T.longest.periodic S.longest in
        let z : k ≡ l = cells p k l S.small S.large T.small T.large (omega arith) e in
        let q : p + i ≡ p + j = longest_unique (letter w) l (p + i) (p + j) (rw z at S.longest) T.longest in
        omega arith

    few_special : 2 * count d (special p) + 1 ≤ p
    few_special =
        let n : count d (special p) ≤ (p - 1) / 2 =
        pigeonholes (special p) (λ i. min (kmin w (p + i)) (p + 1 - kmin w (p + i)) - 2) ((p - 1) / 2) d
        (λ i l e. let S = special_is i l e in omega arith)
        (λ i j a b e g. apart i j _ _ a (special_is i (omega arith) e) (special_is j b g)) in
        omega arith

    -- A5. Few noholes below j are new.
    pub few_new_noholes : 2 * below w j + 1 ≤ 2 * below w d + 2 * below w p + p
    unfolding below
    few_new_noholes = rw sum (omega (arith, count_split p d (nohole w), count-either d (λ i. nohole w (p + i)) (nohole w) (special p) down_or_special, few_special))
