-- A window is left by the first k whose hmax is the matched length: that is KMP's shift, and the entries passed follow from hmax. Assumes
-- nothing.
use Prim.Native.Nat.{ℕ, zero, suc, ◌+◌, ◌-◌, ◌≤◌, ◌<◌, min}
use mathlib.Core.Path.{◌≡◌, ap, ◌∙◌}
use mathlib.Core.Logic.{⊎_elim}
use mathlib.Core.Bool.{true, false}
use mathlib.Core.List.{List}
use native.Mathlib.Omega.{arith}
use lib.ListN.{length}
use Rattle.words.specs.Tables.{letter, hmax, nohole, kmin, rmin}
use Rattle.words.proofs.Cases.{less_or, true_or_false}
use Rattle.words.proofs.Periods.{Periodic}
use Rattle.words.proofs.Noholes.{hmax_is, hmax_of, nohole_is, rmin_is}
use Rattle.rules.specs.Kmp.{kmp_shift}
use Rattle.rules.proofs.Excluded.{Same}
use Rattle.rules.proofs.KmpMethod.{kmp_shift_nohole, kmp_shift_hole, kmp_shift_last, mismatch_shift}
use Rattle.prefixes.specs.Longest.{longest}
use Rattle.prefixes.proofs.Entries.{entry}

-- s is the first k from 1 on and below an end with hmax(k) = i, or that end.
pub record Leaves (w : List ℕ) (i end s : ℕ) : Type 0 where
  pub on : 1 ≤ s
  pub upto : s ≤ end
  pub passed : (k : ℕ) → 1 ≤ k → k < s → hmax w k ≡ i → ⊥
  pub found : s < end → hmax w s ≡ i

leaves_unique : (w : List ℕ) (i end r s : ℕ) → Leaves w i end r → Leaves w i end s → r ≡ s
leaves_unique w i end r s R S = ⊎_elim
    (λ (a : r < s). absurd (S.passed r R.on a (R.found (omega (arith, S.upto)))))
    (λ (a : s ≤ r). ⊎_elim
    (λ (b : s < r). absurd (R.passed s S.on b (S.found (omega (arith, R.upto)))))
    (λ (b : r ≤ s). omega arith)
    (less_or s r))
    (less_or r s)

module _ (w : List ℕ) (some : 1 ≤ length w) where
  -- KMP's shift is that of k up to i, or i + 1.
  pub kmp_leaves : (i : ℕ) → i ≤ length w → Leaves w i (suc i) (kmp_shift w i)
  kmp_leaves i le = ⊎_elim
      (λ (a : i < length w).
      let S = mismatch_shift w i a in
      record {
        on = S.on;
        upto = S.upto;
        passed = λ k p h. (S.least k p h).1;
        found = ⊎_elim
            (λ (e : nohole w i ≡ true) (l : kmp_shift w i < suc i). rw (kmp_shift_nohole w i e) (hmax_of w (kmin w i) i a (nohole_is w i e)))
            (λ (e : nohole w i ≡ false) (l : kmp_shift w i < suc i). absurd (omega (arith, kmp_shift_hole w i a e)))
            (true_or_false (nohole w i));
      })
      (λ (a : length w ≤ i).
      let e : i ≡ length w = omega arith in
      let R = rmin_is w 0 some in
      let H = hmax_is w (rmin w 0) R.above R.upto in
      rw (e, kmp_shift_last w) record {
        on = R.above;
        upto = omega (arith, R.upto);
        passed = λ k p h z. R.least k p h (rw z at (hmax_is w k p (omega (arith, R.upto))).periodic);
        found = λ l. ⊎_elim
            (λ (b : hmax w (rmin w 0) < length w).
            let h : ℕ = hmax w (rmin w 0) in
            absurd ((H.longest b).breaks (h - rmin w 0) (omega (arith, H.from)) (R.periodic (h - rmin w 0) h (omega (arith, H.from)) b)))
            (λ (b : length w ≤ hmax w (rmin w 0)). omega (arith, H.upto))
            (less_or (hmax w (rmin w 0)) (length w));
      })
      (less_or i (length w))

  pub leaves_shift : (i s : ℕ) → i ≤ length w → Leaves w i (suc i) s → kmp_shift w i ≡ s
  leaves_shift i s l L = leaves_unique w i (suc i) (kmp_shift w i) s (kmp_leaves i l) L

module _ (w : List ℕ) (i end s : ℕ) (upto : i ≤ length w) (near : end ≤ suc i) (L : Leaves w i end s) where
  -- It is a period of the first i letters.
  pub leaves_periodic : i ≤ end → Periodic (letter w) s i
  leaves_periodic far x y e l =
      let found = L.found (omega (arith, L.upto)) in
      rw found at (hmax_is w s L.on (omega (arith, L.upto))).periodic x y e l

  -- The entries of the windows passed, where the first i letters stand at b and the next differs, if the pattern and the text have one.
  pub leaves_entries : (t : List ℕ) (b : ℕ) → b + i ≤ length t → ((p : ℕ) → p < i → Same w t b p)
      → (i < length w → b + i < length t → Same w t b i → ⊥) → (k : ℕ) → k < s → longest w t (b + k) ≡ min (hmax w k) i - k
  leaves_entries t b inside agree ends k l = entry w t b i k upto inside agree (omega (arith, L.upto)) (stop k l)
    where
      stop : (k : ℕ) → k < s → i ≤ hmax w k → i - k < length w → b + i < length t → letter w (i - k) ≡ letter t (b + i) → ⊥
      stop zero l past more inside e = ends (omega arith) inside (ap (letter w) (omega arith) ∙ e)
      stop (suc k) l past more inside e =
          let H = hmax_is w (suc k) (omega arith) (omega (arith, L.upto)) in
          let further : i < hmax w (suc k) =
          ⊎_elim (λ (x : i < hmax w (suc k)). x) (λ (x : hmax w (suc k) ≤ i). absurd (L.passed (suc k) (omega arith) l (omega arith))) (less_or i (hmax w (suc k))) in
          let same = H.periodic (i - suc k) i (omega (arith, L.upto)) further in
          ends (omega (arith, H.upto)) inside (same ∙ e)
