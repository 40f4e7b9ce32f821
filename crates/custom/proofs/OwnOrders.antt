-- The library's own two orders are custom orders, and the shifts of any order are, of these, those of document 01's tables. Assumes nothing.
use Prim.Native.Nat.{ℕ, suc, ◌-◌, ◌≤◌, ◌<◌}
use mathlib.Core.Path.{◌≡◌, refl, sym, ap, ◌∙◌}
use mathlib.Core.Logic.{⊎_elim}
use mathlib.Core.Bool.{true, false}
use mathlib.Core.List.{List}
use native.Mathlib.Omega.{arith}
use lib.ListN.{length, get_or}
use Rattle.words.specs.Numbers.{tabulate}
use Rattle.words.specs.Tables.{letter, hmax, nohole, kmin, rmin, noholes, order, place, rank, shift}
use Rattle.words.proofs.Cases.{less_or, true_or_false}
use Rattle.words.proofs.Periods.{Periodic}
use Rattle.words.proofs.Noholes.{hmax_is, nohole_of, nohole_is, kmin_least, rmin_is}
use Rattle.words.proofs.Ranks.{below_grows, below_nohole, length_order, nohole_rank, hole_rank, place_inside, rank_nohole, place_rank, rank_place, nohole_early}
use Rattle.words.proofs.Shifts.{noholes_le, shift_nohole, shift_hole, shift_last}
use Rattle.words.proofs.Tabulate.{length_tabulate, tabulate_at}
use Rattle.rules.specs.Kmp.{kmp_shift}
use Rattle.rules.proofs.KmpMethod.{kmp_shift_nohole, kmp_shift_hole, kmp_shift_last, mismatch_shift}
use Rattle.custom.specs.Order.{Arrangement}
use Rattle.custom.specs.Custom.{match_rules_out, mismatch_rules_out, ruled_out, custom_shift}
use Rattle.custom.proofs.Arrangements.{has_place}
use Rattle.custom.proofs.Shifts.{match_rules, match_allows, mismatch_rules, mismatch_allows, present_is, present_none, by_mismatch, by_match, by_nothing, shift_only}

-- ---- They are arrangements

-- Colussi's own order.
pub colussi_arranged : (w : List ℕ) → Arrangement (length w) (order w)
unfolding place
colussi_arranged w = record {
  size = length_order w;
  inside = λ i l. place_inside w i l;
  apart = λ i j l g e.
      let same : i ≡ j = sym (rank_place w i (omega arith)) ∙ ap (rank w) e ∙ rank_place w j g in
      omega arith;
}

-- From left to right, as Knuth, Morris and Pratt compare.
abbrev pub left_to_right : ℕ → List ℕ
left_to_right m = tabulate m (λ i. i)

pub left_to_right_arranged : (m : ℕ) → Arrangement m (left_to_right m)
left_to_right_arranged m = record {
  size = length_tabulate m (λ i. i);
  inside = λ i l. rw (tabulate_at m (λ i. i) i l) l;
  apart = λ i j l g e. omega (arith, e, tabulate_at m (λ i. i) i (omega arith), tabulate_at m (λ i. i) j g);
}

-- ---- What rules a distance out, in terms of hmax and periods

module _ (w order : List ℕ) (i k : ℕ) where
  -- The place that breaks the period k has matched.
  ruled_by_break : 1 ≤ k → k ≤ length w → hmax w k < length w → (j : ℕ) → j < i → get_or order j 0 ≡ hmax w k → ruled_out w order i k ≡ true
  ruled_by_break on upto inside j l here =
      let M = (hmax_is w k on upto).longest inside in
      by_match w order i k j l (rw here (match_rules w (hmax w k) k M.from (M.breaks (hmax w k - k) (omega (arith, M.from)))))

  -- A place that keeps it has just mismatched.
  ruled_by_keeping : 1 ≤ k → k ≤ length w → i < length w → (p : ℕ) → get_or order i 0 ≡ p → k ≤ p → p < hmax w k → ruled_out w order i k ≡ true
  ruled_by_keeping on upto l p here reaches kept =
      by_mismatch w order i k (present_is w order i k l ∙ rw here (mismatch_rules w p k reaches ((hmax_is w k on upto).periodic (p - k) p (omega arith) kept)))

-- A period is not ruled out by a match within it.
period_allows : (w : List ℕ) (k L p : ℕ) → Periodic (letter w) k L → p < L → match_rules_out w p k ≡ false
period_allows w k L p P l = match_allows w p k (λ g. P (p - k) p (omega arith) l)

-- ---- After an occurrence

-- Every order shifts by the least period.
module _ (w order : List ℕ) (some : 1 ≤ length w) (A : Arrangement (length w) order) where
  pub shift_after_occurrence : custom_shift w order (length w) ≡ rmin w 0
  shift_after_occurrence =
      let R = rmin_is w 0 some in
      sym (shift_only w order (length w) some (rmin w 0) record {
        on = R.above;
        upto = R.upto;
        passed = λ k on below.
            let upto : k ≤ length w = omega (arith, R.upto) in
            let H = hmax_is w k on upto in
            ⊎_elim
            (λ (a : hmax w k < length w). let j = has_place (length w) order A (hmax w k) a in ruled_by_break w order (length w) k on upto a j.0 j.1 j.2)
            (λ (a : length w ≤ hmax w k). absurd (R.least k on below (λ x y e l. H.periodic x y e (omega arith))))
            (less_or (hmax w k) (length w));
        stays = λ l. by_nothing w order (length w) (rmin w 0) (present_none w order (length w) (rmin w 0) (omega arith))
            (λ j h. period_allows w (rmin w 0) (length w) (get_or order j 0) R.periodic (A.inside j h));
      })

-- ---- From left to right

module _ (w : List ℕ) (some : 1 ≤ length w) where
  abbrev straight : List ℕ
  straight = left_to_right (length w)

  here : (i : ℕ) → i < length w → get_or straight i 0 ≡ i
  here i l = tabulate_at (length w) (λ i. i) i l

  -- The shifts are those of Knuth, Morris and Pratt: what its search adds is only that it remembers.
  pub left_to_right_shift : (i : ℕ) → i ≤ length w → custom_shift w straight i ≡ kmp_shift w i
  left_to_right_shift i upto = ⊎_elim
      (λ (l : i < length w).
      let S = mismatch_shift w i l in
      sym (shift_only w straight i some (kmp_shift w i) record {
        on = S.on;
        upto = omega (arith, S.upto);
        passed = λ k on below.
            let least = S.least k on below in
            let within : k ≤ length w = omega (arith, least.0) in
            ⊎_elim
            (λ (a : hmax w k < i). ruled_by_break w straight i k on within (omega arith) (hmax w k) a (here (hmax w k) (omega arith)))
            (λ (a : i ≤ hmax w k). ruled_by_keeping w straight i k on within l i (here i l) least.0 (omega (arith, least.1)))
            (less_or (hmax w k) i);
        stays = λ g. by_nothing w straight i (kmp_shift w i) (present_is w straight i (kmp_shift w i) l ∙ rw (here i l) (allowed i l))
            (λ j h. rw (here j (omega arith)) (period_allows w (kmp_shift w i) i j S.periodic h));
      }))
      (λ (l : length w ≤ i).
      let end : i ≡ length w = omega arith in
      rw end (shift_after_occurrence w straight some (left_to_right_arranged (length w)) ∙ sym (kmp_shift_last w)))
      (less_or i (length w))
    where
      allowed : (i : ℕ) → i < length w → mismatch_rules_out w i (kmp_shift w i) ≡ false
      allowed i l = mismatch_allows w i (kmp_shift w i) (⊎_elim
          (λ (e : nohole w i ≡ true). rw (kmp_shift_nohole w i e) (λ g. (nohole_is w i e).breaks (i - kmin w i) (omega arith)))
          (λ (e : nohole w i ≡ false). rw (kmp_shift_hole w i l e) (λ g. absurd (omega arith)))
          (true_or_false (nohole w i)))

-- ---- Colussi's own order

module _ (w : List ℕ) (some : 1 ≤ length w) where
  at : (i : ℕ) → get_or (order w) i 0 ≡ place w i
  unfolding place
  at i = refl

  -- A nohole, where it stands in the order.
  noholes_rank : (h : ℕ) → h < length w → nohole w h ≡ true → (rank w h < noholes w) × (get_or (order w) (rank w h) 0 ≡ h)
  noholes_rank h l e = (nohole_early w h e, at (rank w h) ∙ place_rank w h l)

  -- A distance that is no period is ruled out once the noholes have matched.
  ruled_by_nohole : (i k : ℕ) → noholes w ≤ i → 1 ≤ k → k ≤ length w → hmax w k < length w → ruled_out w (order w) i k ≡ true
  ruled_by_nohole i k late on upto inside =
      let r = noholes_rank (hmax w k) inside (nohole_of w k (hmax w k) inside ((hmax_is w k on upto).longest inside)) in
      ruled_by_break w (order w) i k on upto inside (rank w (hmax w k)) (omega (arith, r.0)) r.1

  at_nohole : (i : ℕ) → i < noholes w → custom_shift w (order w) i ≡ shift w i
  at_nohole i early =
      let p : ℕ = place w i in
      let N = nohole_rank w i early in
      let M = nohole_is w p N.is in
      let l : i < length w = omega (arith, noholes_le w) in
      sym (rw (shift_nohole w i early) (shift_only w (order w) i some (kmin w p) record {
        on = M.positive;
        upto = omega (arith, M.from, N.inside);
        passed = λ k on below.
            let within : k ≤ length w = omega (arith, M.from, N.inside) in
            ⊎_elim
            (λ (a : hmax w k < p).
            let inside : hmax w k < length w = omega (arith, N.inside) in
            let is = nohole_of w k (hmax w k) inside ((hmax_is w k on within).longest inside) in
            let r = noholes_rank (hmax w k) inside is in
            ruled_by_break w (order w) i k on within inside (rank w (hmax w k))
            (omega (arith, rank_nohole w (hmax w k) is, below_nohole w (hmax w k) is, below_grows w (suc (hmax w k)) p a, N.index)) r.1)
            (λ (a : p ≤ hmax w k). ruled_by_keeping w (order w) i k on within l p (at i) (omega (arith, M.from)) (omega (arith, kmin_least w p k on below)))
            (less_or (hmax w k) p);
        stays = λ g. by_nothing w (order w) i (kmin w p)
            (present_is w (order w) i (kmin w p) l ∙ rw (at i) (mismatch_allows w p (kmin w p) (λ h. M.breaks (p - kmin w p) (omega arith))))
            (λ j h. rw (at j) (period_allows w (kmin w p) p (place w j) M.periodic (before j h)));
      }))
    where
      -- The noholes of earlier ranks lie before.
      before : (j : ℕ) → j < i → place w j < place w i
      before j h = ⊎_elim
          (λ (a : place w j < place w i). a)
          (λ (a : place w i ≤ place w j).
          absurd (omega (arith, below_grows w (place w i) (place w j) a, (nohole_rank w i early).index, (nohole_rank w j (omega arith)).index)))
          (less_or (place w j) (place w i))

  at_hole : (i : ℕ) → noholes w ≤ i → i < length w → custom_shift w (order w) i ≡ shift w i
  at_hole i late l =
      let p : ℕ = place w i in
      let N = hole_rank w i late l in
      let R = rmin_is w p N.inside in
      sym (rw (shift_hole w i late l) (shift_only w (order w) i some (rmin w p) record {
        on = omega (arith, R.above);
        upto = R.upto;
        passed = λ k on below.
            let within : k ≤ length w = omega (arith, R.upto) in
            ⊎_elim
            (λ (a : hmax w k < length w). ruled_by_nohole i k late on within a)
            (λ (a : length w ≤ hmax w k). ⊎_elim
            (λ (b : p < k). absurd (R.least k b below (λ x y e h. (hmax_is w k on within).periodic x y e (omega arith))))
            (λ (b : k ≤ p). ruled_by_keeping w (order w) i k on within l p (at i) b (omega (arith, N.inside)))
            (less_or p k))
            (less_or (hmax w k) (length w));
        stays = λ g. by_nothing w (order w) i (rmin w p)
            (present_is w (order w) i (rmin w p) l ∙ rw (at i) (mismatch_allows w p (rmin w p) (λ h. absurd (omega (arith, R.above)))))
            (λ j h. rw (at j) (period_allows w (rmin w p) (length w) (place w j) R.periodic (place_inside w j (omega arith))));
      }))

  -- The shifts are those of document 01.
  pub colussi_shift : (i : ℕ) → i ≤ length w → custom_shift w (order w) i ≡ shift w i
  colussi_shift i upto = ⊎_elim
      (λ (a : i < noholes w). at_nohole i a)
      (λ (a : noholes w ≤ i). ⊎_elim
      (λ (b : i < length w). at_hole i a b)
      (λ (b : length w ≤ i).
      let end : i ≡ length w = omega arith in
      rw end (shift_after_occurrence w (order w) some (colussi_arranged w) ∙ sym (shift_last w)))
      (less_or i (length w)))
      (less_or i (noholes w))
