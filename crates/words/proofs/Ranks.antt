-- The order of a word: which place has which rank (part B of the proof). Assumes nothing.
use Prim.Native.Nat.{ℕ, suc, ◌+◌, ◌-◌, ◌≤◌, ◌<◌}
use mathlib.Core.Path.{◌≡◌, refl, sym, ap, ◌∙◌}
use mathlib.Core.Logic.{⊎_elim}
use mathlib.Core.Bool.{true, false}
use mathlib.Core.List.{List, ◌++◌}
use native.Mathlib.Omega.{arith}
use lib.Dec.{eqb}
use lib.ListN.{length, get_or, length-append, get_or-append}
use lib.Seq.{get_or-append-add}
use borrow.Author.Tests.{eq-eqb, ne_eqb, not-true}
use Rattle.words.specs.Numbers.{count, ascending, descending}
use Rattle.words.specs.Tables.{nohole, hole, below, noholes, order, place, rank}
use Rattle.words.proofs.Cases.{less_or, true_or_false, not_both}
use Rattle.words.proofs.Numbers.{first_is, first_unique, count_le, count_hit, count_miss, count_split, count_none, count_grows, rest_grows, count_unique}
use Rattle.words.proofs.Listing.{length_ascending, ascending_at, length_descending, descending_at, count_not}
use Rattle.words.proofs.Noholes.{nohole_inside}

module _ (w : List ℕ) where
  -- ---- How many noholes and holes lie below a place

  pub below_le : (a : ℕ) → below w a ≤ a
  unfolding below
  below_le a = count_le a (nohole w)

  pub below_grows : (a b : ℕ) → a ≤ b → below w a ≤ below w b
  unfolding below
  below_grows a b l = count_grows a b (nohole w) l

  pub below_nohole : (a : ℕ) → nohole w a ≡ true → below w (suc a) ≡ suc (below w a)
  unfolding below
  below_nohole a e = count_hit a (nohole w) e

  pub below_hole : (a : ℕ) → nohole w a ≡ false → below w (suc a) ≡ below w a
  unfolding below
  below_hole a e = count_miss a (nohole w) e

  -- No hole is counted.
  pub below_same : (a b : ℕ) → a ≤ b → ((x : ℕ) → a ≤ x → x < b → nohole w x ≡ false) → below w b ≡ below w a
  unfolding below
  below_same a b l holes =
      let e : a + (b - a) ≡ b = omega arith in
      omega (arith, rw e at (count_split a (b - a) (nohole w)), count_none (b - a) (λ i. nohole w (a + i)) (λ i h. holes (a + i) (omega arith) (omega arith)))

  -- The holes below a place, a - below(a), grow with it.
  pub holes_grow : (a b : ℕ) → a ≤ b → a + below w b ≤ b + below w a
  unfolding below
  holes_grow a b l = rest_grows a b (nohole w) l

  -- ---- The place of a rank

  ups : List ℕ
  ups = ascending (length w) (nohole w)

  downs : List ℕ
  downs = descending (length w) (hole w)

  length_ups : length ups ≡ noholes w
  unfolding ups noholes below
  length_ups = length_ascending (nohole w) (length w)

  hole_not : (p : ℕ) → hole w p ≡ true → nohole w p ≡ false
  unfolding hole
  hole_not p e = not-true (nohole w p) e

  count_holes : (p : ℕ) → below w p + count p (hole w) ≡ p
  unfolding below hole
  count_holes p = count_not p (nohole w)

  length_downs : noholes w + length downs ≡ length w
  unfolding downs noholes
  length_downs = omega (arith, length_descending (hole w) (length w), count_holes (length w))

  pub length_order : length (order w) ≡ length w
  unfolding order ups downs
  length_order = length-append ups downs ∙ omega (arith, length_ups, length_downs)

  -- Rank i has the place p, a nohole: i noholes lie below it.
  pub record NoholeRank (i p : ℕ) : Type 0 where
    pub inside : p < length w
    pub is : nohole w p ≡ true
    pub index : below w p ≡ i

  place_is : (i : ℕ) → place w i ≡ get_or (ups ++ downs) i 0
  unfolding place order ups downs
  place_is i = refl

  pub nohole_rank : (i : ℕ) → i < noholes w → NoholeRank i (place w i)
  unfolding ups below
  nohole_rank i l =
      let g : i < length ups = omega (arith, length_ups) in
      let A = ascending_at (nohole w) (length w) i g in
      rw (place_is i, get_or-append ups downs 0 i g) record { inside = A.inside; is = A.passes; index = A.index }

  -- The noholes ascend with their ranks, and that of rank below(g) is g or more.
  pub place_ascends : (i : ℕ) → i + 1 < noholes w → place w i < place w (i + 1)
  place_ascends i l = ⊎_elim
      (λ (h : place w i < place w (i + 1)). h)
      (λ (h : place w (i + 1) ≤ place w i).
      absurd (omega (arith, below_grows (place w (i + 1)) (place w i) h, (nohole_rank i (omega arith)).index, (nohole_rank (i + 1) l).index)))
      (less_or (place w i) (place w (i + 1)))

  pub place_from : (g : ℕ) → below w g < noholes w → g ≤ place w (below w g)
  place_from g l = ⊎_elim
      (λ (h : place w (below w g) < g).
      let N = nohole_rank (below w g) l in
      absurd (omega (arith, below_grows (suc (place w (below w g))) g h, below_nohole (place w (below w g)) N.is, N.index)))
      (λ (h : g ≤ place w (below w g)). h)
      (less_or (place w (below w g)) g)

  -- Rank i has the place p, a hole: m - 1 - i holes lie below it.
  pub record HoleRank (i p : ℕ) : Type 0 where
    pub inside : p < length w
    pub is : nohole w p ≡ false
    pub index : i + 1 + p ≡ length w + below w p

  pub hole_rank : (i : ℕ) → noholes w ≤ i → i < length w → HoleRank i (place w i)
  unfolding downs noholes
  hole_rank i l h =
      let j : ℕ = i - length ups in
      let e : i ≡ length ups + j = omega (arith, length_ups) in
      let g : j < length downs = omega (arith, length_ups, length_downs) in
      let D = descending_at (hole w) (length w) j g in
      let s : place w i ≡ get_or downs j 0 = place_is i ∙ ap (λ k. get_or (ups ++ downs) k 0) e ∙ get_or-append-add ups downs j 0 in
      rw s record {
        inside = D.inside;
        is = hole_not _ D.passes;
        index = omega (arith, D.index, count_holes (length w), count_holes (get_or downs j 0), length_ups);
      }

  pub place_inside : (i : ℕ) → i < length w → place w i < length w
  place_inside i l = ⊎_elim
      (λ (a : i < noholes w). (nohole_rank i a).inside)
      (λ (a : noholes w ≤ i). (hole_rank i a l).inside)
      (less_or i (noholes w))

  one_rank : (i j : ℕ) → i < length w → j < length w → place w i ≡ place w j → i ≡ j
  one_rank i j l h e = ⊎_elim
      (λ (a : i < noholes w). ⊎_elim
      (λ (b : j < noholes w). sym (nohole_rank i a).index ∙ ap (below w) e ∙ (nohole_rank j b).index)
      (λ (b : noholes w ≤ j). absurd (not_both _ (nohole_rank i a).is (rw e (hole_rank j b h).is)))
      (less_or j (noholes w)))
      (λ (a : noholes w ≤ i). ⊎_elim
      (λ (b : j < noholes w). absurd (not_both _ (nohole_rank j b).is (rw (← e) (hole_rank i a l).is)))
      (λ (b : noholes w ≤ j). omega (arith, (hole_rank i a l).index, rw (← e) at (hole_rank j b h).index))
      (less_or j (noholes w)))
      (less_or i (noholes w))

  -- ---- The rank of a place

  -- A place below m, with the rank that its kind gives it.
  record Stands (p i : ℕ) : Type 0 where
    pub inside : i < length w
    pub here : place w i ≡ p

  rank_of : (p i : ℕ) → Stands p i → rank w p ≡ i
  unfolding rank
  rank_of p i S =
      first_unique 0 (length w) (λ i. eqb (place w i) p) (rank w p) i
      (first_is 0 (length w) (λ i. eqb (place w i) p) (omega arith))
      record {
        from = omega arith;
        upto = omega (arith, S.inside);
        passed = λ j l h. ne_eqb _ _ (λ (e : place w j ≡ p). omega (arith, one_rank j i (omega (arith, S.inside)) S.inside (e ∙ sym S.here)));
        found = λ l. eq-eqb _ _ S.here;
      }

  nohole_stands : (p : ℕ) → nohole w p ≡ true → Stands p (below w p)
  unfolding noholes below
  nohole_stands p e =
      let l : p < length w = nohole_inside w p e in
      let g : below w p < noholes w = omega (arith, below_nohole p e, below_grows (suc p) (length w) l) in
      let R = nohole_rank (below w p) g in
      record {
        inside = omega (arith, below_le p);
        here = count_unique (nohole w) (place w (below w p)) p R.is e R.index;
      }

  hole_stands : (p : ℕ) → p < length w → nohole w p ≡ false → Stands p (length w + below w p - suc p)
  unfolding noholes
  hole_stands p l e =
      let i : ℕ = length w + below w p - suc p in
      let g : noholes w ≤ i = omega (arith, below_hole p e, holes_grow (suc p) (length w) l, below_le p) in
      let h : i < length w = omega (arith, below_hole p e, below_le (suc p), below_le p) in
      record { inside = h; here = same i (hole_rank i g h) (omega arith) }
    where
      same : (i : ℕ) → HoleRank i (place w i) → i + 1 + p ≡ length w + below w p → place w i ≡ p
      same i R s = ⊎_elim
          (λ (a : place w i < p). absurd (omega (arith, R.index, below_hole (place w i) R.is, holes_grow (suc (place w i)) p a)))
          (λ (a : p ≤ place w i). ⊎_elim
          (λ (b : p < place w i). absurd (omega (arith, R.index, below_hole p e, holes_grow (suc p) (place w i) b)))
          (λ (b : place w i ≤ p). omega arith)
          (less_or p (place w i)))
          (less_or (place w i) p)

  -- B1. A nohole p has rank below(p), a hole p has rank m - 1 - (p - below(p)), and every place below m has exactly one rank.
  pub rank_nohole : (p : ℕ) → nohole w p ≡ true → rank w p ≡ below w p
  rank_nohole p e = rank_of p (below w p) (nohole_stands p e)

  pub rank_hole : (p : ℕ) → p < length w → nohole w p ≡ false → rank w p + 1 + p ≡ length w + below w p
  rank_hole p l e = omega (arith, rank_of p _ (hole_stands p l e), (hole_stands p l e).inside)

  stands : (p : ℕ) → p < length w → Stands p (rank w p)
  stands p l = ⊎_elim
      (λ e. let S = nohole_stands p e in rw (rank_of p (below w p) S) S)
      (λ e. let S = hole_stands p l e in rw (rank_of p _ S) S)
      (true_or_false (nohole w p))

  pub rank_inside : (p : ℕ) → p < length w → rank w p < length w
  rank_inside p l = (stands p l).inside

  pub place_rank : (p : ℕ) → p < length w → place w (rank w p) ≡ p
  place_rank p l = (stands p l).here

  pub rank_place : (i : ℕ) → i < length w → rank w (place w i) ≡ i
  rank_place i l = rank_of (place w i) i record { inside = l; here = refl }

  -- The noholes have the ranks below d, the holes those from d on.
  pub nohole_early : (p : ℕ) → nohole w p ≡ true → rank w p < noholes w
  unfolding noholes
  nohole_early p e = omega (arith, rank_nohole p e, below_nohole p e, below_grows (suc p) (length w) (nohole_inside w p e))

  pub hole_late : (p : ℕ) → p < length w → nohole w p ≡ false → noholes w ≤ rank w p
  unfolding noholes
  hole_late p l e = omega (arith, rank_hole p l e, holes_grow (suc p) (length w) l, below_hole p e)

  -- The ranks below below(x) are those of the noholes below x.
  pub rank_below : (x p : ℕ) → x ≤ length w → p < length w → rank w p < below w x → (nohole w p ≡ true) × (p < x)
  unfolding noholes
  rank_below x p h l r = ⊎_elim
      (λ e. (e, ⊎_elim (λ (a : p < x). a) (λ (a : x ≤ p). absurd (omega (arith, rank_nohole p e, below_grows x p a))) (less_or p x)))
      (λ e. absurd (omega (arith, hole_late p l e, below_grows x (length w) h)))
      (true_or_false (nohole w p))

  -- B2. Where the place of rank i is not below x, the ranks up to i and the holes below x are at most m.
  pub rank_room : (i x : ℕ) → i < length w → x ≤ place w i → i + 1 + x ≤ length w + below w x
  unfolding noholes
  rank_room i x l h = ⊎_elim
      (λ (a : i < noholes w). omega (arith, (nohole_rank i a).inside, holes_grow x (length w) (omega (arith, (nohole_rank i a).inside))))
      (λ (a : noholes w ≤ i). omega (arith, (hole_rank i a l).index, holes_grow x (place w i) h))
      (less_or i (noholes w))
