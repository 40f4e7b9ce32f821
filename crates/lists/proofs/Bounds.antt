-- A list split by a bound: the entries below it stand first. Assumes nothing.
use Prim.Native.Nat.{ℕ, zero, suc, ◌+◌, ◌≤◌, ◌<◌}
use mathlib.Core.Path.{◌≡◌, sym, ap, ◌∙◌}
use mathlib.Core.Logic.{⊎_elim}
use mathlib.Core.Bool.{Bool, true, false}
use mathlib.Core.List.{List, [], ◌∷◌, ◌++◌}
use native.Mathlib.Omega.{arith}
use lib.ListN.{take, drop, length-drop}
use lib.Seq.{get_or-take, get_or-drop, length-take-le}
use Rattle.words.proofs.Cases.{less_or}
use Rattle.lists.specs.Lists.{Listed, keep, Splits}
use Rattle.lists.proofs.Keeping.{keep_none, keep_hit, keep_miss}

-- The entries below the lower of two bounds are the fewer.
pub splits_order : (l : List ℕ) (a b k n : ℕ) → a ≤ b → Splits l a k → Splits l b n → k ≤ n
splits_order l a b k n g S T = ⊎_elim
    (λ (h : n < k). absurd (omega (arith, S.below n h, T.from n (omega arith) (omega (arith, S.inside)))))
    (λ (h : k ≤ n). h)
    (less_or n k)

-- ---- The entries on either side

module _ (l : List ℕ) (bound k : ℕ) (S : Splits l bound k) {x : ℕ} where
  pub taken_below : Listed (take k l) x → x < bound
  taken_below (i, h, e) =
      let g : i < k = omega (arith, length-take-le k l S.inside) in
      rw (sym (get_or-take k l i 0 g) ∙ e) at (S.below i g)

  pub dropped_from : Listed (drop k l) x → bound ≤ x
  dropped_from (i, h, e) =
      rw (sym (get_or-drop k l i 0) ∙ e) at (S.from (k + i) (omega arith) (omega (arith, length-drop k l, S.inside)))

-- ---- Those outside two bounds

module _ (b : ℕ) where
  rest : {x k : ℕ} {l : List ℕ} → Splits (x ∷ l) b (suc k) → Splits l b k
  rest S = record {
    inside = omega (arith, S.inside);
    below = λ i h. S.below (suc i) (omega arith);
    from = λ i g h. S.from (suc i) (omega arith) (omega arith);
  }

  rest_above : {x : ℕ} {l : List ℕ} → Splits (x ∷ l) b zero → Splits l b zero
  rest_above S = record { inside = omega arith; below = λ i h. absurd (omega arith); from = λ i g h. S.from (suc i) (omega arith) (omega arith) }

-- A test that passes outside of two bounds, and not between them.
pub record Outside (q : ℕ → Bool) (start past : ℕ) : Type 0 where
  pub before : (x : ℕ) → x < start → q x ≡ true
  pub between : (x : ℕ) → start ≤ x → x < past → q x ≡ false
  pub after : (x : ℕ) → past ≤ x → q x ≡ true

module _ (q : ℕ → Bool) (start past : ℕ) (O : Outside q start past) where
  pub keep_outside : (l : List ℕ) (low high : ℕ) → low ≤ high → Splits l start low → Splits l past high → keep q l ≡ take low l ++ drop high l
  keep_outside [] zero zero o S T = keep_none q
  keep_outside [] zero (suc high) o S T = absurd (omega (arith, T.inside))
  keep_outside [] (suc low) high o S T = absurd (omega (arith, S.inside))
  keep_outside (x ∷ l) zero zero o S T =
      keep_hit q x l (O.after x (T.from 0 (omega arith) (omega arith)))
      ∙ ap (λ (r : List ℕ). x ∷ r) (keep_outside l zero zero (omega arith) (rest_above start S) (rest_above past T))
  keep_outside (x ∷ l) zero (suc high) o S T =
      keep_miss q x l (O.between x (S.from 0 (omega arith) (omega arith)) (T.below 0 (omega arith)))
      ∙ keep_outside l zero high (omega arith) (rest_above start S) (rest past T)
  keep_outside (x ∷ l) (suc low) zero o S T = absurd (omega arith)
  keep_outside (x ∷ l) (suc low) (suc high) o S T =
      keep_hit q x l (O.before x (S.below 0 (omega arith)))
      ∙ ap (λ (r : List ℕ). x ∷ r) (keep_outside l low high (omega arith) (rest start S) (rest past T))
