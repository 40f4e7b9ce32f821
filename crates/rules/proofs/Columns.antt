-- The columns of a report, over the list of comparisons made. Assumes nothing.
use Prim.Native.Nat.{ℕ, suc, ◌+◌, ◌-◌, ◌≤◌}
use mathlib.Core.Path.{◌≡◌, refl}
use mathlib.Core.Bool.{Bool, true, false, not, cond}
use mathlib.Core.List.{List, [], ◌∷◌}
use native.Mathlib.Omega.{arith}
use lib.ListN.{length}
use Rattle.words.specs.Tables.{nohole, hole}
use Rattle.rules.specs.Rules.{Compared}
use Rattle.rules.specs.Columns.{made_at, at_noholes, at_holes}

-- ---- A test of places, and how many comparisons were made where it passes

module _ (q : ℕ → Bool) where
  pub made_none : made_at q [] ≡ 0
  unfolding made_at
  made_none = refl

  -- One comparison more.
  pub made_more : (one : Compared) (made : List Compared) → made_at q (one ∷ made) ≡ cond (q one.place) 1 0 + made_at q made
  unfolding made_at
  made_more one made = refl

  -- A test and its contrary share out all comparisons.
  shared_out : (made : List Compared) → made_at q made + made_at (λ p. not (q p)) made ≡ length made
  unfolding made_at
  shared_out [] = refl
  shared_out (one ∷ made) = at (q one.place) (shared_out made)
    where
      at : (b : Bool) → made_at q made + made_at (λ p. not (q p)) made ≡ length made
          → cond b 1 0 + made_at q made + (cond (not b) 1 0 + made_at (λ p. not (q p)) made) ≡ suc (length made)
      at true h = omega arith
      at false h = omega arith

  pub made_upto : (made : List Compared) → made_at q made ≤ length made
  made_upto made = omega (arith, shared_out made)

-- ---- The columns

-- The two columns of a list of comparisons made.
pub record Split (w : List ℕ) (made : List Compared) (u v : ℕ) : Type 0 where
  pub noholes : at_noholes w made ≡ u
  pub holes : at_holes w made ≡ v

module _ (w : List ℕ) (made : List Compared) where
  -- The count is their sum.
  pub columns_sum : at_noholes w made + at_holes w made ≡ length made
  unfolding hole
  columns_sum = shared_out (nohole w) made

  -- Each is what the other leaves of the count.
  module _ {c x : ℕ} (count : length made ≡ c) where
    pub by_noholes : at_noholes w made ≡ x → Split w made x (c - x)
    by_noholes is = record { noholes = is; holes = omega (arith, columns_sum) }

    pub by_holes : at_holes w made ≡ x → Split w made (c - x) x
    by_holes is = record { noholes = omega (arith, columns_sum); holes = is }
