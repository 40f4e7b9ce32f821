-- rmin from place to place, downwards. Assumes nothing.
use Prim.Native.Nat.{ℕ, ◌-◌, ◌≤◌, ◌<◌}
use mathlib.Core.Path.{◌≡◌}
use mathlib.Core.Logic.{⊎_elim}
use mathlib.Core.List.{List}
use native.Mathlib.Omega.{arith}
use lib.ListN.{length}
use Rattle.words.specs.Tables.{letter, hmax, rmin}
use Rattle.words.proofs.Cases.{less_or}
use Rattle.words.proofs.Periods.{Periodic, periodic_prefix}
use Rattle.words.proofs.Noholes.{hmax_is, rmin_is}

module _ (w : List ℕ) where
  -- Above the last place there is the length alone.
  pub rmin_last : 1 ≤ length w → rmin w (length w - 1) ≡ length w
  rmin_last pos = let L = rmin_is w (length w - 1) (omega arith) in omega arith

  module _ (p : ℕ) (pos : 1 ≤ p) (inside : p < length w) where
    -- p is a period exactly if hmax(p) is the length.
    reaches : length w ≤ hmax w p → Periodic (letter w) p (length w)
    reaches l = periodic_prefix (letter w) p l (hmax_is w p pos (omega arith)).periodic

    breaks : hmax w p < length w → Periodic (letter w) p (length w) → ⊥
    breaks l P =
        let H = hmax_is w p pos (omega arith) in
        (H.longest l).breaks (hmax w p - p) (omega arith) (P (hmax w p - p) (hmax w p) (omega arith) l)

    pub rmin_period : length w ≤ hmax w p → rmin w (p - 1) ≡ p
    rmin_period l =
        let L = rmin_is w (p - 1) (omega arith) in
        ⊎_elim
        (λ (a : p < rmin w (p - 1)). absurd (L.least p (omega arith) a (reaches l)))
        (λ (a : rmin w (p - 1) ≤ p). omega arith)
        (less_or p (rmin w (p - 1)))

    pub rmin_no_period : hmax w p < length w → rmin w (p - 1) ≡ rmin w p
    rmin_no_period l =
        let L = rmin_is w (p - 1) (omega arith) in
        let M = rmin_is w p inside in
        let other : rmin w (p - 1) ≡ p → ⊥ = λ e. breaks l (rw e at L.periodic) in
        ⊎_elim
        (λ (a : rmin w p < rmin w (p - 1)). absurd (L.least (rmin w p) (omega arith) a M.periodic))
        (λ (a : rmin w (p - 1) ≤ rmin w p). ⊎_elim
        (λ (b : rmin w (p - 1) < rmin w p). absurd (M.least (rmin w (p - 1)) (omega arith) b L.periodic))
        (λ (b : rmin w p ≤ rmin w (p - 1)). omega arith)
        (less_or (rmin w (p - 1)) (rmin w p)))
        (less_or (rmin w p) (rmin w (p - 1)))
