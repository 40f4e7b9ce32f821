-- A cap that is above the ceiling is none. Assumes nothing.
use Prim.Native.Nat.{ℕ, ◌*◌, ◌≤◌}
use mathlib.Core.Path.{◌≡◌}
use mathlib.Core.List.{List}
use native.Mathlib.Omega.{arith}
use lib.ListN.{length}
use Rattle.rules.specs.Rules.{text_source}
use Rattle.rules.specs.Colussi.{colussi_plan, colussi}
use Rattle.rules.specs.Stopped.{stopped}
use Rattle.rules.specs.declared.Ending.TheVariants.{Spent}
use Rattle.rules.proofs.Runs.{larger_cap}
use Rattle.rules.proofs.ColussiMethod.{method, colussi_finds}
use Rattle.rules.proofs.ColussiCeiling.{colussi_ceiling}

module _ (w t : List ℕ) (some : 1 ≤ length w) where
  -- A cap of 2n is never spent.
  pub never_spent : (cap size : ℕ) → 2 * length t ≤ cap → (b : ℕ) → (colussi w t cap size).ending ≡ Spent b → ⊥
  never_spent cap size high b e =
      let C = rw e at (colussi_finds w t some cap size).cut_off in
      omega (arith, C.0, C.2, rw e at (colussi_ceiling w t some cap size))

  -- So with a higher one, too, a search without a list stops as it does with that.
  pub uncapped : (cap : ℕ) → 2 * length t ≤ cap → colussi w t cap 0 ≡ stopped w t
  unfolding colussi stopped
  uncapped cap high =
      larger_cap (colussi_plan w) (text_source w t) (method w t some).moving (2 * length t) 0 cap high
      (never_spent (2 * length t) 0 (omega arith))
