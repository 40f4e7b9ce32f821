-- How far the plan of Colussi's order moves, for code that follows it. Assumes nothing.
use Prim.Native.Nat.{ℕ, ◌≤◌}
use mathlib.Core.List.{List}
use lib.ListN.{length}
use Rattle.words.proofs.Shifts.{shift_moves, next_upto}
use Rattle.rules.specs.Colussi.{colussi_plan}
use Rattle.rules.proofs.Following.{Ranges}

pub colussi_ranges : (w : List ℕ) → 1 ≤ length w → Ranges (colussi_plan w)
colussi_ranges w some = record {
  some = some;
  moving = λ i l. (shift_moves w i some l).on;
  shifts = λ i l. (shift_moves w i some l).upto;
  nexts = λ i l. next_upto w i;
}
