-- The shifts of the ranks that are passed stand in their entries.
use Rattle.std.proofs.Common.{◌≡◌, ℕ, ◌<◌, get_or}
use Rattle.custom.specs.Custom.{custom_shift}
use Rattle.custom.specs.Internal.{Passed}
use Rattle.custom.proofs.distances.Ranks.fill.Given as goal

abbrev pub invariant-loop-i : goal.invariant-loop-i
invariant-loop-i l = let w = l.self.letters.now in let order = l.self.order.now in record {
  known : Passed w order l.passed;
  entries : (j : ℕ) → j < l.i → get_or l.shift-items j 0 ≡ custom_shift w order j;
}
