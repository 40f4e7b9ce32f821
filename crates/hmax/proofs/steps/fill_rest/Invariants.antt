-- The entries below k are known, and that of k is m. The measure is what is left of the table.
use Rattle.std.proofs.Common.{◌-◌, ◌+◌}
use Rattle.hmax.proofs.Comparing.{Ending}
use Rattle.hmax.proofs.steps.fill_rest.Given as goal

abbrev pub invariant-loop-k : goal.invariant-loop-k
invariant-loop-k l = Ending l.bytes l.initial.table l.table l.k

abbrev pub decreases-loop-k : goal.decreases-loop-k
decreases-loop-k l = l.m + 1 - l.k
