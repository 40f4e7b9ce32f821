-- The turn of k has found its entry i. The measure is what is left of the table.
use Rattle.std.proofs.Common.{◌-◌, ◌+◌, length}
use Rattle.hmax.proofs.Comparing.{Comparing}
use Rattle.hmax.proofs.steps.fill_compared.Given as goal

abbrev pub invariant-loop-i : goal.invariant-loop-i
invariant-loop-i l = Comparing l.bytes l.initial.table l.table l.k l.again l.i

abbrev pub decreases-loop-i : goal.decreases-loop-i
decreases-loop-i l = length l.bytes + 1 - l.k
