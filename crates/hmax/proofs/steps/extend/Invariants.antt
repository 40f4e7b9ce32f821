-- The places that are passed lie before hmax(k). The measure is what is left of the pattern.
use Rattle.std.proofs.Common.{◌≤◌, ◌-◌, length}
use Rattle.words.specs.Tables.{hmax}
use Rattle.hmax.proofs.steps.extend.Given as goal

abbrev pub invariant-loop-i : goal.invariant-loop-i
invariant-loop-i l = (l.from ≤ l.i) × (l.i ≤ hmax l.bytes l.k)

abbrev pub decreases-loop-i : goal.decreases-loop-i
decreases-loop-i l = length l.bytes - l.i
