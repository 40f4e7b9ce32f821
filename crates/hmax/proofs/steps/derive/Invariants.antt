-- The entries below q are known. The measure is what is left of the prefix of k.
use Rattle.std.proofs.Common.{◌-◌, ◌+◌}
use Rattle.hmax.proofs.Deriving.{Deriving}
use Rattle.hmax.proofs.steps.derive.Given as goal

abbrev pub invariant-loop-v : goal.invariant-loop-v
invariant-loop-v l = Deriving l.bytes l.initial.table l.table l.k l.q l.v

abbrev pub decreases-loop-v : goal.decreases-loop-v
decreases-loop-v l = l.i + 1 - l.q
