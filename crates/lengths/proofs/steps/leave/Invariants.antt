-- The entries that are passed are written by the table, and from 1 on none of the table's is the matched length.
use Rattle.lengths.proofs.Loops.{Left}
use Rattle.lengths.proofs.steps.leave.Given as goal

abbrev pub invariant-loop-k : goal.invariant-loop-k
invariant-loop-k l = Left l.hmax l.initial.lengths l.b l.i l.end l.lengths l.k
