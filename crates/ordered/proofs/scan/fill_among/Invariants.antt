-- The first i places are counted.
use Rattle.ordered.proofs.Among.{CountedTo}
use Rattle.ordered.proofs.scan.fill_among.Given as goal

abbrev pub invariant-loop-i : goal.invariant-loop-i
invariant-loop-i l = CountedTo l.order l.marks l.among l.count l.i
