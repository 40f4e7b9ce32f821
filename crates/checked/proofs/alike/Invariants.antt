-- same says whether the entries before the loop's are the same.
use Rattle.checked.proofs.Same.{Compared}
use Rattle.checked.proofs.alike.Given as goal

abbrev pub invariant-loop-i : goal.invariant-loop-i
invariant-loop-i g l = Compared g.T.PartialEq.eq l.a l.b l.i l.same
