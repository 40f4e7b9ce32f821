-- The first numbers are put.
use Rattle.std.proofs.Common.{◌≡◌}
use Rattle.std.proofs.Math.Seq.{paste}
use Rattle.lists.specs.Lists.{moved}
use Rattle.correct.proofs.moving.put.Given as goal

abbrev pub invariant-loop-i : goal.invariant-loop-i
invariant-loop-i l = l.list ≡ paste l.fn.list l.at (moved l.start l.numbers) l.i
