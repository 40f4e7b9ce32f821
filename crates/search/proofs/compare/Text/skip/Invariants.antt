-- No place passed holds x. The measure is what is left.
use Rattle.std.proofs.Common.{◌≤◌, ◌-◌}
use Rattle.classes.specs.Classes.{through}
use Rattle.search.specs.Internal.RankZero.{Passed}
use Rattle.search.proofs.compare.Text.skip.Given as goal

abbrev pub invariant-loop-p : goal.invariant-loop-p
invariant-loop-p l = record {
  from : l.from ≤ l.p;
  upto : l.p ≤ l.end;
  passed : Passed (through l.self.classes.now l.self.bytes.now) l.x l.from l.p;
}

abbrev pub decreases-loop-p : goal.decreases-loop-p
decreases-loop-p l = l.end - l.p
