-- The search without a list goes by the loop's state. The measure: the turns that are left.
use Rattle.std.proofs.Common.{length}
use Rattle.classes.specs.Classes.{through}
use Rattle.rules.specs.Rules.{left}
use Rattle.search.proofs.FirstScan.{ScansUpTo}
use Rattle.search.proofs.first_scan.scan.Given as goal

abbrev pub invariant-loop-b : goal.invariant-loop-b
invariant-loop-b l = ScansUpTo l.letters l.pattern.len l.pattern.noholes (through l.pattern.classes l.fn.text) l.b l.i l.e l.left

abbrev pub decreases-loop-b : goal.decreases-loop-b
decreases-loop-b l = left l.pattern.len (length (through l.pattern.classes l.fn.text)) l.b l.i
