-- The search goes by the loop's state, and the noholes compared are those of the windows left and of this one. The measure: the turns that are left.
use Rattle.std.proofs.Common.{length}
use Rattle.classes.specs.Classes.{through}
use Rattle.rules.specs.Rules.{left}
use Rattle.search.proofs.KmpScan.{ScansByPlace}
use Rattle.search.proofs.kmp_scan.scan.Given as goal

abbrev pub invariant-loop-b : goal.invariant-loop-b
invariant-loop-b l =
    ScansByPlace l.letters l.pattern.len (through l.pattern.classes l.fn.text) l.cap l.fn.positions l.positions l.b l.i l.left l.q l.k

abbrev pub decreases-loop-b : goal.decreases-loop-b
decreases-loop-b l = left l.pattern.len (length (through l.pattern.classes l.fn.text)) l.b l.i
