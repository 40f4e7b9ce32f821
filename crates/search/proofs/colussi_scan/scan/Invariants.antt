-- The search goes by the loop's state, and the holes compared are those of the windows left and of this one. The measure: the turns that are left.
use Rattle.std.proofs.Common.{length, take}
use Rattle.classes.specs.Classes.{through}
use Rattle.rules.specs.Rules.{text_source, left}
use Rattle.search.proofs.ColussiScan.{ScansByRank}
use Rattle.search.proofs.colussi_scan.scan.Given as goal

abbrev pub invariant-loop-b : goal.invariant-loop-b
invariant-loop-b l =
    ScansByRank l.letters l.pattern.len l.pattern.noholes (text_source (take l.pattern.len l.letters) (through l.pattern.classes l.fn.text)) l.cap
    l.fn.positions l.positions l.b l.i l.e l.left l.h l.k

abbrev pub decreases-loop-b : goal.decreases-loop-b
decreases-loop-b l = left l.pattern.len (length (through l.pattern.classes l.fn.text)) l.b l.i
