-- The search goes by the loop's state, and the entries below the count are written. The turns that are left become fewer.
use Rattle.std.proofs.Common.{length}
use Rattle.classes.specs.Classes.{through}
use Rattle.rules.specs.Rules.{left}
use Rattle.journaled.proofs.Scanning.{Journals}
use Rattle.journaled.proofs.scan.scan.Given as goal

abbrev pub invariant-loop-b : goal.invariant-loop-b
invariant-loop-b l =
    Journals l.letters l.m l.d (through l.pattern.classes l.text) l.cap l.initial.positions l.positions l.initial.journal l.journal
    l.b l.i l.e l.c l.h l.k

abbrev pub decreases-loop-b : goal.decreases-loop-b
decreases-loop-b l = left l.m (length l.text) l.b l.i
