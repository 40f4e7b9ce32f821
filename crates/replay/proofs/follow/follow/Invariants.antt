-- Whatever pattern the tables are, the replay goes by the loop's state, and the entries below the count are its own. The turns that are left become fewer.
use Rattle.rules.specs.Rules.{left}
use Rattle.replay.proofs.Scanning.{ReplaysFor}
use Rattle.replay.proofs.follow.follow.Given as goal

abbrev pub invariant-loop-b : goal.invariant-loop-b
invariant-loop-b l =
    ReplaysFor l.pattern.order l.pattern.shift l.pattern.next l.m l.d l.n l.size l.journal l.initial.positions l.positions l.b l.i l.e l.c l.h l.k

abbrev pub decreases-loop-b : goal.decreases-loop-b
decreases-loop-b l = left l.m l.n l.b l.i
