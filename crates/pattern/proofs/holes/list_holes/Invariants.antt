-- The holes from p up are written, and `at` is what the place p leaves with.
use Rattle.pattern.proofs.HoleRanks.{Holes}
use Rattle.pattern.proofs.holes.list_holes.Given as goal

abbrev pub invariant-loop-p : goal.invariant-loop-p
invariant-loop-p l = Holes l.tables.letters.now l.ranks.order l.ranks.shift l.ranks.next l.p l.i l.at.shift l.at.next
