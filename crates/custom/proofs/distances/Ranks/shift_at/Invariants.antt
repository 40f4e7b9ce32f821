-- The distances below k are ruled out, and no shift is found. Neither the present mismatch rules k out, nor do the matches at the first j ranks.
use Rattle.std.proofs.Common.{◌≡◌, length}
use Rattle.custom.proofs.Trying.{Tries, Tests}
use Rattle.custom.proofs.distances.Ranks.shift_at.Given as goal

abbrev pub invariant-distances : goal.invariant-distances
invariant-distances l = record {
  none : l.shift ≡ length l.self.letters.now;
  tries : Tries l.self.letters.now l.self.order.now l.i l.passed l.k;
}

abbrev pub invariant-ranks : goal.invariant-ranks
invariant-ranks l = Tests l.self.letters.now l.self.order.now l.i l.passed l.k l.j
