-- The ranks that are listed up to the index have their numbers, and nothing but the next ranks is written.
use Rattle.std.proofs.Common.{◌≡◌}
use Rattle.pattern.specs.Internal.Ranked.{Asks}
use Rattle.pattern.proofs.noholes.next_noholes.Given as goal

abbrev pub invariant-loop-rank : goal.invariant-loop-rank
invariant-loop-rank l = record {
  order : l.ranks.order ≡ l.initial.ranks.order;
  shift : l.ranks.shift ≡ l.initial.ranks.shift;
  asks : Asks l.marks.marks.now l.ranks.order l.ranks.shift l.later l.rank-index l.initial.ranks.next l.ranks.next;
}
