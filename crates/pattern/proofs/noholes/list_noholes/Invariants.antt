-- The noholes of the words before i are listed, and marked.
use Rattle.std.proofs.Common.{ℕ, ◌≡◌, ◌*◌, ◌<◌, length, get_or}
use Rattle.pattern.specs.Marks.{mark_word}
use Rattle.pattern.specs.Internal.Ranked.{ListsNoholes}
use Rattle.pattern.proofs.noholes.list_noholes.Given as goal

abbrev pub invariant-loop-i : goal.invariant-loop-i
invariant-loop-i l = record {
  size : length l.word-items ≡ 4;
  marked : (k : ℕ) → k < l.i → get_or l.word-items k 0 ≡ mark_word l.tables.letters.now k;
  lists : ListsNoholes l.tables.letters.now l.ranks.order l.ranks.shift l.listed.later (l.i * 64) l.listed.noholes l.listed.many;
  next : l.ranks.next ≡ l.initial.ranks.next;
}
