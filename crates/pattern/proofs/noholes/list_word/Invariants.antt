-- The noholes below p are listed, and those from the word's first place on are marked.
use Rattle.std.proofs.Common.{◌≡◌}
use Rattle.pattern.proofs.NoholeRanks.{InWord}
use Rattle.pattern.proofs.noholes.list_word.Given as goal

abbrev pub invariant-loop-p : goal.invariant-loop-p
invariant-loop-p l = record {
  in_word : InWord l.tables.letters.now l.ranks.order l.ranks.shift l.listed.later l.from l.p l.word l.i l.t;
  next : l.ranks.next ≡ l.initial.ranks.next;
}
