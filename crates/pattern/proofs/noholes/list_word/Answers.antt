-- Each place of the word is written at the rank that is free, which is taken where it is a nohole.
use Rattle.std.proofs.Common.{refl, arith}
use Rattle.pattern.proofs.NoholeRanks.{word_from, word_fits, word_more, word_to}
use Rattle.pattern.proofs.noholes.list_word.Goals as goal

pub loop-p-init : goal.loop-p-init
loop-p-init c = record {
  in_word = word_from c.args.tables.now.letters.now c.args.from c.max-p.result c.hmax-first.result c.args.tables.now.sizes.some
      c.hmax-first.ensures.0 c.max-p.ensures c.requires.from_bound.1;
  next = refl;
}

pub overflow_add-word : goal.overflow_add-word
overflow_add-word c = record {
  fits = word_fits c.args.tables.now.letters.now c.args.from c.loop-p.p c.loop-p.word c.loop-p.i c.loop-p.t c.kmin-k.result c.len-m.result
      c.from.result (omega arith) (omega arith) c.kmin-k.ensures.0 c.len-m.ensures c.from.ensures c.loop-p.invariant.in_word;
}

pub loop-p-preserved : goal.loop-p-preserved
loop-p-preserved c = record {
  in_word = word_more c.args.tables.now.letters.now c.args.from c.loop-p.p c.loop-p.word c.loop-p.i c.loop-p.t c.kmin-k.result c.len-m.result
      c.from.result (omega arith) (omega arith) c.kmin-k.ensures.0 c.len-m.ensures c.from.ensures c.loop-p.invariant.in_word c.hmax-first.result
      c.from-t.result c.from-i.result c.args.tables.now.sizes.short c.hmax-first.ensures.0 c.from-i.ensures c.from-t.ensures;
  next = c.loop-p.invariant.next;
}

pub returns-clause-word : goal.returns-clause-word
returns-clause-word c =
    word_to c.args.tables.now.letters.now c.args.from c.loop-p.p c.loop-p.word c.loop-p.i c.loop-p.t (omega arith) c.loop-p.invariant.in_word
