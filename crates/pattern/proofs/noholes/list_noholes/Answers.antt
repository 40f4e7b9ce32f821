-- Each word goes on where the one before it ends.
use Rattle.std.proofs.Common.{◌*◌, ◌∙◌, length-set, arith}
use Rattle.pattern.proofs.NoholeRanks.{list_ends, next_word, all_words}
use Rattle.pattern.proofs.noholes.list_noholes.Goals as goal

pub loop-i-preserved : goal.loop-i-preserved
loop-i-preserved c =
    let w = c.args.tables.now.letters.now in
    let next = next_word w c.loop-i.word-items c.loop-i.i c.list_word.result _ _ (omega arith) c.loop-i.invariant.marked c.list_word.ensures.word in
    record {
      size = length-set c.loop-i.word-items c.loop-i.i _ ∙ c.loop-i.invariant.size;
      marked = next.0;
      lists = next.1;
      next = c.list_word.ensures.next ∙ c.loop-i.invariant.next;
    }

pub returns-clause-marks : goal.returns-clause-marks
returns-clause-marks c =
    all_words c.args.tables.now.letters.now c.loop-i.word-items c.loop-i.invariant.size (λ k l. c.loop-i.invariant.marked k (omega arith))

pub returns-clause-all : goal.returns-clause-all
returns-clause-all c =
    list_ends c.args.tables.now.letters.now (c.loop-i.i * 64) (omega (arith, c.args.tables.now.sizes.short)) c.loop-i.invariant.lists
