-- Each entry is the ones of so many words, which are few enough to fit.
use Rattle.std.proofs.Common.{◌≡◌, rules, arith}
use Rattle.ones.proofs.Counting.{none_stored, next_stored, stored_le, all_stored}
use Rattle.ones.proofs.whole_words.Goals as goal

pub loop-i-init : goal.loop-i-init
loop-i-init c = none_stored c.args.marks.now

pub overflow_add-whole : goal.overflow_add-whole
overflow_add-whole c = record { fits = omega (arith, stored_le c.args.marks.now c.loop-i.whole c.loop-i.i c.loop-i.invariant) }

pub loop-i-preserved : goal.loop-i-preserved
loop-i-preserved c = next_stored c.args.marks.now c.loop-i.whole c.loop-i.i _ (omega arith) (search (rules, arith)) c.loop-i.invariant

pub returns : goal.returns
returns c =
    let all : c.loop-i.i ≡ 4 = omega arith in
    record { answer = all_stored c.args.marks.now c.loop-i.whole (rw all at c.loop-i.invariant) }
