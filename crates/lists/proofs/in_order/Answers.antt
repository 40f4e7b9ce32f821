-- Each entry moves the test on, and after the last it is the answer; so it says what `Ascending` does.
use Rattle.std.proofs.Common.{arith}
use Rattle.lists.proofs.Ascending.{answers, none_tested, pair_tested, all_tested}
use Rattle.lists.proofs.in_order.Goals as goal

pub loop-i-init : goal.loop-i-init
loop-i-init c = (omega arith, none_tested c.args.list.now)

pub loop-i-preserved : goal.loop-i-preserved
loop-i-preserved c = (omega arith, pair_tested c.args.list.now c.loop-i.i _ (omega arith) c.loop-i.invariant.1)

pub returns : goal.returns
returns c =
    let inv = c.loop-i.invariant in
    let both = answers _ _ (all_tested c.args.list.now c.args.used c.loop-i.i _ (omega arith) (omega arith) inv.0 (omega arith) inv.1) in
    record { answer = both.0; meaning = both.1 }
