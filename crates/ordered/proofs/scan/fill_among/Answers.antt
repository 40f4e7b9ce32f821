-- A place more is counted, and a count of places is at most how many there are.
use Rattle.std.proofs.Common.{arith}
use Rattle.std.proofs.Math.ListN.{length-set}
use Rattle.ordered.proofs.Among.{none_counted, few, one_counted}
use Rattle.ordered.proofs.scan.fill_among.Goals as goal

pub loop-i-init : goal.loop-i-init
loop-i-init c = none_counted _ _ c.args.among.now (omega arith)

pub loop-i-preserved : goal.loop-i-preserved
loop-i-preserved c =
    one_counted _ _ c.loop-i.invariant (omega (arith, length-set c.args.among.now 0 0)) c.is_marked.ensures.answer c.from-count.ensures

pub overflow_add-count : goal.overflow_add-count
overflow_add-count c = omega (arith, few _ _ (loop-i-preserved c))

pub returns : goal.returns
returns c i l = c.loop-i.invariant.entries i (omega arith)
