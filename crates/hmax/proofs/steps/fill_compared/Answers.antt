-- Each turn finds the next in step with the fast method.
use Rattle.std.proofs.Common.{arith}
use Rattle.hmax.proofs.Comparing.{first_begins, next_begins, comparing_start, comparing_more, comparing_end}
use Rattle.hmax.proofs.steps.fill_compared.Goals as goal

pub extend-i-requires : goal.extend-i-requires
extend-i-requires c = first_begins _ c.requires.room.some

pub loop-i-init : goal.loop-i-init
loop-i-init c = comparing_start c.requires.room c.requires.has_hmax c.extend-i.ensures

pub extend-i-requires-in-loop-i : goal.extend-i-requires-in-loop-i
extend-i-requires-in-loop-i c = next_begins c.loop-i.invariant (omega arith) c.derive-k.ensures c.begin-turn.ensures

pub loop-i-preserved : goal.loop-i-preserved
loop-i-preserved c =
    comparing_more c.loop-i.invariant (omega arith) c.derive-k.ensures c.begin-turn.ensures c.derive-k.auto.table c.extend-i-in-loop-i.ensures

pub returns : goal.returns
returns c = comparing_end c.loop-i.invariant (omega arith)
