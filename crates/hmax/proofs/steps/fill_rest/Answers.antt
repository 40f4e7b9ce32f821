-- Each entry that is not derived is m.
use Rattle.std.proofs.Common.{arith}
use Rattle.hmax.proofs.Comparing.{ending_more}
use Rattle.hmax.proofs.steps.fill_rest.Goals as goal

pub loop-k-preserved : goal.loop-k-preserved
loop-k-preserved c = ending_more c.loop-k.invariant (omega arith) c.derive-k.ensures c.derive-k.auto.table
