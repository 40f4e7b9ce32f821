-- What the entries give is stored, one after the other.
use Rattle.std.proofs.Common.{arith}
use Rattle.hmax.proofs.Deriving.{deriving_start, deriving_more}
use Rattle.hmax.proofs.steps.derive.Goals as goal

pub loop-v-init : goal.loop-v-init
loop-v-init c = deriving_start _ _ _ (omega arith) (omega arith) c.requires.has_hmax (omega arith)

pub loop-v-preserved : goal.loop-v-preserved
loop-v-preserved c = deriving_more _ _ _ (omega arith) (omega arith) c.loop-v.invariant (omega arith) (omega arith) (omega arith)
