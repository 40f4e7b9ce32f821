-- What one more entry and the last tell.
use native.Mathlib.Omega.{arith}
use Rattle.checked.proofs.Same.{none_compared, one_more, all_compared}
use Rattle.checked.proofs.alike.Goals as goal

pub loop-i-init : goal.loop-i-init
loop-i-init g c = none_compared _ _ _

pub loop-i-preserved : goal.loop-i-preserved
loop-i-preserved g c =
    rw c.eq-same.ensures (one_more c.loop-i.invariant (omega arith) (omega (arith, c.requires)) c.index-a-i.is c.index-b-i.is)

pub returns : goal.returns
returns g c = all_compared c.loop-i.invariant (omega arith) (omega arith)
