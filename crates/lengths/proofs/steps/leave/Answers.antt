-- An entry more is written.
use Rattle.std.proofs.Common.{◌-◌, ap, arith}
use Rattle.std.proofs.Math.ListN.{length-set}
use Rattle.lengths.proofs.Loops.{left_one}
use Rattle.lengths.proofs.steps.leave.Goals as goal

pub loop-k-preserved : goal.loop-k-preserved
loop-k-preserved c =
    left_one _ _ _ _ _ c.loop-k.invariant (omega arith) (omega (arith, length-set c.args.lengths.now c.args.b c.args.i))
    c.if-h-i.false (ap (λ h. h - c.loop-k.k) c.min.ensures)
