-- A window more misses.
use Rattle.std.proofs.Common.{arith}
use borrow.Author.Tests.{true-eqb, false-eqb}
use Rattle.lengths.proofs.Loops.{length_letters, passed_none, passed_one}
use Rattle.lengths.proofs.steps.pass.Goals as goal

pub loop-b-init : goal.loop-b-init
loop-b-init c = passed_none _ _ _ _ (omega (arith, length_letters c.args.text))

pub loop-b-preserved : goal.loop-b-preserved
loop-b-preserved c =
    passed_one _ _ _ _ c.loop-b.invariant (omega (arith, length_letters c.args.text)) (omega arith) (false-eqb _ _ c.if-agrees.ensures)

pub returns-then-agrees : goal.returns-then-agrees
returns-then-agrees c = record {
  passes = c.loop-b.invariant;
  inside = omega (arith, length_letters c.args.text);
  found = true-eqb _ _ c.if-agrees.ensures;
}
