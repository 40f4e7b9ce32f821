-- The test is that of `buildable`.
use Rattle.std.proofs.Common.{◌∙◌, sym, length, arith}
use Rattle.pattern.specs.Internal.Scratch.{Sizes}
use Rattle.pattern.proofs.Building.{build_answer, after_build, no_answer, no_change}
use Rattle.pattern.proofs.build.Goals as goal

pub returns-then-is_empty-clause-answer : goal.returns-then-is_empty-clause-answer
returns-then-is_empty-clause-answer c =
    c.not_built.ensures ∙ sym (no_answer c.args.bytes.now c.args.classes.now c.args.scratch.now (λ some short size room. grind arith))

pub returns-then-is_empty-clause-scratched : goal.returns-then-is_empty-clause-scratched
returns-then-is_empty-clause-scratched c =
    sym (no_change c.args.bytes.now c.args.classes.now c.args.scratch.now (λ some short size room. grind arith))

pub returns-clause-answer : goal.returns-clause-answer
returns-clause-answer c =
    let n = length c.args.scratch.now in
    c.whole.ensures.value
    ∙ sym (build_answer c.args.bytes.now c.args.classes.now n (grind arith) (omega arith) (omega arith) (omega arith))

pub returns-clause-scratched : goal.returns-clause-scratched
returns-clause-scratched c =
    let s = c.args.scratch.now in
    let sizes : Sizes c.args.bytes.now s = record { some = grind arith; short = omega arith; room = omega arith } in
    c.whole.ensures.scratch_after ∙ sym (after_build c.args.bytes.now c.args.classes.now s sizes (omega arith))
