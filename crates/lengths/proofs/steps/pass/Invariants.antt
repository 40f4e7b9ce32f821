-- The windows that are passed miss, and their entries are 0.
use Rattle.lengths.specs.Internal.Steps.{letters_of, Passes}
use Rattle.lengths.proofs.steps.pass.Given as goal

abbrev pub invariant-loop-b : goal.invariant-loop-b
invariant-loop-b l = Passes (letters_of l.text) l.x l.fn.lengths l.lengths l.from l.b
