-- Where no window begins with x, all up to the text's end are passed.
use Rattle.std.proofs.Common.{refl, sym, arith, inr}
use Rattle.lengths.proofs.Loops.{length_letters}
use Rattle.lengths.proofs.steps.begin.Goals as goal

pub returns-in-None : goal.returns-in-None
returns-in-None c = inr (omega arith, inr (refl, sym (length_letters c.args.text), c.in-None.ensures))
