-- What one more byte and the last tell.
use native.Mathlib.Omega.{arith}
use Rattle.words.proofs.Holding.{one_looked, all_looked}
use Rattle.intake.proofs.holds.Goals as goal

pub loop-byte-preserved : goal.loop-byte-preserved
loop-byte-preserved c = one_looked c.loop-byte.invariant (omega arith)

pub returns-clause-test : goal.returns-clause-test
returns-clause-test c = (all_looked c.loop-byte.invariant (omega arith)).0

pub returns-clause-meaning : goal.returns-clause-meaning
returns-clause-meaning c = (all_looked c.loop-byte.invariant (omega arith)).1
