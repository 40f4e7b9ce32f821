-- The entries up to that of rank m are filled, and the others are kept.
use Rattle.std.proofs.Common.{ℕ, arith, length-take}
use Rattle.custom.proofs.Filling.{all_filled}
use Rattle.custom.proofs.distances.Ranks.fill.Goals as goal

pub returns : goal.returns
returns c = all_filled _ _ _ _ (omega (arith, length-take {A = ℕ})) (λ j l. c.loop-i.invariant.entries j (omega (arith, length-take {A = ℕ})))
