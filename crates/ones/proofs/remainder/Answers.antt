-- The mask leaves the bits below the place.
use Rattle.std.proofs.Common.{◌∙◌, refl}
use Rattle.ones.proofs.Counting.{below_place}
use Rattle.ones.proofs.remainder.Goals as goal

pub returns : goal.returns
returns c = (c.ones_of.ensures.0 ∙ below_place c.args.word c.args.place _ c.requires refl, c.ones_of.ensures.1)
