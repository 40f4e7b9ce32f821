-- A word is its 64 bits, of which at most 64 are set.
use Rattle.std.proofs.lemmas.Nat.{ones-le}
use Rattle.ones.proofs.Counting.{all_bits}
use Rattle.ones.proofs.ones_of.Goals as goal

pub returns : goal.returns
returns c = (all_bits c.args.word c.ranges.word.fits, ones-le 64 c.args.word c.ranges.word.fits)
