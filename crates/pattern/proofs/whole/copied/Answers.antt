-- The bytes stand before as many zeros as are left.
use Rattle.std.proofs.Common.{◌++◌, ap, length}
use Rattle.std.proofs.lemmas.List.{drop-replicate}
use Rattle.pattern.specs.Lists.{padded}
use Rattle.pattern.proofs.whole.copied.Goals as goal

pub returns : goal.returns
unfolding padded
returns c = rw c.copy_from_slice.ensures.after (ap (λ x. c.args.bytes.now ++ x) (drop-replicate (length c.args.bytes.now) 256 0))
