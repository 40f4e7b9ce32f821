-- The entries above are moved and the numbers put, if there is room.
use Rattle.std.proofs.Common.{arith}
use Rattle.std.proofs.Math.ListN.{length-map}
use Rattle.correct.proofs.Joining.{too_short, joins}
use Rattle.correct.proofs.join.Goals as goal

pub returns-then-positions-kept : goal.returns-then-positions-kept
returns-then-positions-kept c =
    let R = c.requires.used_in_bounds in
    too_short _ _ _ _ _ _ _ _ (length-map c.args.found.now _) R.0 R.2 c.below-low.ensures c.below-high.ensures (omega arith)

pub returns : goal.returns
returns c =
    let R = c.requires.used_in_bounds in
    joins _ _ _ _ _ _ _ _ (length-map c.args.found.now _) R.0 R.2 c.below-low.ensures c.below-high.ensures (omega arith)
    c.slide.ensures c.put.ensures
