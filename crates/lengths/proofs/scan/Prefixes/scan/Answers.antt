-- The one part leads to where the other begins, and all are counted.
use Rattle.std.proofs.Common.{arith}
use Rattle.lengths.proofs.Loops.{length_letters}
use Rattle.lengths.proofs.scan.Prefixes.scan.Goals as goal

pub rest-more-requires-clause-i_in_bounds : goal.rest-more-requires-clause-i_in_bounds
rest-more-requires-clause-i_in_bounds c =
    let S = c.inside-window.ensures.scans.stands in
    (S.upto, omega (arith, S.inside, length_letters c.args.text))

pub returns-clause-value : goal.returns-clause-value
returns-clause-value c = omega (arith, (c.rest-more.ensures.carries _ _ c.inside-window.ensures.scans).0, length_letters c.args.text)

pub returns-clause-lengths_after : goal.returns-clause-lengths_after
returns-clause-lengths_after c = (c.rest-more.ensures.carries _ _ c.inside-window.ensures.scans).1
