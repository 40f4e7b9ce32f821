-- The place p + 1 is a period where its hmax is the length.
use Rattle.std.proofs.Common.{◌≡◌, ◌+◌, ◌-◌, length, arith}
use Rattle.pattern.proofs.HoleRanks.{below_counted, none_counted, leaves_period, leaves_no_period}
use Rattle.pattern.proofs.holes.leaving_at.Goals as goal

pub returns-then-hmax-m : goal.returns-then-hmax-m
returns-then-hmax-m c =
    let w = c.args.tables.now.letters.now in
    let back : c.args.p + 1 - 1 ≡ c.args.p = omega arith in
    rw back at (leaves_no_period w (c.args.p + 1) (omega arith) c.requires.above.0 (omega arith) c.requires.above.1)

pub returns-then-rest-hmax : goal.returns-then-rest-hmax
returns-then-rest-hmax c =
    let w = c.args.tables.now.letters.now in
    let back : c.args.p + 1 - 1 ≡ c.args.p = omega arith in
    rw back at (leaves_period w (c.args.p + 1) (omega arith) c.requires.above.0 0 (omega arith)
    (none_counted w c.hmax-2.result (length w - (c.args.p + 1)) c.args.tables.now.sizes.some c.hmax-2.ensures.0 (omega arith)))

pub returns-else-rest-hmax : goal.returns-else-rest-hmax
returns-else-rest-hmax c =
    let w = c.args.tables.now.letters.now in
    let short = c.args.tables.now.sizes.short in
    let back : c.args.p + 1 - 1 ≡ c.args.p = omega arith in
    rw back at (leaves_period w (c.args.p + 1) (omega arith) c.requires.above.0 c.below-next.result (omega arith)
    (rw c.len-m.ensures at (below_counted w (c.len-m.result - (c.args.p + 1)) _ c.requires.marks (omega arith) c.below-next.ensures.0)))
