-- Each place is written at the rank that is free, and leaves it free where it is a nohole.
use Rattle.std.proofs.Common.{◌-◌, arith}
use Rattle.pattern.proofs.HoleRanks.{holes_from, holes_more, holes_all}
use Rattle.pattern.proofs.holes.list_holes.Goals as goal

pub loop-p-init : goal.loop-p-init
loop-p-init c = rw c.len-m.ensures (holes_from c.args.tables.now.letters.now c.args.d c.requires.d_value.0 c.requires.d_value.1)

pub loop-p-preserved : goal.loop-p-preserved
loop-p-preserved c =
    holes_more c.args.tables.now.letters.now c.args.tables.now.sizes.short c.loop-p.p (c.loop-p.p - 1) c.loop-p.i _ _ _ _ _ (omega arith)
    c.kmin.ensures.0 c.len-m.ensures c.from-i.ensures c.leaving_at-at.ensures c.loop-p.invariant

pub returns : goal.returns
returns c =
    rw c.len-m.ensures (holes_all c.args.tables.now.letters.now c.loop-p.p c.loop-p.i _ _ (omega arith) c.loop-p.invariant
    c.args.tables.now.sizes.short c.args.tables.now.sizes.some)
