-- A turn puts one number more.
use Rattle.std.proofs.Common.{◌+◌, arith, add-one, sym}
use Rattle.std.proofs.Math.ListN.{length-map}
use Rattle.std.proofs.Math.Seq.{paste-suc}
use Rattle.lists.specs.Lists.{moved}
use Rattle.lists.proofs.Entries.{moved_at}
use Rattle.correct.proofs.moving.put.Goals as goal

pub loop-i-preserved : goal.loop-i-preserved
loop-i-preserved c =
    let new = moved c.args.start c.args.numbers.now in
    let entry = moved_at c.args.start c.args.numbers.now c.loop-i.i (omega arith) in
    rw (sym entry, c.loop-i.invariant, add-one)
    (paste-suc c.args.list.now c.args.at new c.loop-i.i 0 (omega arith) (omega (arith, length-map c.args.numbers.now (λ x. c.args.start + x))))
