-- The class of the byte that is read is the letter at its position.
use Rattle.std.proofs.Common.{sym, ◌∙◌, refl, arith}
use Rattle.classes.proofs.Through.{class_read, through_at}
use Rattle.journaled.proofs.scan.agree.Goals as goal

pub returns : goal.returns
returns c =
    let class = class_read c.args.classes.now (omega arith) c.from.ensures in
    let read = class ∙ sym (through_at c.args.classes.now c.args.text.now c.args.position c.requires) in
    rw (← read) refl
