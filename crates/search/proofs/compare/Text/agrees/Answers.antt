-- The class that is read is the text's letter, and the test compares x with it.
use Rattle.std.proofs.Common.{◌∙◌, sym, arith}
use borrow.Author.Tests.{eqb-true, eqb-false}
use Rattle.classes.proofs.Through.{class_read, through_at}
use Rattle.search.proofs.compare.Text.agrees.Goals as goal

pub returns : goal.returns
returns c =
    let self = c.args.self in
    let class = class_read self.classes.now (omega arith) c.from.ensures in
    rw (← class ∙ sym (through_at self.classes.now self.bytes.now c.args.place c.requires)) record { yes = eqb-true _ _; no = eqb-false _ _ }
