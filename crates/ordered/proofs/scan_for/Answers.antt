-- The letters are put first, and the tables of the order are filled for them.
use Rattle.std.proofs.Common.{sym, arith}
use Rattle.admission.proofs.Mapped.{letters_are, length_taken}
use Rattle.checked.proofs.Reading.{fields_of}
use Rattle.pattern.proofs.Letters.{text_through}
use Rattle.ordered.proofs.Lent.{own_tables}
use Rattle.ordered.proofs.scan_for.Goals as goal

pub slice_bounds-letters-end-2 : goal.slice_bounds-letters-end-2
slice_bounds-letters-end-2 c = sym (length_taken c.args.pattern.now (fields_of _ c.requires.admitted.prepared) c.letters.ensures.answer)

pub scan-requires-clause-lent_tables : goal.scan-requires-clause-lent_tables
scan-requires-clause-lent_tables c =
    let short = (fields_of c.args.pattern.now c.requires.admitted.prepared).short in
    own_tables c.args.pattern.now c.requires.admitted.prepared c.letters.ensures.answer _ c.requires.arrangement
    (omega (arith, short)) (omega (arith, short)) c.fill_shifts.ensures.filled c.fill_among.ensures

pub returns : goal.returns
returns c =
    let fields = fields_of c.args.pattern.now c.requires.admitted.prepared in
    rw text_through (rw (letters_are c.args.pattern.now fields c.letters.ensures.answer) at c.scan.ensures)
