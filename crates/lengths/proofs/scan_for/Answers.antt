-- The letters are put first, and the table is filled for them.
use Rattle.std.proofs.Common.{sym, arith}
use Rattle.admission.proofs.Mapped.{letters_are, length_taken}
use Rattle.checked.proofs.Reading.{fields_of}
use Rattle.pattern.proofs.Letters.{text_through}
use Rattle.lengths.proofs.Lent.{short_enough, own_tables}
use Rattle.lengths.proofs.scan_for.Goals as goal

pub slice_bounds-letters-end-2 : goal.slice_bounds-letters-end-2
slice_bounds-letters-end-2 c = sym (length_taken c.args.pattern.now (fields_of _ c.requires.admitted.prepared) c.letters.ensures.answer)

pub invariant_of-prefixes : goal.invariant_of-prefixes
invariant_of-prefixes c =
    let prepared = c.requires.admitted.prepared in
    record {
      tables = own_tables c.args.pattern.now prepared c.letters.ensures.answer _ (omega (arith, short_enough _ prepared)) c.fill_hmax.ensures.filled;
    }

pub returns : goal.returns
returns c =
    let fields = fields_of c.args.pattern.now c.requires.admitted.prepared in
    rw text_through (rw (letters_are c.args.pattern.now fields c.letters.ensures.answer) at c.scan.ensures)
