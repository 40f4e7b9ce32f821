-- The directory that was read lies in the archive, and so do its entries: `meaning` says so of what was read.
use Rattle.std.proofs.Common.{◌≡◌, ◌+◌, Some, Ok, arith, refl, sym}
use Rattle.directory.specs.Archive.{bounds_by, bounds_of, start_of, length_of, end_of, directory_start}
use Rattle.directory.specs.declared.Bounds.{Bounds}
use Rattle.directory.proofs.Records.{found, where_it_lies}
use Rattle.directory.proofs.find_record.Goals as goal

pub overflow_mul-at : goal.overflow_mul-at
overflow_mul-at c = let A = (c.in_ok-directory.ensures.meaning _).0 refl in omega (arith, A.exactly, A.fits)

pub overflow_add-at : goal.overflow_add-at
overflow_add-at c = let A = (c.in_ok-directory.ensures.meaning _).0 refl in omega (arith, A.exactly, A.fits)

pub number_at-start-requires : goal.number_at-start-requires
number_at-start-requires c = let A = (c.in_ok-directory.ensures.meaning _).0 refl in omega (arith, A.exactly)

pub overflow_add-at-2 : goal.overflow_add-at-2
overflow_add-at-2 c = let A = (c.in_ok-directory.ensures.meaning _).0 refl in omega (arith, A.exactly, A.fits)

pub number_at-len-requires : goal.number_at-len-requires
number_at-len-requires c = let A = (c.in_ok-directory.ensures.meaning _).0 refl in omega (arith, A.exactly)

pub returns : goal.returns
unfolding bounds_of start_of length_of end_of directory_start
returns c =
    let A = (c.in_ok-directory.ensures.meaning _).0 refl in
    let there : Bounds = record { start = c.number_at-start.result; end = c.number_at-start.result + c.number_at-len.result } in
    let e : Ok (Some there) ≡ bounds_by c.args.archive.now c.args.index =
    rw (c.number_at-len.ensures.0, c.number_at-start.ensures.0, A.start) (sym (found _ _ (sym c.in_ok-directory.ensures.answer) (omega arith))) in
    record { answer = e; inside = where_it_lies _ _ e }
