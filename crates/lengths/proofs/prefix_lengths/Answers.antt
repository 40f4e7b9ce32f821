-- Who does not pass a test is refused, and for the others the scan writes the list and counts.
use Rattle.std.proofs.Common.{rules}
use Rattle.std.proofs.lemmas.Result.{err_from_is_err_and}
use Rattle.lengths.proofs.Promises.{at_the_tests, tested_is, refused, counted, promises}
use Rattle.lengths.proofs.prefix_lengths.Goals as goal

pub scan_for-requires : goal.scan_for-requires
scan_for-requires c =
    let I = tested_is c.args.pattern _ _
    (at_the_tests c.args.pattern _ _ (search rules) c.is_prepared.ensures.test c.in_ok-also.ensures.answer) in
    record { admitted = I.0; room = I.1 }

pub returns : goal.returns
returns c =
    promises c.args.pattern _ _
    (counted c.args.pattern _ _ (at_the_tests c.args.pattern _ _ (search rules) c.is_prepared.ensures.test c.in_ok-also.ensures.answer)
    c.scan_for.ensures.value c.scan_for.ensures.lengths_after)

pub returns-in_err-also : goal.returns-in_err-also
returns-in_err-also c =
    let p = err_from_is_err_and c.from_residual.result c.from_residual.ensures.1 in
    rw (p.1, p.2)
    (promises c.args.pattern _ _
    (refused c.args.pattern _ _ (at_the_tests c.args.pattern _ _ (search rules) c.is_prepared.ensures.test c.in_err-also.ensures.answer)))
