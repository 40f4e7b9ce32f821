-- Who is not let in is refused, and so is a journal that the first pass does not accept; for the others the second pass fills the list and reports.
-- The promises follow from the answer.
use Rattle.std.proofs.lemmas.Result.{err_from_is_err_and}
use Rattle.admission.proofs.Admitting.{at_the_door, admitted_is}
use Rattle.checked.proofs.Reading.{fields_of}
use Rattle.replay.proofs.Tables.{lent_tables, of_the_word, nothing_written}
use Rattle.replay.proofs.Promises.{refused, none_accepted, ran, promises}
use Rattle.replay.proofs.replay.Goals as goal

pub returns-in_err-admit : goal.returns-in_err-admit
returns-in_err-admit c =
    let told = at_the_door _ _ c.in_err-admit.ensures.answer c.is_prepared.ensures.test in
    let p = err_from_is_err_and c.from_residual.result c.from_residual.ensures.1 in
    rw (p.1, p.2) (promises c.args.pattern c.args.n _ _ (refused _ _ _ _ told))

pub follow-requires-clause-lent : goal.follow-requires-clause-lent
follow-requires-clause-lent c =
    let told = at_the_door _ _ c.in_ok-admit.ensures.answer c.is_prepared.ensures.test in
    lent_tables c.args.pattern (fields_of c.args.pattern (admitted_is _ _ told).prepared)

pub follow-requires-2-clause-lent : goal.follow-requires-2-clause-lent
follow-requires-2-clause-lent c =
    let told = at_the_door _ _ c.in_ok-admit.ensures.answer c.is_prepared.ensures.test in
    lent_tables c.args.pattern (fields_of c.args.pattern (admitted_is _ _ told).prepared)

pub returns-in_err-ok_or : goal.returns-in_err-ok_or
returns-in_err-ok_or c =
    let told = at_the_door _ _ c.in_ok-admit.ensures.answer c.is_prepared.ensures.test in
    let list = nothing_written c.follow.new.positions c.args.positions.now c.follow.auto.positions in
    let p = err_from_is_err_and c.from_residual-in_err-ok_or.result c.from_residual-in_err-ok_or.ensures.1 in
    let first = of_the_word c.args.pattern (fields_of c.args.pattern (admitted_is _ _ told).prepared) _ _ _ _ _ _ c.follow.ensures in
    rw (p.1, p.2, list) (promises c.args.pattern c.args.n _ _ (none_accepted _ _ _ _ told _ _ _ first c.in_err-ok_or.ensures.value))

pub returns : goal.returns
returns c =
    let told = at_the_door _ _ c.in_ok-admit.ensures.answer c.is_prepared.ensures.test in
    let list = nothing_written c.follow.new.positions c.args.positions.now c.follow.auto.positions in
    let F = fields_of c.args.pattern (admitted_is _ _ told).prepared in
    let first = of_the_word c.args.pattern F _ _ _ _ _ _ c.follow.ensures in
    let second = of_the_word c.args.pattern F _ _ _ _ _ _ (rw list at c.follow-2.ensures) in
    rw c.ok_or-2.ensures.value (promises c.args.pattern c.args.n _ _
    (ran _ _ _ _ told _ _ _ _ _ first c.in_ok-ok_or.ensures.value second))
