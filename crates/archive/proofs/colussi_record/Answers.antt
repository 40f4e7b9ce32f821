-- A record that is found is searched, and else what is told in place of a search is the answer. The promises follow from the answer.
use Rattle.std.proofs.Common.{refl}
use Rattle.std.proofs.lemmas.Result.{err_from_is_err_and}
use Rattle.directory.proofs.Records.{lies_at}
use Rattle.rules.specs.Colussi.{colussi}
use Rattle.archive.proofs.Answers.{told, searched}
use Rattle.archive.proofs.Promises.{colussi_record_promises}
use Rattle.archive.proofs.colussi_record.Goals as goal

pub returns-in_err-start : goal.returns-in_err-start
returns-in_err-start c =
    let args = c.args in
    let e = err_from_is_err_and c.from_residual.result c.from_residual.ensures.1 in
    rw (e.1, e.2) (colussi_record_promises args.pattern _ args.index args.cap _ (told colussi args.pattern _ args.index args.cap _ c.in_err-start.ensures.answer))

pub returns-in_default : goal.returns-in_default
returns-in_default c =
    let args = c.args in
    let none = rw c.in_default.is at c.in_ok-start.ensures.answer in
    colussi_record_promises args.pattern _ args.index args.cap _ (told colussi args.pattern _ args.index args.cap _ none)

pub returns-in_err-report : goal.returns-in_err-report
returns-in_err-report c =
    let args = c.args in
    let S = c.in_err-report.ensures in
    let e = err_from_is_err_and c.from_residual-in_err-report.result c.from_residual-in_err-report.ensures.1 in
    let there = told colussi args.pattern _ args.index args.cap args.positions.now (rw c.in-Some.is at c.in_ok-start.ensures.answer) in
    rw (e.1, e.2)
    (colussi_record_promises args.pattern _ args.index args.cap _
    (searched colussi args.pattern _ args.index args.cap _ there (lies_at _ _ there).bytes S.answer S.list refl))

pub returns : goal.returns
returns c =
    let args = c.args in
    let S = c.in_ok-report.ensures in
    let there = told colussi args.pattern _ args.index args.cap args.positions.now (rw c.in-Some.is at c.in_ok-start.ensures.answer) in
    colussi_record_promises args.pattern _ args.index args.cap _
    (searched colussi args.pattern _ args.index args.cap _ there (lies_at _ _ there).bytes S.answer S.list refl)
