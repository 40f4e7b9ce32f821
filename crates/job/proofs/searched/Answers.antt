use Rattle.std.proofs.lemmas.Result.{err_from_is_err_and}
use Rattle.job.proofs.Searching.{refuses, may_prepare, not_refused, tells}
use Rattle.job.proofs.searched.Goals as goal

-- The input is refused.
pub returns-in_err-len : goal.returns-in_err-len
returns-in_err-len c =
    let p = err_from_is_err_and c.from_residual.result c.from_residual.ensures.1 in
    rw (p.1, p.2) (refuses c.args.input.now c.in_err-len.ensures.answer)

-- Its pattern is not refused.
pub returns-in_err-built : goal.returns-in_err-built
returns-in_err-built c =
    let P = may_prepare c.args.input.now c.in_ok-len.ensures.meaning in
    absurd (not_refused _ P (rw c.identity_classes.ensures.answer at c.in_err-built.ensures.answer))

-- What the search for the pattern just prepared answers tells what is printed.
pub returns : goal.returns
returns c =
    let ready = rw c.identity_classes.ensures.answer at c.in_ok-built.ensures.answer in
    tells c.args.input.now c.in_ok-len.ensures.meaning c.in_ok-len.ensures.answer ready c.args.positions.now c.requires c.colussi.ensures.answer
    c.colussi.ensures.list
