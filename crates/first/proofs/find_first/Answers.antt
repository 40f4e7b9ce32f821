-- The answer is that of the search up to the first occurrence, and the promises follow from it.
use Rattle.std.specs.Prelude.{Ok}
use Rattle.std.proofs.Common.{ap, ◌∙◌}
use Rattle.std.proofs.lemmas.Result.{err_from_is_err_and}
use Rattle.first.proofs.Promises.{from_stop, from_refusal, promises}
use Rattle.first.proofs.find_first.Goals as goal

pub returns : goal.returns
returns c =
    let P = promises _ _ (ap Ok c.first_at.ensures ∙ from_stop c.args.pattern c.args.text.now c.in_ok-stop.ensures.answer) in
    record { answer = P.answer; full = P.full; classed = P.classed; ceiling = P.ceiling; zeros = P.zeros; plain = P.plain }

pub returns-in_err-stop : goal.returns-in_err-stop
returns-in_err-stop c =
    let p = err_from_is_err_and c.from_residual.result c.from_residual.ensures.1 in
    let P = promises _ _ (from_refusal c.args.pattern c.args.text.now c.in_err-stop.ensures.answer) in
    rw (p.1, p.2) (record { answer = P.answer; full = P.full; classed = P.classed; ceiling = P.ceiling; zeros = P.zeros; plain = P.plain })
