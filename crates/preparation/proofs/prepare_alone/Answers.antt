-- Its tests and its pattern are those of preparation.
use Rattle.std.proofs.lemmas.Result.{err_from_is_err_and}
use Rattle.preparation.proofs.Answers.{success, refusal, ensured_alone}
use Rattle.preparation.proofs.prepare_alone.Goals as goal

pub returns-in_err-outcome_of : goal.returns-in_err-outcome_of
returns-in_err-outcome_of c =
    let p = err_from_is_err_and c.from_residual.result c.from_residual.ensures.1 in
    rw (p.1, p.2)
    (let E = ensured_alone _ _ (refusal _ _ _ c.in_err-outcome_of.ensures.answer) in
    record { answer = E.0; plain = E.1 })

pub returns : goal.returns
returns c = let E = ensured_alone _ _ (success _ _ _ c.in_ok-outcome_of.ensures.answer c.build.ensures.answer) in record { answer = E.0; plain = E.1 }
