-- What the tests come to is the answer; where they are passed, the fill leaves zeros in the first scratch_size numbers of the scratch.
use native.Mathlib.Omega.{arith}
use lib.ListN.{length-take}
use Rattle.std.specs.Prelude.{length}
use Rattle.std.proofs.lemmas.Result.{err_from_is_err_and}
use Rattle.preparation.proofs.Answers.{room, success, refusal, zeroed, kept, ensured}
use Rattle.preparation.proofs.prepare.Goals as goal

pub slice_bounds-fill-end : goal.slice_bounds-fill-end
slice_bounds-fill-end c = omega (arith, room c.args.bytes.now c.args.classes.now (length c.args.scratch.now) c.in_ok-outcome_of.ensures.answer)

pub slice_bounds-fill-end-2 : goal.slice_bounds-fill-end-2
slice_bounds-fill-end-2 c =
    simp length-take (omega (arith, room c.args.bytes.now c.args.classes.now (length c.args.scratch.now) c.in_ok-outcome_of.ensures.answer))

pub returns-in_err-outcome_of : goal.returns-in_err-outcome_of
returns-in_err-outcome_of c =
    let p = err_from_is_err_and c.from_residual.result c.from_residual.ensures.1 in
    rw (p.1, p.2)
    (let told = c.in_err-outcome_of.ensures.answer in
    let E = ensured _ _ _ (refusal _ _ _ told) (kept _ _ _ told) in
    record { answer = E.answer; scratched = E.scratched; taken = E.taken; cleared = E.cleared; few = E.few; plain = E.plain })

pub returns : goal.returns
returns c =
    let told = c.in_ok-outcome_of.ensures.answer in
    let E = ensured c.args.bytes.now c.args.classes.now c.args.scratch.now (success _ _ _ told c.build-built.ensures.answer)
    (zeroed _ _ _ _ told c.build-built.ensures.scratched (c.fill.ensures.after (λ y e. e))) in
    record { answer = E.answer; scratched = E.scratched; taken = E.taken; cleared = E.cleared; few = E.few; plain = E.plain }
