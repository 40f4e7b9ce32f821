-- What `preparation::prepare` answers is carried, field by field.
use mathlib.Core.Path.{◌≡◌, refl, sym, ap, ◌∙◌}
use native.Mathlib.Omega.{arith}
use lib.ListN.{length}
use Rattle.std.specs.Prelude.{Err}
use Rattle.carried.specs.Carried.{carried_preparation}
use Rattle.carried.proofs.Carrying.{prepared_is_0}
use Rattle.hmax.proofs.FastRun.{none_few}
use Rattle.refusal.specs.Numbers.{number_of}
use Rattle.preparation.proofs.Answers.{compared_small}
use Rattle.poqewan.proofs.poqewan_prepare.Goals as goal

pub overflow_cast-result : goal.overflow_cast-result
overflow_cast-result c = omega (arith, compared_small c.args.bytes.now c.args.classes.now _ c.in-Ok.ensures.answer)

pub returns-in-Ok : goal.returns-in-Ok
unfolding carried_preparation
returns-in-Ok c =
    let S = c.in-Ok.ensures in
    record {
      answer = ap carried_preparation S.answer;
      scratched = S.scratched;
      taken = (λ e. S.taken.0 refl, λ h. refl);
      cleared = λ e. S.cleared refl;
      few = S.few;
      plain = λ e. let plain = S.plain e in (ap carried_preparation plain.0, plain.1);
    }

pub returns-in-Err : goal.returns-in-Err
unfolding carried_preparation
returns-in-Err c =
    let S = c.in-Err.ensures in
    let number : c.from.result ≡ number_of c.in-Err.why = c.from.ensures ∙ c.number.ensures in
    let none = prepared_is_0 (Err c.in-Err.why) in
    record {
      answer = rw (number, c.zero_pattern.ensures.answer) (ap carried_preparation S.answer);
      scratched = S.scratched;
      taken = (λ e. S.taken.0 (none.0 (sym number ∙ e)), λ h. number ∙ none.1 (S.taken.1 h));
      cleared = λ e. S.cleared (none.0 (sym number ∙ e));
      few = none_few (length c.args.bytes.now);
      plain = λ e.
          let plain = S.plain e in
          (rw (number, c.zero_pattern.ensures.answer) (ap carried_preparation plain.0), plain.1);
    }
