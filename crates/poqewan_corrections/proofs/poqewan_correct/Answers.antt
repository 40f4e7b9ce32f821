-- What `correct::correct` promises of its answer holds of the answer carried.
use mathlib.Core.Path.{ap, ◌∙◌}
use Rattle.carried.specs.Carried.{carried_update}
use Rattle.carried.proofs.Carrying.{used_promised_to_c}
use Rattle.poqewan_corrections.proofs.poqewan_correct.Goals as goal

pub returns : goal.returns
returns c =
    let a = c.correct.result in
    let S = c.correct.ensures in
    let C = c.from.ensures in
    record {
      answer = C ∙ ap carried_update S.answer;
      list = S.list;
      corrected = used_promised_to_c _ a C S.corrected;
      rest = used_promised_to_c _ a C S.rest;
      classed = used_promised_to_c _ a C S.classed;
      full = used_promised_to_c _ a C S.full;
      zeros = used_promised_to_c _ a C S.zeros;
      plain = λ e. let plain = S.plain e in (C ∙ ap carried_update plain.0, plain.1);
    }
