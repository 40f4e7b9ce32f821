-- What `first::find_first` promises of its answer holds of the answer carried.
use mathlib.Core.Path.{ap, ◌∙◌}
use Rattle.carried.specs.Carried.{carried_first}
use Rattle.carried.proofs.Carrying.{first_promised_to_c}
use Rattle.poqewan.proofs.poqewan_find_first.Goals as goal

pub returns : goal.returns
returns c =
    let a = c.find_first.result in
    let S = c.find_first.ensures in
    let C = c.from.ensures in
    record {
      answer = C ∙ ap carried_first S.answer;
      full = first_promised_to_c _ a C S.full;
      classed = first_promised_to_c _ a C S.classed;
      ceiling = first_promised_to_c _ a C S.ceiling;
      zeros = first_promised_to_c _ a C S.zeros;
      plain = λ e. C ∙ ap carried_first (S.plain e);
    }
