-- What `search::colussi` promises of its answer holds of the answer carried.
use mathlib.Core.Path.{ap, ◌∙◌}
use Rattle.carried.specs.Carried.{carried}
use Rattle.carried.proofs.Carrying.{promised_to_c}
use Rattle.poqewan.proofs.poqewan_colussi.Goals as goal

pub returns : goal.returns
returns c =
    let a = c.colussi.result in
    let S = c.colussi.ensures in
    let C = c.from.ensures in
    record {
      answer = C ∙ ap carried S.answer;
      list = S.list;
      accurate = promised_to_c _ a C S.accurate;
      classed = promised_to_c _ a C S.classed;
      columns = promised_to_c _ a C S.columns;
      ceiling = promised_to_c _ a C S.ceiling;
      zeros = promised_to_c _ a C S.zeros;
      plain = λ e. let plain = S.plain e in (C ∙ ap carried plain.0, plain.1);
    }
