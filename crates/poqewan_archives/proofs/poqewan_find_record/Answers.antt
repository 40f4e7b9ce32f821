-- What `directory::find_record` promises of its answer holds of the answer carried.
use mathlib.Core.Path.{sym, ap, ◌∙◌}
use Rattle.carried.specs.Carried.{carried_bounds}
use Rattle.carried.proofs.Carrying.{bounds_back}
use Rattle.directory.proofs.Records.{lies_at}
use Rattle.poqewan_archives.proofs.poqewan_find_record.Goals as goal

pub returns : goal.returns
returns c =
    let found = c.find_record in
    let C = c.from.ensures in
    record {
      answer = C ∙ ap carried_bounds found.ensures.answer;
      inside = λ one. lies_at _ _ (sym found.ensures.answer ∙ bounds_back found.result C one);
    }
