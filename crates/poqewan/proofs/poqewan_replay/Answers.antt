-- What `replay::replay` promises of its answer holds of the answer carried.
use mathlib.Core.Path.{refl, ap, ◌∙◌}
use Rattle.carried.specs.Carried.{carried}
use Rattle.carried.proofs.Carrying.{promised_to_c}
use Rattle.poqewan.proofs.poqewan_replay.Goals as goal

pub returns : goal.returns
returns c =
    let a = c.replay.result in
    let S = c.replay.ensures in
    let C = c.from.ensures in
    record {
      answer = C ∙ ap carried S.answer;
      list = S.list;
      text = λ t is so taken. let same = S.text t is so (λ e. taken (rw (C, e) refl)) in (C ∙ ap carried same.0, same.1);
      own = λ t cap is wrote. let same = S.own t cap is wrote in (C ∙ ap carried same.0, same.1);
      whole = promised_to_c _ a C S.whole;
      columns = promised_to_c _ a C S.columns;
      ceiling = promised_to_c _ a C S.ceiling;
      plain = λ e. let plain = S.plain e in (C ∙ ap carried plain.0, plain.1);
    }
