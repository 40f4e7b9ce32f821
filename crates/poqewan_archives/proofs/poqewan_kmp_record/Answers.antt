-- What `archive::kmp_record` promises of its answer holds of the answer carried.
use mathlib.Core.Path.{ap, ◌∙◌}
use Rattle.carried.specs.Carried.{carried_record}
use Rattle.carried.proofs.Carrying.{record_promised_to_c}
use Rattle.poqewan_archives.proofs.poqewan_kmp_record.Goals as goal

pub returns : goal.returns
returns c =
    let a = c.kmp_record.result in
    let S = c.kmp_record.ensures in
    let C = c.from.ensures in
    record {
      answer = C ∙ ap carried_record S.answer;
      list = S.list;
      accurate = record_promised_to_c _ a C S.accurate;
      classed = record_promised_to_c _ a C S.classed;
      columns = record_promised_to_c _ a C S.columns;
      ceiling = record_promised_to_c _ a C S.ceiling;
      same = record_promised_to_c _ a C S.same;
      zeros = record_promised_to_c _ a C S.zeros;
      plain = λ e. let plain = S.plain e in (C ∙ ap carried_record plain.0, plain.1);
    }
