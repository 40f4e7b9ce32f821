-- What `lengths::prefix_lengths` promises of its answer holds of the answer carried.
use mathlib.Core.Path.{ap, ◌∙◌}
use Rattle.carried.specs.Carried.{carried_lengths}
use Rattle.carried.proofs.Carrying.{count_promised_to_c}
use Rattle.poqewan.proofs.poqewan_prefix_lengths.Goals as goal

pub returns : goal.returns
returns c =
    let a = c.prefix_lengths.result in
    let S = c.prefix_lengths.ensures in
    let C = c.from.ensures in
    record {
      answer = C ∙ ap carried_lengths S.answer;
      list = S.list;
      longest = count_promised_to_c _ a C S.longest;
      whole = count_promised_to_c _ a C S.whole;
      ceiling = count_promised_to_c _ a C S.ceiling;
      kmp = count_promised_to_c _ a C S.kmp;
      plain = λ e. let plain = S.plain e in (C ∙ ap carried_lengths plain.0, plain.1);
    }
