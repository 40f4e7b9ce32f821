-- Who is not let in is refused, and for the others the scan reports the search. The promises follow from the answer.
use Rattle.std.proofs.Common.{length, arith}
use Rattle.std.proofs.lemmas.Result.{err_from_is_err_and}
use Rattle.admission.proofs.Admitting.{at_the_door, admitted_is}
use Rattle.admission.proofs.Mapped.{letters_are}
use Rattle.checked.proofs.Reading.{fields_of}
use Rattle.rules.specs.Kmp.{kmp}
use Rattle.search.proofs.LentTables.{kmp_tables, by_rank, noholes_within}
use Rattle.search.proofs.Answers.{refused, scanned}
use Rattle.search.proofs.Promises.{kmp_promises}
use Rattle.search.proofs.kmp.Goals as goal

pub fill_by_place-requires : goal.fill_by_place-requires
fill_by_place-requires c =
    let F = fields_of _ (admitted_is _ _ (at_the_door c.args.pattern (length c.args.text.now) c.in_ok-admit.ensures.answer c.is_prepared.ensures.test)).prepared in
    (noholes_within _ F, F.short)

pub scan-requires : goal.scan-requires
scan-requires c =
    let told = at_the_door c.args.pattern (length c.args.text.now) c.in_ok-admit.ensures.answer c.is_prepared.ensures.test in
    let F = fields_of _ (admitted_is _ _ told).prepared in
    record {
      some = (F.some, F.short);
      tables = kmp_tables _ F c.letters-letters.ensures.answer (c.fill_by_place.ensures _ (by_rank _ F));
      short = omega (arith, (admitted_is _ _ told).fits);
    }

pub returns : goal.returns
returns c =
    let told = at_the_door c.args.pattern (length c.args.text.now) c.in_ok-admit.ensures.answer c.is_prepared.ensures.test in
    let F = fields_of _ (admitted_is _ _ told).prepared in
    let P = kmp_promises c.args.pattern _ c.args.cap _
    (scanned kmp c.args.pattern _ c.args.cap _ told (letters_are _ F c.letters-letters.ensures.answer) c.scan.ensures) in
    record {
      answer = P.answer;
      list = P.list;
      accurate = P.accurate;
      classed = P.classed;
      columns = P.columns;
      ceiling = P.ceiling;
      same = P.same;
      zeros = P.zeros;
      plain = P.plain;
    }

pub returns-in_err-admit : goal.returns-in_err-admit
returns-in_err-admit c =
    let p = err_from_is_err_and c.from_residual.result c.from_residual.ensures.1 in
    let P = kmp_promises c.args.pattern _ c.args.cap _ (refused kmp c.args.pattern _ c.args.cap _ (at_the_door c.args.pattern (length c.args.text.now) c.in_err-admit.ensures.answer c.is_prepared.ensures.test)) in
    rw (p.1, p.2)
    record {
      answer = P.answer;
      list = P.list;
      accurate = P.accurate;
      classed = P.classed;
      columns = P.columns;
      ceiling = P.ceiling;
      same = P.same;
      zeros = P.zeros;
      plain = P.plain;
    }
