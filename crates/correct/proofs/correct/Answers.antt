-- Where nothing is searched the door answers; else the windows that cover the place are searched, and what is found is joined with the entries kept.
use Rattle.std.proofs.Common.{arith, sym, ◌∙◌}
use Rattle.std.proofs.Math.ListN.{replicate}
use Rattle.std.proofs.lemmas.Result.{err_from_is_err_and}
use Rattle.lists.proofs.Ascending.{in_order_is}
use Rattle.correct.proofs.Answers.{unsearched, before_is, updates, refused}
use Rattle.correct.proofs.Promises.{correct_promises}
use Rattle.correct.proofs.Searching.{found_by, not_by, joined_is}
use Rattle.correct.proofs.correct.Goals as goal

pub returns-then-n-gt-LONGEST_TEXT : goal.returns-then-n-gt-LONGEST_TEXT
returns-then-n-gt-LONGEST_TEXT c =
    let args = c.args in
    correct_promises args.pattern _ args.place _ args.used
    (unsearched args.pattern _ args.place _ args.used c.in_order-in_order.ensures.answer (grind arith) c.unsearched.ensures)

-- ---- The windows are searched

pub join-requires-clause-used_in_bounds : goal.join-requires-clause-used_in_bounds
join-requires-clause-used_in_bounds c =
    let args = c.args in
    let S = c.in_ok-report.ensures in
    let U = in_order_is args.positions.now args.used (sym c.in_order-in_order.ensures.answer ∙ c.if-not-in_order.false) in
    let F =
    found_by args.pattern _ args.place c.around-start.result (omega arith) (omega arith) c.around-start.ensures
    (replicate 256 0) c.colussi.auto.positions S.answer S.accurate S.ceiling in
    (U.0, U.1, F.order)

pub returns : goal.returns
returns c =
    let args = c.args in
    let S = c.in_ok-report.ensures in
    let F =
    found_by args.pattern _ args.place c.around-start.result (omega arith) (omega arith) c.around-start.ensures
    (replicate 256 0) c.colussi.auto.positions S.answer S.accurate S.ceiling in
    correct_promises args.pattern _ args.place _ args.used
    (updates args.pattern _ args.place _ args.used (sym c.in_order-in_order.ensures.answer ∙ c.if-not-in_order.false) F.lets_in
    (joined_is args.pattern _ args.place _ _ _ _ args.used (omega arith) F c.join.ensures)
    c.join.ensures.answer c.join.ensures.list)

pub returns-in_err-report : goal.returns-in_err-report
returns-in_err-report c =
    let args = c.args in
    let p = err_from_is_err_and c.from_residual.result c.from_residual.ensures.1 in
    let e =
    not_by args.pattern _ args.place c.around-start.result (omega arith) (omega arith) c.around-start.ensures
    (replicate 256 0) c.in_err-report.ensures.answer in
    rw (p.1, p.2)
    (correct_promises args.pattern _ args.place _ args.used
    (refused args.pattern _ args.place _ args.used
    (before_is args.pattern _ args.place _ args.used (sym c.in_order-in_order.ensures.answer ∙ c.if-not-in_order.false) ∙ e)))
