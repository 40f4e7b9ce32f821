-- Who is not let in is refused, and for the others the scan reports the search.
use Rattle.std.proofs.lemmas.Result.{err_from_is_err_and}
use Rattle.ordered.proofs.Admitting.{at_the_door, admitted_is}
use Rattle.ordered.proofs.Promises.{refused, scanned, promises}
use Rattle.ordered.proofs.ordered.Goals as goal

pub scan_for-requires : goal.scan_for-requires
scan_for-requires c =
    let I = admitted_is c.args.order.now c.args.pattern _ (at_the_door _ c.args.pattern _ c.in_ok-door.ensures c.is_prepared.ensures.test) in
    record { admitted = I.0; arrangement = I.1 }

pub returns : goal.returns
returns c =
    promises c.args.order.now c.args.pattern _ c.args.cap _
    (scanned _ c.args.pattern _ c.args.cap _ (at_the_door _ c.args.pattern _ c.in_ok-door.ensures c.is_prepared.ensures.test) c.scan_for.ensures)

pub returns-in_err-door : goal.returns-in_err-door
returns-in_err-door c =
    let p = err_from_is_err_and c.from_residual.result c.from_residual.ensures.1 in
    rw (p.1, p.2)
    (promises c.args.order.now c.args.pattern _ c.args.cap _
    (refused _ c.args.pattern _ c.args.cap _ (at_the_door _ c.args.pattern _ c.in_err-door.ensures c.is_prepared.ensures.test)))
