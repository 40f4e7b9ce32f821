-- Who is not let in is refused, and for the others the scan reports the search and writes its journal. The promises follow from that.
use Rattle.std.proofs.Common.{sym, refl}
use Rattle.std.proofs.lemmas.Result.{err_from_is_err_and}
use Rattle.admission.proofs.Admitting.{at_the_door, admitted_is}
use Rattle.journaled.proofs.Promises.{refused, scanned, let_in_as, promises, door_said}
use Rattle.journaled.proofs.journaled.Goals as goal

pub scan-requires : goal.scan-requires
scan-requires c =
    let door = sym (at_the_door _ _ c.admit-door.ensures.answer c.is_prepared.ensures.test) in
    let let_in = let_in_as _ _ _ _ (door_said _ _ _ _ c.in_ok-also.ensures.answer refl door) in
    let I = admitted_is _ _ let_in.0 in
    record { prepared = I.prepared; letters = c.letters-letters.ensures.answer; room = (I.fits, let_in.1) }

pub returns : goal.returns
returns c =
    let door = sym (at_the_door _ _ c.admit-door.ensures.answer c.is_prepared.ensures.test) in
    let said = door_said _ _ _ _ c.in_ok-also.ensures.answer refl door in
    promises c.args.pattern _ c.args.cap _ _ (scanned _ _ _ _ _ said c.scan.ensures.reported c.scan.ensures.journal_after)

pub returns-in_err-also : goal.returns-in_err-also
returns-in_err-also c =
    let door = sym (at_the_door _ _ c.admit-door.ensures.answer c.is_prepared.ensures.test) in
    let p = err_from_is_err_and c.from_residual.result c.from_residual.ensures.1 in
    rw (p.1, p.2)
    (promises c.args.pattern _ c.args.cap _ _ (refused _ _ _ _ _ (door_said _ _ _ _ c.in_err-also.ensures.answer refl door)))
