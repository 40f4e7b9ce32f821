-- A turn of the loop is a turn of the scan by rank (proofs/ColussiScan).
use Rattle.std.proofs.Common.{◌+◌, ◌-◌, ◌<◌, length, take, refl, ap, arith}
use Rattle.classes.specs.Classes.{through}
use Rattle.classes.proofs.Through.{length_through}
use Rattle.rules.specs.Rules.{text_source, left}
use Rattle.rules.proofs.Rules.{fewer, no_more}
use Rattle.search.proofs.LentTables.{in_window, in_text, past_text}
use Rattle.search.proofs.ColussiScan.{ScansByRank, by_rank_start, within_cap, due_place, none_due, shift_on, done_at_once, reports_colussi, text_agrees, text_differs, scan_done, scan_ahead, noholes_passed, scan_spent, scan_matched, scan_missed, scan_full, scan_listed}
use Rattle.search.proofs.colussi_scan.scan.Goals as goal
use Rattle.search.proofs.colussi_scan.scan.Goals.{After-leave-after}

-- The window is left at a mismatch.
missed : (c : After-leave-after)
    → (let pattern = c.args.pattern.now in
    let letters = c.args.letters.now in
    let after = c.leave-after.result in
    ScansByRank letters pattern.len pattern.noholes (text_source (take pattern.len letters) (through pattern.classes c.args.text.now)) c.args.cap
    c.args.positions.now c.loop-b.positions after.window after.rank after.edge (c.loop-b.left - 1) (c.loop-b.h + after.holes) c.loop-b.k)
missed c =
    let T = c.requires.lent.order in
    let D = due_place _ _ _ _ T c.due.ensures c.if-due.true c.from-o.ensures in
    let L = c.leave-after.ensures in
    scan_missed _ _ _ _ T c.loop-b.invariant (in_text _ _ c.if-text-m.false c.loop-b-test.true) _ D.0 c.from-o.ensures D.1 c.if-left-eq0.false
    (text_differs _ _ _ _ T _ c.loop-b.b _ D.2 (c.agrees.ensures.no c.if-agrees.false)) c.requires.lent.moves L.window L.rank L.edge L.holes

missed-less : (c : After-leave-after)
    → (let m = c.args.pattern.now.len in
    let n = length (through c.args.pattern.now.classes c.args.text.now) in
    left m n c.leave-after.result.window c.leave-after.result.rank < left m n c.loop-b.b c.loop-b.i)
missed-less c =
    rw c.leave-after.ensures.window (fewer _ _ _ _ _ _ (in_text _ _ c.if-text-m.false c.loop-b-test.true)
    (shift_on _ _ _ _ c.requires.lent.order _ _ c.requires.lent.moves c.loop-b.i (omega (arith, (c.due.ensures.yes c.if-due.true).0))))

pub returns-then-text-m : goal.returns-then-text-m
returns-then-text-m c =
    rw c.with_holes.ensures.answer (reports_colussi _ _ _ (done_at_once _ _ _ _ c.requires.lent.order
    (text_source (take c.args.pattern.now.len c.args.letters.now) (through c.args.pattern.now.classes c.args.text.now)) _ c.args.positions.now
    (omega (arith, length_through c.args.pattern.now.classes c.args.text.now))))

pub loop-b-init : goal.loop-b-init
loop-b-init c = by_rank_start _ _ _ _ _ _

pub ended-requires : goal.ended-requires
ended-requires c = omega (arith, within_cap c.loop-b.invariant)

pub returns-then-left-eq0 : goal.returns-then-left-eq0
returns-then-left-eq0 c =
    let T = c.requires.lent.order in
    let D = due_place _ _ _ _ T c.due.ensures c.if-due.true c.from-o.ensures in
    rw c.ended.ensures (reports_colussi _ _ _ (scan_spent _ _ _ _ T c.loop-b.invariant (in_text _ _ c.if-text-m.false c.loop-b-test.true) _ D.0
    c.from-o.ensures D.1 c.if-left-eq0.true))

pub agrees-requires : goal.agrees-requires
agrees-requires c = omega (arith, due_place _ _ _ _ c.requires.lent.order c.due.ensures c.if-due.true c.from-o.ensures)

pub loop-b-preserved-then-agrees : goal.loop-b-preserved-then-agrees
loop-b-preserved-then-agrees c =
    let T = c.requires.lent.order in
    let D = due_place _ _ _ _ T c.due.ensures c.if-due.true c.from-o.ensures in
    scan_matched _ _ _ _ T c.loop-b.invariant (in_text _ _ c.if-text-m.false c.loop-b-test.true) _ D.0 c.from-o.ensures D.1 c.if-left-eq0.false
    (text_agrees _ _ _ _ T _ c.loop-b.b _ D.2 (c.agrees.ensures.yes c.if-agrees.true))

pub overflow_add-h : goal.overflow_add-h
overflow_add-h c = omega (arith, within_cap (missed (goal.at.overflow_add-h c).After-leave-after))

pub ahead-spot-requires : goal.ahead-spot-requires
ahead-spot-requires c =
    omega (arith, in_window _ _ _ _ c.requires.lent.order 0 c.from-first.result c.requires.lent.order.some c.from-first.ensures)

pub loop-b-smaller-then-b-last : goal.loop-b-smaller-then-b-last
loop-b-smaller-then-b-last c =
    let n = length (through c.args.pattern.now.classes c.args.text.now) in
    let spot = c.ahead-spot.result in
    let stays = no_more c.args.pattern.now.len n c.leave-after.result.window c.leave-after.result.rank spot.window spot.rank
    c.if-i-eq0.true c.ahead-spot.ensures.from in
    omega (arith, missed-less (goal.at.loop-b-smaller-then-b-last c).After-leave-after, stays)

pub loop-b-preserved-then-b-last : goal.loop-b-preserved-then-b-last
loop-b-preserved-then-b-last c =
    scan_ahead _ _ _ _ c.requires.lent.order _ (missed (goal.at.loop-b-preserved-then-b-last c).After-leave-after) c.ahead-spot.ensures
    (omega (arith, length_through c.args.pattern.now.classes c.args.text.now)) c.if-i-eq0.true c.if-d-gt0.true c.from-first.ensures refl

pub loop-b-smaller-else-i-eq0 : goal.loop-b-smaller-else-i-eq0
loop-b-smaller-else-i-eq0 c = missed-less (goal.at.loop-b-smaller-else-i-eq0 c).After-leave-after

pub loop-b-preserved-else-i-eq0 : goal.loop-b-preserved-else-i-eq0
loop-b-preserved-else-i-eq0 c = missed (goal.at.loop-b-preserved-else-i-eq0 c).After-leave-after

pub ended-requires-then-k-positions : goal.ended-requires-then-k-positions
ended-requires-then-k-positions c = omega (arith, within_cap c.loop-b.invariant)

pub returns-then-k-positions : goal.returns-then-k-positions
returns-then-k-positions c =
    let T = c.requires.lent.order in
    let fits = in_text _ _ c.if-text-m.false c.loop-b-test.true in
    let occurs = none_due _ _ _ _ T c.loop-b.invariant fits c.due.ensures c.if-due.false in
    rw c.ended-then-k-positions.ensures (reports_colussi _ _ _ (scan_full _ _ _ _ T c.loop-b.invariant fits occurs c.if-k-positions.true))

pub overflow_sub-h : goal.overflow_sub-h
overflow_sub-h c =
    let T = c.requires.lent.order in
    let fits = in_text _ _ c.if-text-m.false c.loop-b-test.true in
    noholes_passed _ _ _ _ T c.loop-b.invariant fits (none_due _ _ _ _ T c.loop-b.invariant fits c.due.ensures c.if-due.false)

pub overflow_add-h-else-due : goal.overflow_add-h-else-due
overflow_add-h-else-due c = omega (arith, within_cap c.loop-b.invariant)

pub loop-b-smaller : goal.loop-b-smaller
loop-b-smaller c =
    rw c.from-b.ensures (fewer _ _ _ _ _ _ (in_text _ _ c.if-text-m.false c.loop-b-test.true)
    (shift_on _ _ _ _ c.requires.lent.order _ _ c.requires.lent.moves c.args.pattern.now.len (omega arith)))

pub loop-b-preserved : goal.loop-b-preserved
loop-b-preserved c =
    let T = c.requires.lent.order in
    let fits = in_text _ _ c.if-text-m.false c.loop-b-test.true in
    scan_listed _ _ _ _ T c.loop-b.invariant fits (none_due _ _ _ _ T c.loop-b.invariant fits c.due.ensures c.if-due.false) c.if-k-positions.false
    c.requires.lent.moves refl (ap (λ s. c.loop-b.b + s) c.from-b.ensures) c.from-i.ensures refl

pub ended-requires-2 : goal.ended-requires-2
ended-requires-2 c = omega (arith, within_cap c.loop-b.invariant)

pub returns : goal.returns
returns c =
    let past = past_text _ _ c.if-text-m.false c.loop-b-test.false in
    rw c.ended-2.ensures (reports_colussi _ _ _ (scan_done _ _ _ _ c.requires.lent.order c.loop-b.invariant past))
