-- A turn of the loop is a turn of the scan by rank, without a list (proofs/FirstScan).
use Rattle.std.proofs.Common.{◌-◌, ◌<◌, length, refl, arith}
use Rattle.classes.specs.Classes.{through}
use Rattle.classes.proofs.Through.{length_through}
use Rattle.rules.specs.Rules.{left}
use Rattle.rules.proofs.Rules.{fewer, no_more}
use Rattle.search.proofs.LentTables.{in_window, in_text, past_text}
use Rattle.search.proofs.ColussiScan.{due_place, none_due, shift_on}
use Rattle.search.proofs.FirstScan.{ScansUpTo, upto_start, stops_at_once, stops_done, stops_full, unspent, upto_ahead, upto_matched, upto_missed}
use Rattle.search.proofs.first_scan.scan.Goals as goal
use Rattle.search.proofs.first_scan.scan.Goals.{After-leave-after}

-- The window is left at a mismatch.
missed : (c : After-leave-after)
    → (let pattern = c.args.pattern.now in
    let after = c.leave-after.result in
    ScansUpTo c.args.letters.now pattern.len pattern.noholes (through pattern.classes c.args.text.now) after.window after.rank after.edge
    (c.loop-b.left - 1))
missed c =
    let T = c.requires.lent.order in
    let D = due_place _ _ _ _ T c.due.ensures c.if-due.true c.from-o.ensures in
    let L = c.leave-after.ensures in
    upto_missed _ _ _ _ T _ (omega (arith, length_through c.args.pattern.now.classes c.args.text.now)) c.loop-b.invariant
    (in_text _ _ c.if-text-m.false c.loop-b-test.true) _ D.0 c.from-o.ensures D.1 (c.agrees.ensures.no c.if-agrees.false) c.requires.lent.moves
    L.window L.rank L.edge L.holes

missed-less : (c : After-leave-after)
    → (let m = c.args.pattern.now.len in
    let n = length (through c.args.pattern.now.classes c.args.text.now) in
    left m n c.leave-after.result.window c.leave-after.result.rank < left m n c.loop-b.b c.loop-b.i)
missed-less c =
    rw c.leave-after.ensures.window (fewer _ _ _ _ _ _ (in_text _ _ c.if-text-m.false c.loop-b-test.true)
    (shift_on _ _ _ _ c.requires.lent.order _ _ c.requires.lent.moves c.loop-b.i (omega (arith, (c.due.ensures.yes c.if-due.true).0))))

pub returns-then-text-m : goal.returns-then-text-m
returns-then-text-m c =
    let n = length_through c.args.pattern.now.classes c.args.text.now in
    stops_at_once _ _ _ _ c.requires.lent.order (through c.args.pattern.now.classes c.args.text.now) (omega (arith, n)) (omega (arith, n))

pub loop-b-init : goal.loop-b-init
loop-b-init c = upto_start _ _ _ _

pub overflow_sub-left : goal.overflow_sub-left
overflow_sub-left c =
    let T = c.requires.lent.order in
    let D = due_place _ _ _ _ T c.due.ensures c.if-due.true c.from-o.ensures in
    omega (
      arith,
      unspent _ _ _ _ T _ (omega (arith, length_through c.args.pattern.now.classes c.args.text.now)) c.loop-b.invariant
          (in_text _ _ c.if-text-m.false c.loop-b-test.true) _ D.0 c.from-o.ensures D.1,
    )

pub agrees-requires : goal.agrees-requires
agrees-requires c = omega (arith, due_place _ _ _ _ c.requires.lent.order c.due.ensures c.if-due.true c.from-o.ensures)

pub loop-b-preserved-then-agrees : goal.loop-b-preserved-then-agrees
loop-b-preserved-then-agrees c =
    let T = c.requires.lent.order in
    let D = due_place _ _ _ _ T c.due.ensures c.if-due.true c.from-o.ensures in
    upto_matched _ _ _ _ T _ (omega (arith, length_through c.args.pattern.now.classes c.args.text.now)) c.loop-b.invariant
    (in_text _ _ c.if-text-m.false c.loop-b-test.true) _ D.0 c.from-o.ensures D.1 (c.agrees.ensures.yes c.if-agrees.true)

pub ahead-spot-requires : goal.ahead-spot-requires
ahead-spot-requires c =
    omega (arith, in_window _ _ _ _ c.requires.lent.order 0 c.from-first.result c.requires.lent.order.some c.from-first.ensures)

pub loop-b-smaller-then-b-last : goal.loop-b-smaller-then-b-last
loop-b-smaller-then-b-last c =
    let n = length (through c.args.pattern.now.classes c.args.text.now) in
    let spot = c.ahead-spot.result in
    let stays = no_more c.args.pattern.now.len n c.leave-after.result.window c.leave-after.result.rank spot.window spot.rank
    c.if-i-eq0.true c.ahead-spot.ensures.from in
    omega (arith, missed-less (goal.at.loop-b-smaller-then-b-last c).After-leave-after, stays)

pub loop-b-preserved-then-b-last : goal.loop-b-preserved-then-b-last
loop-b-preserved-then-b-last c =
    let n = length_through c.args.pattern.now.classes c.args.text.now in
    let at = missed (goal.at.loop-b-preserved-then-b-last c).After-leave-after in
    upto_ahead _ _ _ _ c.requires.lent.order _ (omega (arith, n)) at c.ahead-spot.ensures (omega (arith, n)) c.if-i-eq0.true c.if-d-gt0.true
    c.from-first.ensures refl

pub loop-b-smaller : goal.loop-b-smaller
loop-b-smaller c = missed-less (goal.at.loop-b-smaller c).After-leave-after

pub loop-b-preserved : goal.loop-b-preserved
loop-b-preserved c = missed (goal.at.loop-b-preserved c).After-leave-after

pub returns-else-due : goal.returns-else-due
returns-else-due c =
    let T = c.requires.lent.order in
    let fits = in_text _ _ c.if-text-m.false c.loop-b-test.true in
    stops_full _ _ _ _ T _ (omega (arith, length_through c.args.pattern.now.classes c.args.text.now)) c.loop-b.invariant fits
    (none_due _ _ _ _ T c.loop-b.invariant.by_rank fits c.due.ensures c.if-due.false)

pub returns : goal.returns
returns c =
    stops_done _ _ _ _ c.requires.lent.order _ (omega (arith, length_through c.args.pattern.now.classes c.args.text.now)) c.loop-b.invariant
    (past_text _ _ c.if-text-m.false c.loop-b-test.false)
