-- A turn of the loop is a turn of the scan by place (proofs/KmpScan).
use Rattle.std.proofs.Common.{◌+◌, ◌-◌, ◌<◌, length, set, refl, arith}
use Rattle.classes.specs.Classes.{through}
use Rattle.classes.proofs.Through.{length_through}
use Rattle.rules.specs.Rules.{left}
use Rattle.rules.proofs.Rules.{fewer, no_more}
use Rattle.rules.proofs.Scans.{column_upto}
use Rattle.search.proofs.LentTables.{in_text, past_text}
use Rattle.search.proofs.KmpScan.{ScansByPlace, by_place_start, shift_on, belows_grow, within_cap, done_at_once, scan_done, scan_ahead, scan_spent, scan_matched, scan_missed, scan_full, scan_listed}
use Rattle.search.proofs.kmp_scan.scan.Goals as goal
use Rattle.search.proofs.kmp_scan.scan.Goals.{After-new_noholes-q, Else-k-positions}

-- The window is left at a mismatch.
missed : (c : After-new_noholes-q)
    → ScansByPlace c.args.letters.now c.args.pattern.now.len (through c.args.pattern.now.classes c.args.text.now) c.args.cap c.args.positions.now
    c.loop-b.positions (c.loop-b.b + c.from-s.result) c.saturating_sub-kept.result (c.loop-b.left - 1) (c.loop-b.q + c.new_noholes-q.result)
    c.loop-b.k
missed c =
    let fits = in_text _ _ c.if-text-m.false c.loop-b-test.true in
    scan_missed _ _ _ _ (omega arith) c.requires.tables c.loop-b.invariant fits c.if-i-m.true c.if-left-eq0.false
    (c.agrees.ensures.no c.if-agrees.false) _ c.from-s.ensures c.saturating_sub-kept.ensures c.new_noholes-q.ensures

missed-less : (c : After-new_noholes-q)
    → (let m = c.args.pattern.now.len in
    let n = length (through c.args.pattern.now.classes c.args.text.now) in
    left m n (c.loop-b.b + c.from-s.result) c.saturating_sub-kept.result < left m n c.loop-b.b c.loop-b.i)
missed-less c =
    fewer _ _ _ _ _ _ (in_text _ _ c.if-text-m.false c.loop-b-test.true)
    (shift_on _ _ _ _ (omega arith) c.requires.tables c.loop-b.i _ (omega arith) c.from-s.ensures)

-- The window is stored and left.
listed : (c : Else-k-positions)
    → ScansByPlace c.args.letters.now c.args.pattern.now.len (through c.args.pattern.now.classes c.args.text.now) c.args.cap c.args.positions.now
    (set c.loop-b.positions c.loop-b.k c.loop-b.b) (c.loop-b.b + c.from-step.result) c.saturating_sub-again.result c.loop-b.left
    (c.loop-b.q + c.new_noholes-gained.result) (c.loop-b.k + 1)
listed c =
    let fits = in_text _ _ c.if-text-m.false c.loop-b-test.true in
    scan_listed _ _ _ _ (omega arith) c.requires.tables c.loop-b.invariant fits c.if-i-m.false c.if-k-positions.false
    refl _ c.from-step.ensures c.saturating_sub-again.ensures c.new_noholes-gained.ensures

pub returns-then-text-m : goal.returns-then-text-m
returns-then-text-m c =
    rw c.with_noholes.ensures.answer (done_at_once _ _ _ _ (omega arith) c.requires.tables (through c.args.pattern.now.classes c.args.text.now) _
    c.args.positions.now (omega (arith, length_through c.args.pattern.now.classes c.args.text.now)))

pub new_noholes-gained-requires : goal.new_noholes-gained-requires
new_noholes-gained-requires c =
    omega (
      arith,
      c.saturating_sub-again.ensures,
      belows_grow _ _ _ _ (omega arith) c.requires.tables c.saturating_sub-again.result c.args.pattern.now.len (omega arith) (omega arith),
    )

pub loop-b-init : goal.loop-b-init
loop-b-init c = by_place_start _ _ _ _ _

pub ended-requires : goal.ended-requires
ended-requires c = omega (arith, within_cap _ _ _ _ (omega arith) c.requires.tables c.loop-b.invariant)

pub returns-then-left-eq0 : goal.returns-then-left-eq0
returns-then-left-eq0 c =
    let fits = in_text _ _ c.if-text-m.false c.loop-b-test.true in
    rw c.ended.ensures (scan_spent _ _ _ _ (omega arith) c.requires.tables c.loop-b.invariant fits c.if-i-m.true
    c.if-left-eq0.true)

pub loop-b-preserved-then-agrees : goal.loop-b-preserved-then-agrees
loop-b-preserved-then-agrees c =
    let fits = in_text _ _ c.if-text-m.false c.loop-b-test.true in
    scan_matched _ _ _ _ (omega arith) c.requires.tables c.loop-b.invariant fits c.if-i-m.true c.if-left-eq0.false
    (c.agrees.ensures.yes c.if-agrees.true)

pub new_noholes-q-requires : goal.new_noholes-q-requires
new_noholes-q-requires c =
    omega (arith, belows_grow _ _ _ _ (omega arith) c.requires.tables c.saturating_sub-kept.result (c.loop-b.i + 1) (omega arith) (omega arith))

pub overflow_add-q : goal.overflow_add-q
overflow_add-q c = omega (arith, column_upto (missed (goal.at.overflow_add-q c).After-new_noholes-q).scans)

pub loop-b-smaller-then-b-last : goal.loop-b-smaller-then-b-last
loop-b-smaller-then-b-last c =
    let n = length (through c.args.pattern.now.classes c.args.text.now) in
    let spot = c.ahead-spot.result in
    let stays = no_more c.args.pattern.now.len n (c.loop-b.b + c.from-s.result) c.saturating_sub-kept.result spot.window spot.rank
    c.if-i-eq0.true c.ahead-spot.ensures.from in
    omega (arith, missed-less (goal.at.loop-b-smaller-then-b-last c).After-new_noholes-q, stays)

pub loop-b-preserved-then-b-last : goal.loop-b-preserved-then-b-last
loop-b-preserved-then-b-last c =
    scan_ahead _ _ _ _ (omega arith) c.requires.tables (missed (goal.at.loop-b-preserved-then-b-last c).After-new_noholes-q) c.ahead-spot.ensures
    (omega (arith, length_through c.args.pattern.now.classes c.args.text.now)) c.if-i-eq0.true refl

pub loop-b-smaller-else-i-eq0 : goal.loop-b-smaller-else-i-eq0
loop-b-smaller-else-i-eq0 c = missed-less (goal.at.loop-b-smaller-else-i-eq0 c).After-new_noholes-q

pub loop-b-preserved-else-i-eq0 : goal.loop-b-preserved-else-i-eq0
loop-b-preserved-else-i-eq0 c = missed (goal.at.loop-b-preserved-else-i-eq0 c).After-new_noholes-q

pub ended-requires-then-k-positions : goal.ended-requires-then-k-positions
ended-requires-then-k-positions c = omega (arith, within_cap _ _ _ _ (omega arith) c.requires.tables c.loop-b.invariant)

pub returns-then-k-positions : goal.returns-then-k-positions
returns-then-k-positions c =
    let fits = in_text _ _ c.if-text-m.false c.loop-b-test.true in
    rw c.ended-then-k-positions.ensures (scan_full _ _ _ _ (omega arith) c.requires.tables c.loop-b.invariant
    fits c.if-i-m.false c.if-k-positions.true)

pub overflow_add-q-else-i-m : goal.overflow_add-q-else-i-m
overflow_add-q-else-i-m c = omega (arith, column_upto (listed c).scans)

pub loop-b-smaller : goal.loop-b-smaller
loop-b-smaller c =
    fewer _ _ _ _ _ _ (in_text _ _ c.if-text-m.false c.loop-b-test.true)
    (shift_on _ _ _ _ (omega arith) c.requires.tables c.args.pattern.now.len _ (omega arith) c.from-step.ensures)

pub loop-b-preserved : goal.loop-b-preserved
loop-b-preserved c = listed c

pub ended-requires-2 : goal.ended-requires-2
ended-requires-2 c = omega (arith, within_cap _ _ _ _ (omega arith) c.requires.tables c.loop-b.invariant)

pub returns : goal.returns
returns c =
    rw c.ended-2.ensures (scan_done _ _ _ _ (omega arith) c.requires.tables c.loop-b.invariant (past_text _ _ c.if-text-m.false c.loop-b-test.false))
