-- A turn of the loop is a window: the laws of Scanning say what each does.
use Rattle.std.proofs.Common.{refl, arith, length}
use borrow.Author.Tests.{false-eqb}
use Rattle.rules.proofs.Scans.{column_upto}
use Rattle.ordered.proofs.Scanning.{length_letters, in_order_start, shift_on, scan_done, scan_missed, scan_spent, scan_left, left_few, reached_few, scan_cut, scan_full, scan_listed, done_at_once}
use Rattle.ordered.proofs.scan.scan.Goals as goal

pub returns-then-text-m : goal.returns-then-text-m
returns-then-text-m c =
    rw c.with_noholes.ensures.answer
    (done_at_once c.requires.lent_tables _ _ _ (omega (arith, length_letters c.args.text)))

pub loop-b-init : goal.loop-b-init
loop-b-init c = in_order_start _ _ _ _ _

pub returns-then-left-eq0 : goal.returns-then-left-eq0
returns-then-left-eq0 c =
    rw c.with_noholes-then-left-eq0.ensures.answer
    (scan_spent c.requires.lent_tables c.loop-b.invariant (omega (arith, length_letters c.args.text)) c.if-left-eq0.true)

-- ---- Rank 0 misses.

pub loop-b-preserved-then-not-agrees : goal.loop-b-preserved-then-not-agrees
loop-b-preserved-then-not-agrees c =
    scan_missed c.requires.lent_tables c.loop-b.invariant (omega (arith, length_letters c.args.text)) 0 c.requires.lent_tables.some (omega arith)
    (λ j l. absurd (omega arith)) (false-eqb _ _ c.if-not-agrees.ensures) refl refl

pub overflow_add-q : goal.overflow_add-q
overflow_add-q c = omega (arith, column_upto (loop-b-preserved-then-not-agrees c).scans)

pub loop-b-smaller-then-not-agrees : goal.loop-b-smaller-then-not-agrees
loop-b-smaller-then-not-agrees c = omega (arith, shift_on c.requires.lent_tables c.loop-b.invariant 0 _ (omega arith) refl)

-- ---- A later rank misses.

pub overflow_add-q-in-Some-2 : goal.overflow_add-q-in-Some-2
overflow_add-q-in-Some-2 c =
    omega (
      arith,
      left_few c.requires.lent_tables c.loop-b.invariant (omega (arith, length_letters c.args.text)) c.if-not-agrees.ensures
          c.min-end.ensures c.in-Some.ensures refl,
    )

pub loop-b-smaller-in-Some : goal.loop-b-smaller-in-Some
loop-b-smaller-in-Some c =
    omega (arith, shift_on c.requires.lent_tables c.loop-b.invariant c.in-Some.r _ (omega (arith, c.min-end.ensures, c.in-Some.ensures.upto)) refl)

pub loop-b-preserved-in-Some : goal.loop-b-preserved-in-Some
loop-b-preserved-in-Some c =
    scan_left c.requires.lent_tables c.loop-b.invariant (omega (arith, length_letters c.args.text)) c.if-not-agrees.ensures
    c.min-end.ensures c.in-Some.ensures refl refl

-- ---- All that were compared agree.

pub overflow_add-q-in-loop-b : goal.overflow_add-q-in-loop-b
overflow_add-q-in-loop-b c =
    omega (
      arith,
      reached_few c.requires.lent_tables c.loop-b.invariant (omega (arith, length_letters c.args.text)) c.if-not-agrees.ensures
          c.min-end.ensures c.in_default.ensures refl,
    )

pub returns-then-end-m : goal.returns-then-end-m
returns-then-end-m c =
    rw c.with_noholes-then-end-m.ensures.answer
    (scan_cut c.requires.lent_tables c.loop-b.invariant (omega (arith, length_letters c.args.text)) c.if-not-agrees.ensures
    c.min-end.ensures c.in_default.ensures refl c.if-end-m.true)

pub returns-then-k-positions : goal.returns-then-k-positions
returns-then-k-positions c =
    rw c.with_noholes-then-k-positions.ensures.answer
    (scan_full c.requires.lent_tables c.loop-b.invariant (omega (arith, length_letters c.args.text)) c.if-not-agrees.ensures
    c.min-end.ensures c.in_default.ensures refl c.if-end-m.false c.if-k-positions.true)

pub loop-b-smaller : goal.loop-b-smaller
loop-b-smaller c = omega (arith, shift_on c.requires.lent_tables c.loop-b.invariant (length c.args.letters.now) _ (omega arith) refl)

pub loop-b-preserved : goal.loop-b-preserved
loop-b-preserved c =
    scan_listed c.requires.lent_tables c.loop-b.invariant (omega (arith, length_letters c.args.text)) c.if-not-agrees.ensures
    c.min-end.ensures c.in_default.ensures refl c.if-end-m.false c.if-k-positions.false refl refl

-- ---- No window is left.

pub returns : goal.returns
returns c =
    rw c.with_noholes-2.ensures.answer (scan_done c.requires.lent_tables c.loop-b.invariant (omega (arith, length_letters c.args.text)))
