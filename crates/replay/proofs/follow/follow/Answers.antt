-- The pass goes by the rules, whatever pattern the tables are: each turn keeps the loop's state that of the replay, and each end tells what the replay
-- does.
use Rattle.std.proofs.Common.{◌≡◌, ℕ, ◌+◌, ◌-◌, ◌<◌, ◌≤◌, List, refl, sym, arith, ◌∙◌, length, set}
use lib.Seq.{set_out}
use Rattle.journal.proofs.Counting.{count_done, count_spent, count_full}
use Rattle.rules.specs.Rules.{left}
use Rattle.rules.specs.declared.Ending.TheVariants.{Done, Spent, Full}
use Rattle.rules.proofs.Rules.{fewer}
use Rattle.search.specs.Internal.ColussiScan.{LentOrder, LentMoves, edge_after_rank}
use Rattle.search.proofs.ColussiScan.{shift_on, edge_early, edge_late, noholes_passed, due_place, none_due}
use Rattle.replay.proofs.Scanning.{Replays, replays_start, at_once, bounds, whole_read, replays_end, another_place}
use Rattle.replay.proofs.Scanning.{replays_matched, replays_missed, replays_listed, full_at}
use Rattle.replay.proofs.follow.follow.Goals as goal
use Rattle.replay.proofs.follow.follow.Goals.{After-from-i, then-k-positions, else-k-positions}

pub returns-then-n-m : goal.returns-then-n-m
returns-then-n-m c letters T M =
    at_once _ _ _ _ T _ c.args.size c.args.journal.now c.args.positions.now c.if-n-m.true _
    (rw c.with_holes.ensures.answer at c.if_all_read.ensures)

pub loop-b-init : goal.loop-b-init
loop-b-init c letters T M = replays_start _ _ _ _ _ _ _

pub due-requires : goal.due-requires
due-requires c = let L = c.requires.lent in omega (arith, bounds _ _ _ _ L.places (c.loop-b.invariant _ L.places L.moves))

pub ended-requires : goal.ended-requires
ended-requires c = let L = c.requires.lent in omega (arith, bounds _ _ _ _ L.places (c.loop-b.invariant _ L.places L.moves))

pub returns-then-c-journal : goal.returns-then-c-journal
returns-then-c-journal c letters T M =
    let F = c.loop-b.invariant letters T M in
    let due = c.due.ensures.yes c.if-due.true in
    rw c.ended.ensures (whole_read _ _ _ _ T F (Spent c.loop-b.b)
    (count_spent _ _ _ _ T F.counts (omega arith) _ due.0 refl due.1 c.if-c-journal.true) c.if-c-journal.true)

pub bounds-pattern-i : goal.bounds-pattern-i
bounds-pattern-i c =
    let L = c.requires.lent in
    omega (arith, bounds _ _ _ _ L.places (c.loop-b.invariant _ L.places L.moves), c.due.ensures.yes c.if-due.true)

pub returns-then-v-b : goal.returns-then-v-b
returns-then-v-b c letters T M =
    let F = c.loop-b.invariant letters T M in
    let due = due_place _ _ _ _ T c.due.ensures c.if-due.true c.from.ensures in
    let room : c.loop-b.c < length c.args.journal.now = omega (arith, bounds _ _ _ _ T F) in
    another_place _ _ _ _ T F (omega arith) _ due.0 c.from.ensures due.1 room c.if-v-b.true

pub loop-b-preserved-then-equal : goal.loop-b-preserved-then-equal
loop-b-preserved-then-equal c letters T M =
    let F = c.loop-b.invariant letters T M in
    let due = due_place _ _ _ _ T c.due.ensures c.if-due.true c.from.ensures in
    let room : c.loop-b.c < length c.args.journal.now = omega (arith, bounds _ _ _ _ T F) in
    replays_matched _ _ _ _ T F (omega arith) _ due.0 c.from.ensures due.1 room c.if-v-b.false c.if-equal.true

pub overflow_add-h-then-d-rank : goal.overflow_add-h-then-d-rank
overflow_add-h-then-d-rank c = let L = c.requires.lent in omega (arith, bounds _ _ _ _ L.places (c.loop-b.invariant _ L.places L.moves))

pub bounds-pattern-rank : goal.bounds-pattern-rank
bounds-pattern-rank c = let L = c.requires.lent in omega (arith, bounds _ _ _ _ L.places (c.loop-b.invariant _ L.places L.moves))

pub bounds-pattern-rank-else-equal : goal.bounds-pattern-rank-else-equal
bounds-pattern-rank-else-equal c = let L = c.requires.lent in omega (arith, bounds _ _ _ _ L.places (c.loop-b.invariant _ L.places L.moves))

-- A window is left at a mismatch, with an edge and so many holes.
missed : (c : After-from-i) (letters : List ℕ) → LentOrder letters c.args.pattern.now.order c.args.pattern.now.len c.args.pattern.now.noholes
    → LentMoves letters c.args.pattern.now.shift c.args.pattern.now.next c.args.pattern.now.len → {e' h' : ℕ}
    → (let p = c.args.pattern.now in
    let loop = c.loop-b in
    e' ≡ edge_after_rank p.len p.noholes loop.b loop.i loop.e → h' ≡ loop.h + (loop.i + 1 - p.noholes)
    → Replays letters p.len p.noholes c.args.n c.args.size c.args.journal.now c.args.positions.now loop.positions
    (loop.b + c.from-b.result) c.from-i.result e' (loop.c + 1) h' loop.k)
missed c letters T M edge holes =
    let F = c.loop-b.invariant letters T M in
    let due = due_place _ _ _ _ T c.due.ensures c.if-due.true c.from.ensures in
    let room : c.loop-b.c < length c.args.journal.now = omega (arith, bounds _ _ _ _ T F) in
    replays_missed _ _ _ _ T F (omega arith) _ due.0 c.from.ensures due.1 room c.if-v-b.false
    c.if-equal.false M (rw c.from-b.ensures refl) c.from-i.ensures edge holes

missed-less : (c : After-from-i)
    → (let m = c.args.pattern.now.len in
    left m c.args.n (c.loop-b.b + c.from-b.result) c.from-i.result < left m c.args.n c.loop-b.b c.loop-b.i)
missed-less c =
    let L = c.requires.lent in
    let due = c.due.ensures.yes c.if-due.true in
    rw c.from-b.ensures (fewer _ _ _ _ _ _ (omega arith) (shift_on _ _ _ _ L.places _ _ L.moves c.loop-b.i (omega arith)))

pub loop-b-smaller-then-d-rank : goal.loop-b-smaller-then-d-rank
loop-b-smaller-then-d-rank c = missed-less (goal.at.loop-b-smaller-then-d-rank c).After-from-i

pub loop-b-preserved-then-d-rank : goal.loop-b-preserved-then-d-rank
loop-b-preserved-then-d-rank c letters T M =
    missed (goal.at.loop-b-preserved-then-d-rank c).After-from-i letters T M (edge_late _ _ _ _ T _ _ _ c.if-d-rank.true) refl

pub loop-b-smaller-else-d-rank : goal.loop-b-smaller-else-d-rank
loop-b-smaller-else-d-rank c = missed-less (goal.at.loop-b-smaller-else-d-rank c).After-from-i

pub loop-b-preserved-else-d-rank : goal.loop-b-preserved-else-d-rank
loop-b-preserved-else-d-rank c letters T M =
    missed (goal.at.loop-b-preserved-else-d-rank c).After-from-i letters T M (edge_early _ _ _ _ T _ _ _ c.if-d-rank.false) (omega arith)

pub ended-requires-then-k-size : goal.ended-requires-then-k-size
ended-requires-then-k-size c = let L = c.requires.lent in omega (arith, bounds _ _ _ _ L.places (c.loop-b.invariant _ L.places L.moves))

pub returns-then-k-size : goal.returns-then-k-size
returns-then-k-size c letters T M =
    let F = c.loop-b.invariant letters T M in
    let fits : c.loop-b.b + c.args.pattern.now.len ≤ c.args.n = omega arith in
    let occurs = none_due _ _ _ _ T F.counts.by_rank fits c.due.ensures c.if-due.false in
    replays_end _ _ _ _ T F (Full c.loop-b.b) (count_full _ _ _ _ T F.counts fits occurs (full_at _ _ _ _ T F c.if-k-size.true))
    _ (rw c.ended-then-k-size.ensures at c.if_all_read-then-k-size.ensures)

pub overflow_sub-h-else-due : goal.overflow_sub-h-else-due
overflow_sub-h-else-due c =
    let L = c.requires.lent in
    let F = c.loop-b.invariant _ L.places L.moves in
    let fits : c.loop-b.b + c.args.pattern.now.len ≤ c.args.n = omega arith in
    let occurs = none_due _ _ _ _ L.places F.counts.by_rank fits c.due.ensures c.if-due.false in
    noholes_passed _ _ _ _ L.places F.counts.by_rank fits occurs

pub overflow_add-h-else-due : goal.overflow_add-h-else-due
overflow_add-h-else-due c = let L = c.requires.lent in omega (arith, bounds _ _ _ _ L.places (c.loop-b.invariant _ L.places L.moves))

pub bounds-pattern-m : goal.bounds-pattern-m
bounds-pattern-m c = let L = c.requires.lent in omega (arith, bounds _ _ _ _ L.places (c.loop-b.invariant _ L.places L.moves))

pub bounds-pattern-m-else-due : goal.bounds-pattern-m-else-due
bounds-pattern-m-else-due c = let L = c.requires.lent in omega (arith, bounds _ _ _ _ L.places (c.loop-b.invariant _ L.places L.moves))

pub loop-b-smaller : goal.loop-b-smaller
loop-b-smaller c =
    let L = c.requires.lent in
    rw c.from-b-else-due.ensures
    (fewer _ _ _ _ _ _ (omega arith) (shift_on _ _ _ _ L.places _ _ L.moves c.args.pattern.now.len (omega arith)))

pub loop-b-preserved : goal.loop-b-preserved
loop-b-preserved c letters T M =
    let F = c.loop-b.invariant letters T M in
    let fits : c.loop-b.b + c.args.pattern.now.len ≤ c.args.n = omega arith in
    let occurs = none_due _ _ _ _ T F.counts.by_rank fits c.due.ensures c.if-due.false in
    let list : c.if-k-positions.positions ≡ set c.loop-b.positions c.loop-b.k c.loop-b.b = elim c.if-k-positions.branch [
      | then-k-positions w ↦ w.positions-is
      | else-k-positions w ↦ w.positions-is ∙ sym (set_out _ _ _ w.if-k-positions.false)
    ] in
    rw list (replays_listed _ _ _ _ T F fits occurs c.if-k-size.false M refl (rw c.from-b-else-due.ensures refl) c.from-i-else-due.ensures)

pub ended-requires-2 : goal.ended-requires-2
ended-requires-2 c = let L = c.requires.lent in omega (arith, bounds _ _ _ _ L.places (c.loop-b.invariant _ L.places L.moves))

pub returns : goal.returns
returns c letters T M =
    let F = c.loop-b.invariant letters T M in
    replays_end _ _ _ _ T F Done (count_done _ _ _ _ T F.counts (omega arith)) _ (rw c.ended-2.ensures at c.if_all_read-2.ensures)
