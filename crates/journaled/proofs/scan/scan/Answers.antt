-- The scan goes by the rules: each turn keeps the loop's state that of the search, and each end reports it and leaves its journal.
use Rattle.std.proofs.Common.{◌≡◌, ℕ, ◌+◌, ◌-◌, ◌*◌, ◌<◌, refl, sym, arith, ◌∙◌, length, set}
use Rattle.classes.specs.Classes.{through}
use Rattle.classes.proofs.Through.{length_through}
use Rattle.journal.proofs.Counting.{count_done, count_spent, count_full}
use Rattle.rules.specs.Rules.{left}
use Rattle.rules.specs.declared.Ending.TheVariants.{Done, Spent, Full}
use Rattle.rules.proofs.Rules.{fewer}
use Rattle.search.specs.Internal.ColussiScan.{edge_after_rank}
use Rattle.search.proofs.LentTables.{in_window, in_text, past_text}
use Rattle.search.proofs.ColussiScan.{shift_on, edge_early, edge_late, noholes_passed, due_place, none_due}
use Rattle.journaled.proofs.Scanning.{Journals, bounds, journals_start, journals_end, journals_matched, journals_missed, journals_listed}
use Rattle.journaled.proofs.Tables.{places, moves, in_letters}
use Rattle.journaled.proofs.scan.scan.Goals as goal
use Rattle.journaled.proofs.scan.scan.Goals.{After-from-i}

pub returns-then-text-m : goal.returns-then-text-m
returns-then-text-m c =
    let G = c.requires.prepared in
    let L = c.requires.letters in
    let p = c.args.pattern.now in
    let none : 0 + (0 - p.noholes) ≡ 0 = omega arith in
    let text = through p.classes c.args.text.now in
    let F = journals_start c.args.letters.now p.len p.noholes text c.args.cap c.args.positions.now c.args.journal.now in
    in_letters _ G L _ _ _ _ _ _ _ (rw c.with_holes.ensures.answer (rw none at (journals_end _ _ _ _ (places _ G L) F Done
    (count_done _ _ _ _ (places _ G L) F.counts (omega (arith, length_through p.classes c.args.text.now))))))

pub loop-b-init : goal.loop-b-init
loop-b-init c = journals_start _ _ _ _ _ _ _

pub due-requires : goal.due-requires
due-requires c = omega (arith, bounds _ _ _ _ (places _ c.requires.prepared c.requires.letters) c.loop-b.invariant)

pub ended-requires : goal.ended-requires
ended-requires c = omega (arith, bounds _ _ _ _ (places _ c.requires.prepared c.requires.letters) c.loop-b.invariant)

pub returns-then-c-cap : goal.returns-then-c-cap
returns-then-c-cap c =
    let G = c.requires.prepared in
    let L = c.requires.letters in
    let fits = in_text _ _ c.if-text-m.false c.loop-b-test.true in
    let due = c.due.ensures.yes c.if-due.true in
    let F = c.loop-b.invariant in
    in_letters _ G L _ _ _ _ _ _ _ (rw c.ended.ensures (journals_end _ _ _ _ (places _ G L) F (Spent c.loop-b.b)
    (count_spent _ _ _ _ (places _ G L) F.counts fits _ due.0 refl due.1 c.if-c-cap.true)))

pub bounds-pattern-i : goal.bounds-pattern-i
bounds-pattern-i c =
    omega (arith, bounds _ _ _ _ (places _ c.requires.prepared c.requires.letters) c.loop-b.invariant, c.due.ensures.yes c.if-due.true)

pub agree-requires : goal.agree-requires
agree-requires c =
    let G = c.requires.prepared in
    let L = c.requires.letters in
    omega (arith, in_window _ _ _ _ (places _ G L) c.loop-b.i c.from-o.result (c.due.ensures.yes c.if-due.true).0 c.from-o.ensures)

pub loop-b-preserved-then-agree : goal.loop-b-preserved-then-agree
loop-b-preserved-then-agree c =
    let G = c.requires.prepared in
    let L = c.requires.letters in
    let due = due_place _ _ _ _ (places _ G L) c.due.ensures c.if-due.true c.from-o.ensures in
    let room : c.loop-b.c < length c.loop-b.journal = omega (arith, bounds _ _ _ _ (places _ G L) c.loop-b.invariant) in
    let fits = in_text _ _ c.if-text-m.false c.loop-b-test.true in
    journals_matched _ _ _ _ (places _ G L) c.loop-b.invariant fits _ due.0 c.from-o.ensures due.1 c.if-c-cap.false room
    (sym c.agree.ensures ∙ c.if-agree.true) refl

pub overflow_add-h-then-d-rank : goal.overflow_add-h-then-d-rank
overflow_add-h-then-d-rank c = omega (arith, bounds _ _ _ _ (places _ c.requires.prepared c.requires.letters) c.loop-b.invariant)

-- A window is left at a mismatch, with an edge and so many holes.
missed : (c : After-from-i) {e' h' : ℕ}
    → (let p = c.args.pattern.now in
    let loop = c.loop-b in
    e' ≡ edge_after_rank p.len p.noholes loop.b loop.i loop.e → h' ≡ loop.h + (loop.i + 1 - p.noholes)
    → Journals c.args.letters.now p.len p.noholes (through p.classes c.args.text.now) c.args.cap c.args.positions.now loop.positions
    c.args.journal.now (set loop.journal loop.c (2 * (loop.b + c.from-o.result))) (loop.b + c.from-b.result) c.from-i.result e' (loop.c + 1) h' loop.k)
missed c edge holes =
    let G = c.requires.prepared in
    let L = c.requires.letters in
    let due = due_place _ _ _ _ (places _ G L) c.due.ensures c.if-due.true c.from-o.ensures in
    let room : c.loop-b.c < length c.loop-b.journal = omega (arith, bounds _ _ _ _ (places _ G L) c.loop-b.invariant) in
    let fits = in_text _ _ c.if-text-m.false c.loop-b-test.true in
    journals_missed _ _ _ _ (places _ G L) c.loop-b.invariant fits _ due.0 c.from-o.ensures due.1 c.if-c-cap.false room
    (sym c.agree.ensures ∙ c.if-agree.false) refl (moves _ G L) (rw c.from-b.ensures refl) c.from-i.ensures edge holes

missed-less : (c : After-from-i)
    → (let m = c.args.pattern.now.len in
    let n = length c.args.text.now in
    left m n (c.loop-b.b + c.from-b.result) c.from-i.result < left m n c.loop-b.b c.loop-b.i)
missed-less c =
    let T = places _ c.requires.prepared c.requires.letters in
    let M = moves _ c.requires.prepared c.requires.letters in
    let due = c.due.ensures.yes c.if-due.true in
    rw c.from-b.ensures (fewer _ _ _ _ _ _ (omega arith) (shift_on _ _ _ _ T _ _ M c.loop-b.i (omega arith)))

pub loop-b-smaller-then-d-rank : goal.loop-b-smaller-then-d-rank
loop-b-smaller-then-d-rank c = missed-less (goal.at.loop-b-smaller-then-d-rank c).After-from-i

pub loop-b-preserved-then-d-rank : goal.loop-b-preserved-then-d-rank
loop-b-preserved-then-d-rank c = missed (goal.at.loop-b-preserved-then-d-rank c).After-from-i
    (edge_late _ _ _ _ (places _ c.requires.prepared c.requires.letters) _ _ _ c.if-d-rank.true) refl

pub loop-b-smaller-else-d-rank : goal.loop-b-smaller-else-d-rank
loop-b-smaller-else-d-rank c = missed-less (goal.at.loop-b-smaller-else-d-rank c).After-from-i

pub loop-b-preserved-else-d-rank : goal.loop-b-preserved-else-d-rank
loop-b-preserved-else-d-rank c = missed (goal.at.loop-b-preserved-else-d-rank c).After-from-i
    (edge_early _ _ _ _ (places _ c.requires.prepared c.requires.letters) _ _ _ c.if-d-rank.false) (omega arith)

pub ended-requires-then-k-positions : goal.ended-requires-then-k-positions
ended-requires-then-k-positions c = omega (arith, bounds _ _ _ _ (places _ c.requires.prepared c.requires.letters) c.loop-b.invariant)

pub returns-then-k-positions : goal.returns-then-k-positions
returns-then-k-positions c =
    let G = c.requires.prepared in
    let L = c.requires.letters in
    let fits = in_text _ _ c.if-text-m.false c.loop-b-test.true in
    let F = c.loop-b.invariant in
    let occurs = none_due _ _ _ _ (places _ G L) F.counts.by_rank fits c.due.ensures c.if-due.false in
    in_letters _ G L _ _ _ _ _ _ _ (rw c.ended-then-k-positions.ensures (journals_end _ _ _ _ (places _ G L) F (Full c.loop-b.b)
    (count_full _ _ _ _ (places _ G L) F.counts fits occurs c.if-k-positions.true)))

pub overflow_sub-h-else-due : goal.overflow_sub-h-else-due
overflow_sub-h-else-due c =
    let G = c.requires.prepared in
    let L = c.requires.letters in
    let fits = in_text _ _ c.if-text-m.false c.loop-b-test.true in
    let F = c.loop-b.invariant in
    let occurs = none_due _ _ _ _ (places _ G L) F.counts.by_rank fits c.due.ensures c.if-due.false in
    noholes_passed _ _ _ _ (places _ G L) F.counts.by_rank fits occurs

pub overflow_add-h-else-due : goal.overflow_add-h-else-due
overflow_add-h-else-due c = omega (arith, bounds _ _ _ _ (places _ c.requires.prepared c.requires.letters) c.loop-b.invariant)

pub bounds-pattern-m : goal.bounds-pattern-m
bounds-pattern-m c = omega (arith, bounds _ _ _ _ (places _ c.requires.prepared c.requires.letters) c.loop-b.invariant)

pub bounds-pattern-m-else-due : goal.bounds-pattern-m-else-due
bounds-pattern-m-else-due c = omega (arith, bounds _ _ _ _ (places _ c.requires.prepared c.requires.letters) c.loop-b.invariant)

pub loop-b-smaller : goal.loop-b-smaller
loop-b-smaller c =
    let G = c.requires.prepared in
    let L = c.requires.letters in
    rw c.from-b-else-due.ensures
    (fewer _ _ _ _ _ _ (omega arith) (shift_on _ _ _ _ (places _ G L) _ _ (moves _ G L) c.args.pattern.now.len (omega arith)))

pub loop-b-preserved : goal.loop-b-preserved
loop-b-preserved c =
    let G = c.requires.prepared in
    let L = c.requires.letters in
    let fits = in_text _ _ c.if-text-m.false c.loop-b-test.true in
    let F = c.loop-b.invariant in
    let occurs = none_due _ _ _ _ (places _ G L) F.counts.by_rank fits c.due.ensures c.if-due.false in
    journals_listed _ _ _ _ (places _ G L) F fits occurs c.if-k-positions.false
    (moves _ G L) refl (rw c.from-b-else-due.ensures refl) c.from-i-else-due.ensures

pub ended-requires-2 : goal.ended-requires-2
ended-requires-2 c = omega (arith, bounds _ _ _ _ (places _ c.requires.prepared c.requires.letters) c.loop-b.invariant)

pub returns : goal.returns
returns c =
    let G = c.requires.prepared in
    let L = c.requires.letters in
    let F = c.loop-b.invariant in
    in_letters _ G L _ _ _ _ _ _ _ (rw c.ended-2.ensures (journals_end _ _ _ _ (places _ G L) F Done
    (count_done _ _ _ _ (places _ G L) F.counts (past_text _ _ c.if-text-m.false c.loop-b-test.false))))
