-- Each window is begun, compared and left by the laws of Scanning. Where it ends before the text does, the ends are those of the pattern.
use Rattle.std.proofs.Common.{◌+◌, sym, arith}
use Rattle.lengths.proofs.Loops.{length_letters, left_at_once}
use Rattle.lengths.proofs.Scanning.{from_k, ends_before, first_entry, next_entry, scans_start, scans_begun, scans_left}
use Rattle.lengths.proofs.scan.Prefixes.inside.Goals as goal

pub loop-b-init : goal.loop-b-init
loop-b-init c = record { scans = scans_start _ _ _ c.args.self.now.tables.some; few = omega arith; short = λ l. omega arith }

pub returns-then-last-window-clause-scans : goal.returns-then-last-window-clause-scans
returns-then-last-window-clause-scans c = scans_begun _ _ _ c.args.self.now.tables.some c.loop-b.invariant.scans c.begin-window.ensures

-- ---- Left by 1, at a glance

pub overflow_sub-i : goal.overflow_sub-i
overflow_sub-i c = omega (arith, next_entry c.args.self.now.tables)

pub loop-b-preserved-then-r-first : goal.loop-b-preserved-then-r-first
loop-b-preserved-then-r-first c =
    let T = c.args.self.now.tables in
    let here = ends_before c.windows_inside-last.ensures c.begin-window.result.window (omega arith) in
    let S = scans_begun _ _ _ T.some c.loop-b.invariant.scans c.begin-window.ensures in
    record {
      scans = scans_left _ _ _ T.some T S (omega (arith, length_letters c.args.text)) c.extend-r.ensures (omega (arith, length_letters c.args.text))
          (left_at_once _ _ _ _ (c.extend-r.result + 1) (omega arith) (omega (arith, S.right.size)) (omega (arith, first_entry T))
          (sym c.if-r-first.true))
          c.stays-again.ensures;
      few = omega (arith, c.stays-again.ensures.0);
      short = λ l. omega (arith, next_entry T);
    }

-- ---- Left by more

pub leave-s-requires-clause-i_bound : goal.leave-s-requires-clause-i_bound
leave-s-requires-clause-i_bound c = omega (arith, first_entry c.args.self.now.tables)

pub leave-s-requires-clause-by_index : goal.leave-s-requires-clause-by_index
leave-s-requires-clause-by_index c k l = from_k c.args.self.now.tables _ c.extend-r.ensures.upto k (omega arith)

pub loop-b-preserved : goal.loop-b-preserved
loop-b-preserved c =
    let T = c.args.self.now.tables in
    let here = ends_before c.windows_inside-last.ensures c.begin-window.result.window (omega arith) in
    let S = scans_begun _ _ _ T.some c.loop-b.invariant.scans c.begin-window.ensures in
    rw c.saturating_sub-i.ensures record {
      scans = scans_left _ _ _ T.some T S (omega (arith, length_letters c.args.text)) c.extend-r.ensures (omega (arith, length_letters c.args.text))
          c.leave-s.ensures c.stays-again-in-loop-b.ensures;
      few = omega (arith, c.stays-again-in-loop-b.ensures.0);
      short = λ l. omega arith;
    }

pub returns-clause-again_le_longest_text : goal.returns-clause-again_le_longest_text
returns-clause-again_le_longest_text c = omega (arith, c.loop-b.invariant.scans.stands.inside, length_letters c.args.text)
