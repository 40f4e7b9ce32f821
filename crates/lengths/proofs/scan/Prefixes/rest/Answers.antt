-- Each window is begun, compared and left by the laws of Scanning, up to the text's end.
use Rattle.std.proofs.Common.{◌≡◌, ◌+◌, arith}
use Rattle.lengths.proofs.Loops.{length_letters}
use Rattle.lengths.proofs.Scanning.{from_k, first_entry, scans_over, scans_begun, scans_left}
use Rattle.lengths.proofs.scan.Prefixes.rest.Goals as goal

pub returns-then-n-window-clause-carries : goal.returns-then-n-window-clause-carries
returns-then-n-window-clause-carries c before again S =
    let some = c.args.self.now.tables.some in
    scans_over _ _ before some (scans_begun _ _ before some (c.loop-b.invariant.scans before again S) c.begin-window.ensures)
    (omega (arith, length_letters c.args.text)) (omega (arith, length_letters c.args.text, S.right.size))

pub leave-s-requires-clause-i_bound : goal.leave-s-requires-clause-i_bound
leave-s-requires-clause-i_bound c = omega (arith, first_entry c.args.self.now.tables, c.min-end.ensures)

pub leave-s-requires-clause-by_index : goal.leave-s-requires-clause-by_index
leave-s-requires-clause-by_index c k l =
    from_k c.args.self.now.tables _ (omega (arith, c.min-end.ensures)) k (omega (arith, c.min.ensures))

pub loop-b-preserved : goal.loop-b-preserved
loop-b-preserved c =
    let T = c.args.self.now.tables in
    rw c.saturating_sub-i.ensures record {
      scans = λ before again S.
          let sum : again + (c.loop-b.again + c.stays-again.result) ≡ again + c.loop-b.again + c.stays-again.result = omega arith in
          rw sum
          (scans_left _ _ before T.some T (scans_begun _ _ before T.some (c.loop-b.invariant.scans before again S) c.begin-window.ensures)
          (omega (arith, c.min-end.ensures, length_letters c.args.text)) c.extend_any-r.ensures
          (omega (arith, c.min.ensures, length_letters c.args.text)) c.leave-s.ensures c.stays-again.ensures);
      upto = omega arith;
      inside = omega (arith, c.min-end.ensures, c.min.ensures);
      few = omega (arith, c.stays-again.ensures.0);
    }

pub returns-clause-carries : goal.returns-clause-carries
returns-clause-carries c before again S =
    scans_over _ _ before c.args.self.now.tables.some (c.loop-b.invariant.scans before again S) (omega (arith, length_letters c.args.text))
    (omega (arith, length_letters c.args.text, S.right.size))
