use Rattle.std.proofs.Common.{arith}
use Rattle.job.specs.Printed.{position_lines}
use Rattle.job.proofs.Writing.{writes_nothing, writes_more}
use Rattle.job.proofs.Printed.{next_position}
use Rattle.job.proofs.lines.Lines.put_positions.Goals as goal

-- No position has no line.
pub loop-position-init : goal.loop-position-init
unfolding position_lines
loop-position-init c = record { writes = writes_nothing c.args.self.now (omega arith); upper_bound = omega arith }

-- One more position's line is written after those before it.
pub loop-position-preserved : goal.loop-position-preserved
loop-position-preserved c = record {
  writes = rw (next_position c.args.positions.now c.loop-position.position-index c.loop-position-test.true)
      (writes_more c.loop-position.invariant.writes (rw c.from.ensures at c.put_line.ensures.writes));
  upper_bound = omega arith;
}
