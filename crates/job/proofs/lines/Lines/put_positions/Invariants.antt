-- The lines of the positions so far are written, each of at most 21 bytes.
use Rattle.std.proofs.Common.{◌+◌, ◌*◌, ◌≤◌, take}
use Rattle.job.specs.Printed.{position_lines}
use Rattle.job.specs.Internal.Writing.{Writes}
use Rattle.job.proofs.lines.Lines.put_positions.Given as goal

abbrev pub invariant-loop-position : goal.invariant-loop-position
invariant-loop-position l = record {
  writes : Writes l.initial.self l.self (position_lines (take l.position-index l.positions));
  upper_bound : l.self.len ≤ l.initial.self.len + 21 * l.position-index;
}
