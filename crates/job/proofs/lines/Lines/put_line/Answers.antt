-- The three parts of a line are written one after the other.
use Rattle.job.specs.Text.{ascii}
use Rattle.job.proofs.Writing.{writes_more}
use Rattle.job.proofs.lines.Lines.put_line.Goals as goal

pub returns-clause-writes : goal.returns-clause-writes
unfolding ascii
returns-clause-writes c = writes_more c.put.ensures (writes_more c.put_decimal.ensures c.put-2.ensures)
