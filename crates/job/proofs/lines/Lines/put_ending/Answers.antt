-- The line of a search that was cut off is a word and a window.
use Rattle.job.specs.Text.{ascii}
use Rattle.job.specs.Printed.{line, ending_line}
use Rattle.job.proofs.lines.Lines.put_ending.Goals as goal

pub returns-in-Spent-clause-writes : goal.returns-in-Spent-clause-writes
unfolding ending_line line ascii
returns-in-Spent-clause-writes c = rw c.in-Spent.is c.put_line.ensures.writes

pub returns-in-Full-clause-writes : goal.returns-in-Full-clause-writes
unfolding ending_line line ascii
returns-in-Full-clause-writes c = rw c.in-Full.is c.put_line-in-Full.ensures.writes
