-- The lines of a report are put one after the other.
use Rattle.std.proofs.Common.{◌≡◌, length, take, arith, length-take, rules}
use Rattle.job.specs.Text.{ascii}
use Rattle.job.specs.Printed.{line}
use Rattle.job.proofs.Writing.{writes_more}
use Rattle.job.proofs.Printed.{report_parts}
use Rattle.job.proofs.lines.put_report.Goals as goal

pub returns : goal.returns
unfolding line ascii
returns c =
    let report = c.args.report in
    let positions = take report.written c.args.positions.now in
    let places : report.written ≡ length positions = omega (arith, length-take report.written c.args.positions.now) in
    let lines = report_parts report.ending report.count positions c.charge.ensures.answer places in
    let all = writes_more c.put_ending.ensures.writes (writes_more c.put_line.ensures.writes (writes_more c.put_line-2.ensures.writes
    (writes_more c.put_line-3.ensures.writes c.put_positions.ensures))) in
    rw lines (search (rules, all))
