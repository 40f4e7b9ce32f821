-- What the search tells is written at the buffer's start.
use Rattle.std.proofs.Common.{rules}
use Rattle.job.proofs.Answers.{short_buffer, wrote_answer, wrote_buffer, wrote_within}
use Rattle.job.proofs.job.Goals as goal

pub returns-then-out-lt-BUFFER : goal.returns-then-out-lt-BUFFER
returns-then-out-lt-BUFFER c =
    let short = short_buffer c.args.input.now c.args.out.now c.if-out-lt-BUFFER.true in
    record { answer = short.0; buffer = short.1; within = search rules }

pub returns-in-Ok : goal.returns-in-Ok
returns-in-Ok c =
    let input = c.args.input.now in
    let lent = c.args.out.now in
    let room = c.if-out-lt-BUFFER.false in
    let lines = c.in-Ok.ensures.1 in
    record {
      answer = wrote_answer input lent room lines c.put_report.ensures;
      buffer = wrote_buffer input lent room lines c.put_report.ensures;
      within = wrote_within input lent room lines c.put_report.ensures;
    }

pub returns-in-Err : goal.returns-in-Err
returns-in-Err c =
    let input = c.args.input.now in
    let lent = c.args.out.now in
    let room = c.if-out-lt-BUFFER.false in
    let lines = c.in-Err.ensures in
    record {
      answer = wrote_answer input lent room lines c.put_refused.ensures;
      buffer = wrote_buffer input lent room lines c.put_refused.ensures;
      within = wrote_within input lent room lines c.put_refused.ensures;
    }
