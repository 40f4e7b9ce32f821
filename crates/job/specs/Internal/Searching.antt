-- What the search for an input tells of what is printed.
use Rattle.std.specs.Prelude.{ℕ, ◌≤◌, ◌≡◌, List, length, take, Result, Ok, Err}
use Rattle.refusal.specs.declared.Refusal.{Refusal}
use Rattle.rules.specs.declared.Report.{Report}
use Rattle.job.specs.Printed.{refused_line, report_lines, printed}

-- The input's lines are those of the report, with the positions that the list begins with, or that of the refusal.
abbrev pub Tells : List ℕ → List ℕ → Result Report Refusal → Type 0
Tells input list (Ok report) =
    (report.written ≤ length list) × (printed input ≡ report_lines report.ending report.count (take report.written list))
Tells input list (Err why) = printed input ≡ refused_line why
