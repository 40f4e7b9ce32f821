-- The report of a search that ends, with its columns.
use Rattle.std.specs.Prelude.{ℕ}
use Rattle.rules.specs.declared.Ending.{Ending}
use Rattle.rules.specs.declared.Report.{Report}

abbrev pub ended_with : Ending → ℕ → ℕ → ℕ → ℕ → Report
ended_with ending count noholes holes written =
    record { ending = ending; count = count; noholes = noholes; holes = holes; written = written }
