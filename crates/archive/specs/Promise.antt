-- The promises of the search of one record are those of a search, in plain terms, of the record's bytes.
use Rattle.std.specs.Prelude.{Option, IfSome, Result, IfOk}
use Rattle.refusal.specs.declared.Refusal.{Refusal}
use Rattle.rules.specs.declared.Report.{Report}

-- Where a search ran, its report is such.
abbrev pub IfRan : (Report → Type 0) → Result (Option Report) Refusal → Type 0
IfRan P result = IfOk result (λ ran. IfSome ran P)
