-- How answers cross to C: refusals and endings by number.
use Rattle.std.specs.Prelude.{ℕ, zero, suc, ◌<◌, ◌≡◌, Option, Some, None, Result, Ok, Err}
use Rattle.directory.specs.declared.Bounds.{Bounds}
use Rattle.directory.specs.declared.Directory.{Directory}
use Rattle.endings.specs.Endings.{ending_number, ending_window, ending_of}
use Rattle.first.specs.declared.FirstAnswer.{FirstAnswer}
use Rattle.pattern.specs.Built.{zero_pattern}
use Rattle.pattern.specs.declared.Built.{Built}
use Rattle.refusal.specs.Numbers.{number_of}
use Rattle.refusal.specs.declared.Refusal.{Refusal}
use Rattle.rules.specs.declared.Report.{Report}
use Rattle.carried.specs.declared.Preparation.{Preparation}
use Rattle.carried.specs.declared.SearchReport.{SearchReport}
use Rattle.carried.specs.declared.First.{First}
use Rattle.carried.specs.declared.Lengths.{Lengths}
use Rattle.carried.specs.declared.Update.{Update}
use Rattle.carried.specs.declared.ArchiveDirectory.{ArchiveDirectory}
use Rattle.carried.specs.declared.RecordBounds.{RecordBounds}

-- The answer of preparation: beside a refusal all else is 0.
unfoldable pub carried_preparation : Result Built Refusal → Preparation
unfolding zero_pattern
carried_preparation (Ok b) = record { refusal = 0; compared = b.compared; pattern = b.pattern }
carried_preparation (Err why) = record { refusal = number_of why; compared = 0; pattern = zero_pattern }

-- A report, beside refusal 0.
abbrev pub carried_report : Report → SearchReport
carried_report r = record {
  refusal = 0;
  ending = ending_number r.ending;
  window = ending_window r.ending;
  count = r.count;
  noholes = r.noholes;
  holes = r.holes;
  written = r.written;
}

-- Where nothing was searched, what is told, and all else is 0.
abbrev pub unsearched : ℕ → ℕ → SearchReport
unsearched refusal ending = record { refusal = refusal; ending = ending; window = 0; count = 0; noholes = 0; holes = 0; written = 0 }

-- An answer: beside a refusal all else is 0.
abbrev pub carried : Result Report Refusal → SearchReport
carried (Ok r) = carried_report r
carried (Err why) = unsearched (number_of why) 0

-- Read back: the report, with the ending that a number and a window stand for.
abbrev pub report_in : SearchReport → Report
report_in r = record {
  ending = ending_of r.ending r.window;
  count = r.count;
  noholes = r.noholes;
  holes = r.holes;
  written = r.written;
}

-- The answer of the search for the first position: found is 1 beside a position, and 0 where the pattern is absent.
abbrev pub first_found : Option ℕ → ℕ → First
first_found (Some b) count = record { refusal = 0; found = 1; position = b; count = count }
first_found None count = record { refusal = 0; found = 0; position = 0; count = count }

abbrev pub carried_first : Result FirstAnswer Refusal → First
carried_first (Ok r) = first_found r.position r.count
carried_first (Err why) = record { refusal = number_of why; found = 0; position = 0; count = 0 }

-- Read back, beside refusal 0.
abbrev pub found_at : ℕ → ℕ → Option ℕ
found_at zero b = None
found_at (suc n) b = Some b

abbrev pub first_in : First → FirstAnswer
first_in r = record { position = found_at r.found r.position; count = r.count }

-- The answer of the call for prefix lengths.
abbrev pub carried_lengths : Result ℕ Refusal → Lengths
carried_lengths (Ok count) = record { refusal = 0; count = count }
carried_lengths (Err why) = record { refusal = number_of why; count = 0 }

-- The answer of the correction of a list.
abbrev pub carried_update : Result ℕ Refusal → Update
carried_update (Ok used) = record { refusal = 0; used = used }
carried_update (Err why) = record { refusal = number_of why; used = 0 }

-- ---- Archives

-- The answer of the search of one record: no such record is an ending.
abbrev pub no_such_record : ℕ
no_such_record = 3

abbrev pub carried_record : Result (Option Report) Refusal → SearchReport
carried_record (Ok (Some r)) = carried_report r
carried_record (Ok None) = unsearched 0 no_such_record
carried_record (Err why) = unsearched (number_of why) 0

-- A search ran: it was not refused, and there was a record. Its report is read back by report_in.
abbrev pub Searched : SearchReport → Type 0
Searched r = (r.refusal ≡ 0) × (r.ending < no_such_record)

-- The directory of an archive, and read back, beside refusal 0.
abbrev pub carried_directory : Result Directory Refusal → ArchiveDirectory
carried_directory (Ok d) = record { refusal = 0; records = d.records; start = d.start }
carried_directory (Err why) = record { refusal = number_of why; records = 0; start = 0 }

abbrev pub directory_in : ArchiveDirectory → Directory
directory_in r = record { start = r.start; records = r.records }

-- The bounds of a record: found is 1 beside bounds, and 0 where there is no such record. Read back, beside found 1.
abbrev pub carried_bounds : Result (Option Bounds) Refusal → RecordBounds
carried_bounds (Ok (Some b)) = record { refusal = 0; found = 1; start = b.start; end = b.end }
carried_bounds (Ok None) = record { refusal = 0; found = 0; start = 0; end = 0 }
carried_bounds (Err why) = record { refusal = number_of why; found = 0; start = 0; end = 0 }

abbrev pub bounds_in : RecordBounds → Bounds
bounds_in r = record { start = r.start; end = r.end }
