-- Document 02, C-17: the four numbers that a sheet, here rows, gains for each search.
use Rattle.std.specs.Prelude.{ℕ, ◌+◌, true, false, List, [], ◌∷◌, ◌++◌, leb, length, drop, Result, Ok, Err}
use Rattle.endings.specs.Endings.{ending_number, ending_window}
use Rattle.refusal.specs.Numbers.{number_of}
use Rattle.refusal.specs.declared.Refusal.{Refusal}
use Rattle.rules.specs.declared.Report.{Report}
use Rattle.rows.specs.declared.Row.{Row}

-- The numbers of a row.
abbrev pub row_size : ℕ
row_size = 4

-- 0 done, 1 spent, 2 full; positions written; count; window, 0 where there is none.
abbrev pub ran_row : Report → Row
ran_row r = record { ending = ending_number r.ending; written = r.written; count = r.count; window = ending_window r.ending }

-- 10 plus the refusal's number, and the last three are 0.
abbrev pub refused_row : Refusal → Row
refused_row why = record { ending = 10 + number_of why; written = 0; count = 0; window = 0 }

abbrev pub row_of : Result Report Refusal → Row
row_of (Ok r) = ran_row r
row_of (Err why) = refused_row why

-- A row as it stands in a list.
abbrev pub numbers : Row → List ℕ
numbers r = r.ending ∷ r.written ∷ r.count ∷ r.window ∷ []

-- A list that begins with such numbers and is unchanged after them, if it has room; one that has not is unchanged.
unfoldable pub starting_with : List ℕ → List ℕ → List ℕ
starting_with s lent = elim (leb (length s) (length lent)) [ true ↦ s ++ drop (length s) lent | false ↦ lent ]
