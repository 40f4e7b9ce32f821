-- What the program prints for an input, as document 01 gives it ("The program").
use Rattle.std.specs.Prelude.{ℕ, List, [], ◌∷◌, ◌++◌, length, Ok, Err}
use Prim.Native.String.{String}
use Rattle.refusal.specs.Numbers.{number_of}
use Rattle.refusal.specs.declared.Refusal.{Refusal}
use Rattle.rules.specs.Rules.{End, no_cap}
use Rattle.rules.specs.Colussi.{colussi}
use Rattle.rules.specs.declared.Ending.{Ending}
use Rattle.rules.specs.declared.Ending.TheVariants.{Done, Spent, Full}
use Rattle.charge.specs.Charged.{charged}
use Rattle.input.specs.Parsed.{pattern_in, text_in, parsed}
use Rattle.job.specs.Limits.{list_size}
use Rattle.job.specs.Text.{ascii, decimal}

-- A word, a number in decimal and a newline.
unfoldable pub line : String → ℕ → List ℕ
unfolding ascii decimal
line word n = ascii word ++ (decimal n ++ ascii "\n")

unfoldable pub refused_line : Refusal → List ℕ
unfolding line
refused_line why = line "refused " (number_of why)

unfoldable pub ending_line : Ending → List ℕ
unfolding line
ending_line Done = ascii "end done\n"
ending_line (Spent b) = line "end spent at " b
ending_line (Full b) = line "end full at " b

-- One position a line.
unfoldable pub position_lines : List ℕ → List ℕ
unfolding line
position_lines [] = []
position_lines (p ∷ ps) = line "" p ++ position_lines ps

-- The ending, the count, the charge, the number of positions, then the positions.
unfoldable pub report_lines : Ending → ℕ → List ℕ → List ℕ
unfolding ending_line line charged position_lines
report_lines ending count positions =
    ending_line ending ++ (line "count " count ++ (line "charge " (charged count) ++ (line "places " (length positions) ++ position_lines positions)))

unfoldable pub search_lines : End → List ℕ
unfolding report_lines
search_lines s = report_lines s.ending (length s.last.made) s.last.found

-- What is printed for an input: its refusal, or the lines of the search in Colussi's order, with the cap no_cap and a list of list_size entries.
unfoldable pub printed : List ℕ → List ℕ
unfolding parsed refused_line search_lines colussi
printed input = elim (parsed input) [
  | Ok len ↦ search_lines (colussi (pattern_in input) (text_in input) no_cap list_size)
  | Err why ↦ refused_line why
]
