-- What a search of one record answers, and what it leaves in the lent list, refusals included. Both searches answer so.
use Rattle.std.specs.Prelude.{ℕ, Bool, List, Option, Some, None, Result, Ok, Err, length}
use Rattle.checked.specs.Check.{is_prepared}
use Rattle.directory.specs.Archive.{bounds_by, record_of}
use Rattle.directory.specs.declared.Bounds.{Bounds}
use Rattle.pattern.specs.Letters.{own_bytes, word_of, text_of}
use Rattle.pattern.specs.declared.Pattern.{Pattern}
use Rattle.refusal.specs.Unless.{unless}
use Rattle.refusal.specs.declared.Refusal.{Refusal}
use Rattle.refusal.specs.declared.Refusal.TheVariants.{FalsePattern}
use Rattle.rules.specs.Rules.{End, Search}
use Rattle.rules.specs.Report.{report_of, filled}
use Rattle.rules.specs.declared.Report.{Report}

-- Test 4, then those of the archive (5, 7, 8, 9), then whether there is such a record; else the report of the search for the letters w.
unfoldable pub answered : List ℕ → Bool → Result (Option Bounds) Refusal → End → Result (Option Report) Refusal
unfolding report_of
answered w prepared b search = unless prepared (Err FalsePattern) (elim b [
  | Ok found ↦ elim found [
    | Some there ↦ Ok (Some (report_of w search))
    | None ↦ Ok None
  ]
  | Err why ↦ Err why
])

-- The list afterwards: filled from its start where a search ran, and else as it was lent.
unfoldable pub listed : Result (Option Report) Refusal → End → List ℕ → List ℕ
unfolding filled
listed a search lent = elim a [ Ok ran ↦ elim ran [ Some report ↦ filled search lent | None ↦ lent ] | Err why ↦ lent ]

-- The search for a pattern's letters in those of record r of the archive a.
unfoldable pub answer_by : Search → Pattern → List ℕ → ℕ → ℕ → ℕ → Result (Option Report) Refusal
unfolding is_prepared bounds_by record_of word_of text_of answered
answer_by search p a r cap size = answered (word_of p) (is_prepared p) (bounds_by a r) (search (word_of p) (text_of p (record_of a r)) cap size)

unfoldable pub list_by : Search → Pattern → List ℕ → ℕ → ℕ → List ℕ → List ℕ
unfolding record_of word_of text_of answer_by listed
list_by search p a r cap lent =
    listed (answer_by search p a r cap (length lent)) (search (word_of p) (text_of p (record_of a r)) cap (length lent)) lent

-- The same for its bytes in the record's: what the classes that give each value itself return.
unfoldable pub plain_answer_by : Search → Pattern → List ℕ → ℕ → ℕ → ℕ → Result (Option Report) Refusal
unfolding is_prepared bounds_by record_of answered
plain_answer_by search p a r cap size = answered (own_bytes p) (is_prepared p) (bounds_by a r) (search (own_bytes p) (record_of a r) cap size)

unfoldable pub plain_list_by : Search → Pattern → List ℕ → ℕ → ℕ → List ℕ → List ℕ
unfolding record_of plain_answer_by listed
plain_list_by search p a r cap lent =
    listed (plain_answer_by search p a r cap (length lent)) (search (own_bytes p) (record_of a r) cap (length lent)) lent

-- A search's answer as that of its record.
abbrev pub of_search : Result Report Refusal → Result (Option Report) Refusal
of_search (Ok r) = Ok (Some r)
of_search (Err why) = Err why
