-- Document 02, C-21: a search followed by a journal, in place of a text.
use Rattle.std.specs.Prelude.{ℕ, ◌+◌, ◌/◌, ◌%◌, Bool, true, ◌&&◌, List, [], ◌∷◌, eqb, length, get_or}
use Rattle.words.specs.Tables.{noholes, place, shift, next}
use Rattle.rules.specs.Rules.{Source, Compared, End, search}
use Rattle.rules.specs.Colussi.{colussi_plan}

-- A journal in place of a text of n letters: each comparison is answered by the entry of its number, and an odd one says equal.
abbrev pub journal_source : ℕ → List ℕ → Source
journal_source n journal = record { n = n; agree = λ b p c. eqb (get_or journal c 0 % 2) 1 }

-- The search for w in Colussi's order by these answers, capped at the journal's length: where the journal runs out while a comparison is due,
-- it is spent.
unfoldable pub replayed : List ℕ → ℕ → List ℕ → ℕ → End
unfolding search noholes place shift next
replayed w n journal size = search (colussi_plan w) (journal_source n journal) (length journal) size

-- The entry of each comparison made has its place: its position in the text.
unfoldable pub placed : List ℕ → List Compared → Bool
placed journal [] = true
placed journal (x ∷ made) = eqb (get_or journal (length made) 0 / 2) (x.window + x.place) && placed journal made

-- Refusal 18 is for the others: an entry's place isn't the one that the rules compare next, or entries remain after done or full.
unfoldable pub accepted : List ℕ → ℕ → List ℕ → ℕ → Bool
unfolding replayed placed
accepted w n journal size =
    let made = (replayed w n journal size).last.made in
    placed journal made && eqb (length made) (length journal)
