-- Document 02, C-21: the journal that a search writes of its comparisons.
use Rattle.std.specs.Prelude.{ℕ, ◌+◌, ◌*◌, cond, List, [], ◌∷◌, ◌++◌, length, drop}
use Rattle.rules.specs.Rules.{Compared}

-- The entry of a comparison: twice its position in the text, plus 1 if equal.
unfoldable pub entry : Compared → ℕ
entry x = 2 * (x.window + x.place) + cond x.equal 1 0

-- The entries of the comparisons made, which stand the latest first: here the earliest is.
unfoldable pub journal_of : List Compared → List ℕ
unfolding entry
journal_of [] = []
journal_of (x ∷ made) = journal_of made ++ (entry x ∷ [])

-- They fill the journal that was lent from its start; the entries past them are unchanged.
unfoldable pub written : List Compared → List ℕ → List ℕ
unfolding journal_of
written made lent = journal_of made ++ drop (length made) lent
