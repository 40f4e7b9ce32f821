-- Document 02, C-14: how much of a pattern begins at each position of a text (source document 001, counted from 0).
use Rattle.std.specs.Prelude.{ℕ, ◌+◌, ◌-◌, min, not, List, ◌++◌, eqb, length, drop}
use Rattle.words.specs.Numbers.{first, tabulate}
use Rattle.words.specs.Tables.{letter}

-- The length of the longest prefix of w that begins at position x of t: the first place whose letters differ, of those that both the pattern
-- and the text from x on have; and where none do, the number of them.
unfoldable pub longest : List ℕ → List ℕ → ℕ → ℕ
unfolding first
longest w t x = first 0 (min (length w) (length t - x)) λ p. not (eqb (letter w p) (letter t (x + p)))

-- That of every position, in order.
unfoldable pub lengths : List ℕ → List ℕ → List ℕ
unfolding tabulate longest
lengths w t = tabulate (length t) (longest w t)

-- A lent list with them at its start. The entries past them are unchanged.
unfoldable pub lengths_in : List ℕ → List ℕ → List ℕ → List ℕ
unfolding lengths
lengths_in w t lent = lengths w t ++ drop (length t) lent
