-- A table of hmax in lent memory.
use Rattle.std.specs.Prelude.{ℕ, suc, ◌<◌, ◌≡◌, Bool, true, false, ◌&&◌, List, ◌++◌, leb, ltb, length, get_or, drop}
use Rattle.words.specs.Numbers.{tabulate}
use Rattle.words.specs.Tables.{hmax}
use Rattle.hmax.specs.FastMethod.{comparisons}

-- Entries are numbers of 16 bits: they are less than this.
abbrev pub entry_bound : ℕ
entry_bound = 65536

-- A table of w fits into n entries: w has a letter, there is an entry for each k from 0 to m, and one can hold m, the greatest of its numbers.
unfoldable pub fits : List ℕ → ℕ → Bool
fits w n = leb 1 (length w) && (ltb (length w) n && ltb (length w) entry_bound)

-- What a lent table s then holds: hmax(k) at entry k, for k from 0, where the definition gives m, to m, and after them what was lent. Where it
-- does not fit, all is as it was lent.
unfoldable pub table_after : List ℕ → List ℕ → List ℕ
unfolding fits tabulate hmax
table_after w s = elim (fits w (length s)) [ true ↦ tabulate (suc (length w)) (hmax w) ++ drop (suc (length w)) s | false ↦ s ]

-- The comparisons that this takes.
unfoldable pub compared_for : List ℕ → ℕ → ℕ
unfolding fits comparisons
compared_for w n = elim (fits w n) [ true ↦ comparisons w | false ↦ 0 ]

-- The entries of hmax below n stand in s.
abbrev pub HasHmax : List ℕ → List ℕ → ℕ → Type 0
HasHmax w s n = (k : ℕ) → k < n → get_or s k 0 ≡ hmax w k
