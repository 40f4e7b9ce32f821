-- What the scanning functions of the search by Knuth, Morris and Pratt promise.
use Rattle.std.specs.Prelude.{ℕ, ◌≤◌, ◌<◌, ◌≡◌, List, length, get_or}
use Rattle.words.specs.Tables.{below, noholes, place, shift}
use Rattle.pattern.specs.Sizes.{ranks}
use Rattle.rules.specs.Kmp.{kmp_shift}

-- The tables by place: the shift at each matched length, and the noholes less than it.
pub record KmpTables (w shifts belows : List ℕ) : Type 0 where
  pub length_shifts : length shifts ≡ ranks
  pub length_belows : length belows ≡ ranks
  pub shift_at : (i : ℕ) → i ≤ length w → get_or shifts i 0 ≡ kmp_shift w i
  pub below_at : (i : ℕ) → i ≤ length w → get_or belows i 0 ≡ below w i

-- The tables by rank of a pattern w.
pub record ByRank (w order shifts : List ℕ) (m d : ℕ) : Type 0 where
  pub word : length w ≡ m
  pub noholes : d ≡ noholes w
  pub place_at : (i : ℕ) → i < m → get_or order i 0 ≡ place w i
  pub shift_at : (i : ℕ) → i ≤ m → get_or shifts i 0 ≡ shift w i

-- Of whatever pattern the tables by rank are, those by place are its tables.
abbrev pub TablesOf : List ℕ → List ℕ → ℕ → ℕ → List ℕ → List ℕ → Type 0
TablesOf order shifts m d by_place belows = (w : List ℕ) → ByRank w order shifts m d → KmpTables w by_place belows
