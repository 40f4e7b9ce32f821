-- The steps that fill a table.
use Rattle.std.specs.Prelude.{ℕ, suc, ◌+◌, ◌-◌, ◌≤◌, ◌<◌, max, ◌≡◌, List, length, drop}
use Rattle.words.specs.Tables.{hmax}
use Rattle.hmax.specs.FastMethod.{comparisons}
use Rattle.hmax.specs.Table.{entry_bound, HasHmax}

-- The table of w fits into s.
pub record Room (w s : List ℕ) : Type 0 where
  pub some : 1 ≤ length w
  pub entries : length w < length s
  pub small : length w < entry_bound

-- No entry past m is changed.
abbrev pub RestKept : List ℕ → List ℕ → List ℕ → Type 0
RestKept w before after = drop (suc (length w)) after ≡ drop (suc (length w)) before

-- r is the first entry after k that the entries before it do not give.
pub record Underived (w : List ℕ) (k r : ℕ) : Type 0 where
  pub more : k < r
  pub upto : r ≤ suc (length w)
  pub passed : (q : ℕ) → k < q → q < r → hmax w (q - k) + k < hmax w k
  pub stops : r ≤ length w → hmax w k ≤ hmax w (r - k) + k

-- The entries below r are known.
pub record Derives (w before after : List ℕ) (k r : ℕ) : Type 0 where
  pub first : Underived w k r
  pub known : HasHmax w after r
  pub rest : RestKept w before after

-- The turn of k begins where the one before it ended, at i, or past that at k. Where k is i + 1 at most, place and count go up by 1 together.
pub record BeginsAt (k i again from more : ℕ) : Type 0 where
  pub place : from ≡ max k i
  pub count : k ≤ suc i → from + more ≡ suc i + again

-- The entries below k are known, that of k is m, and all comparisons are made.
pub record Compares (w before after : List ℕ) (k compared : ℕ) : Type 0 where
  pub positive : 1 ≤ k
  pub inside : k ≤ length w
  pub whole : hmax w k ≡ length w
  pub known : HasHmax w after k
  pub steps : compared ≡ comparisons w
  pub rest : RestKept w before after

-- All of hmax,
pub record FillsRest (w before after : List ℕ) : Type 0 where
  pub known : HasHmax w after (suc (length w))
  pub rest : RestKept w before after

-- with the comparisons of the fast method.
pub record Fills (w before after : List ℕ) (compared : ℕ) : Type 0 where
  pub table : FillsRest w before after
  pub steps : compared ≡ comparisons w
