-- What the scratch holds between the steps of building: hmax(k) at entry k, and kmin(p) at kmins_at + p.
use Rattle.std.specs.Prelude.{ℕ, suc, ◌+◌, ◌≤◌, ◌≡◌, List, length, get_or}
use Rattle.words.specs.Tables.{kmin}
use Rattle.intake.specs.Sizes.{longest_pattern, scratch_size}
use Rattle.hmax.specs.Table.{HasHmax}
use Rattle.pattern.specs.Sizes.{kmins_at}

-- Lengths that pass the tests.
pub record Sizes (w s : List ℕ) : Type 0 where
  pub some : 1 ≤ length w
  pub short : length w ≤ longest_pattern
  pub room : scratch_size ≤ length s

abbrev pub HasKmin : List ℕ → List ℕ → Type 0
HasKmin w s = (p : ℕ) → p ≤ length w → get_or s (kmins_at + p) 0 ≡ kmin w p

-- Both tables.
pub record HasTables (w s : List ℕ) : Type 0 where
  pub hmaxes : HasHmax w s (suc (length w))
  pub kmins : HasKmin w s
