-- Sizes, each in one place.
use Rattle.std.specs.Prelude.{ℕ, ◌+◌}
use Rattle.intake.specs.Sizes.{longest_pattern}

-- The entries of a table by rank, with one for rank m.
abbrev pub ranks : ℕ
ranks = longest_pattern + 1

-- The scratch: where the table of kmin begins in it, after that of hmax.
abbrev pub kmins_at : ℕ
kmins_at = ranks
