-- The charge of a search.
use Rattle.std.specs.Prelude.{ℕ, ◌+◌, ◌/◌}

-- Its count in started thousands: 0 for 0, 1 for 1 and for 1,000, 2 for 1,001.
unfoldable pub charged : ℕ → ℕ
charged count = (count + 999) / 1000
