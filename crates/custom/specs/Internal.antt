-- What the functions within the crate promise each other. No public contract cites it.
use Rattle.std.specs.Prelude.{ℕ, ◌≤◌, ◌<◌, ◌≡◌, false, List, length, get_or}
use Rattle.custom.specs.Order.{Arrangement}
use Rattle.custom.specs.Custom.{match_rules_out}
use Rattle.custom.specs.Table.{named_places}

-- A pattern's letters and an arrangement of its places, each of which a byte can name.
pub record Lent (w order : List ℕ) : Type 0 where
  pub some : 1 ≤ length w
  pub short : length w ≤ named_places
  pub arrangement : Arrangement (length w) order

-- What is known of each distance: the matches at so many of the first ranks do not rule it out.
pub record Passed (w order passed : List ℕ) : Type 0 where
  pub size : length w ≤ length passed
  pub allow : (k j : ℕ) → k < length w → j < get_or passed k 0 → match_rules_out w (get_or order j 0) k ≡ false
