-- What the functions within the crate promise each other. No public contract cites it.
use Rattle.std.specs.Prelude.{ℕ, List, Option, Some, None, Result, Ok, Err}
use Rattle.checked.specs.Check.{is_prepared}
use Rattle.directory.specs.Archive.{bounds_by}
use Rattle.directory.specs.declared.Bounds.{Bounds}
use Rattle.pattern.specs.declared.Pattern.{Pattern}
use Rattle.refusal.specs.Unless.{unless}
use Rattle.refusal.specs.declared.Refusal.{Refusal}
use Rattle.refusal.specs.declared.Refusal.TheVariants.{FalsePattern}

-- The bounds of a record that is found; else test 4 comes before what is told in place of a search.
unfoldable pub to_search : Pattern → List ℕ → ℕ → Result (Option Bounds) Refusal
unfolding is_prepared bounds_by
to_search p a r = elim (bounds_by a r) [
  | Ok found ↦ elim found [ Some there ↦ Ok (Some there) | None ↦ unless (is_prepared p) (Err FalsePattern) (Ok None) ]
  | Err why ↦ unless (is_prepared p) (Err FalsePattern) (Err why)
]
