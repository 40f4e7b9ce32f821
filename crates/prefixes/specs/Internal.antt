-- How a run that is carried on stands. No public contract cites it.
use Rattle.std.specs.Prelude.{ℕ, ◌+◌, ◌≤◌, ◌<◌, ◌≡◌, List, [], length}
use Rattle.words.specs.Tables.{letter}
use Rattle.rules.specs.Rules.{Compared, State}
use Rattle.rules.specs.Internal.Passing.{at}
use Rattle.prefixes.specs.CarriedOn.{rest_on, carried_on}

-- A state of the run: no edge is known, and nothing is listed.
abbrev pub in_window : ℕ → ℕ → List Compared → State
in_window b i made = at b i 0 made []

-- In window b the first i letters agree, and c comparisons were made: with those to come they are all.
pub record Stands (w t : List ℕ) (b i c : ℕ) : Type 0 where
  pub upto : i ≤ length w
  pub inside : b + i ≤ length t
  pub agree : (p : ℕ) → p < i → letter w p ≡ letter t (b + p)
  pub made : List Compared
  pub count : length made ≡ c
  pub all : (rest_on w t (in_window b i made)).last.made ≡ (carried_on w t).last.made
