-- What a list brought up to date is, in plain terms.
use Rattle.std.specs.Prelude.{ℕ, ◌+◌, ◌≤◌, ◌<◌, ◌≡◌, ◌↔◌, List, length}
use Rattle.words.specs.Tables.{letter}
use Rattle.lists.specs.Lists.{Listed, Ascending}
use Rattle.rules.specs.Occurs.{Occurs}

-- A window of m bytes at b lies in a text of n bytes, and covers a place.
pub record Covers (m n place b : ℕ) : Type 0 where
  pub from : b ≤ place
  pub upto : place < b + m
  pub inside : b + m ≤ n

-- Two texts of one length that differ at most at a place.
pub record DifferAtMost (place : ℕ) (old new : List ℕ) : Type 0 where
  pub size : length old ≡ length new
  pub same : (x : ℕ) → (x ≡ place → ⊥) → letter old x ≡ letter new x

-- The entries in use before and after a correction of t at a place.
pub record Corrected (w t : List ℕ) (place : ℕ) (before after : List ℕ) : Type 0 where
  pub ascend : Ascending after
  -- Of the windows that cover the place, listed are exactly those where w occurs.
  pub covered : (b : ℕ) → Covers (length w) (length t) place b → Listed after b ↔ Occurs w t b
  -- Every other number is listed where it was before.
  pub kept : (b : ℕ) → (Covers (length w) (length t) place b → ⊥) → Listed after b ↔ Listed before b
  -- The number of entries moves by at most m.
  pub more : length after ≤ length before + length w
  pub fewer : length before ≤ length after + length w
