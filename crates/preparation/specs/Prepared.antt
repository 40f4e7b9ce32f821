-- What preparation answers, and what it leaves in the scratch.
use Rattle.std.specs.Prelude.{ℕ, ◌≡◌, List, ◌++◌, length, take, drop, replicate, Result, Ok, Err}
use Rattle.classes.specs.Classes.{through, identity}
use Rattle.intake.specs.Sizes.{scratch_size}
use Rattle.intake.specs.Outcomes.{bytes_tested, scratch_tested, outcome_of}
use Rattle.pattern.specs.Built.{built_with}
use Rattle.pattern.specs.declared.Built.{Built}
use Rattle.refusal.specs.Tests.{Tested, passed}
use Rattle.refusal.specs.declared.Refusal.{Refusal}

-- The answer where the tests come out as t, and the letters of the bytes w are l.
unfoldable pub prepared_with : Tested → List ℕ → List ℕ → List ℕ → Result Built Refusal
unfolding built_with
prepared_with t w classes l = elim t [ Ok u ↦ Ok (built_with w classes l) | Err why ↦ Err why ]

-- What a scratch then holds: zeros in its first scratch_size numbers after success, and what was lent after a refusal.
unfoldable pub scratch_by : Tested → List ℕ → List ℕ
scratch_by t s = elim t [ Ok u ↦ replicate scratch_size 0 ++ drop scratch_size s | Err why ↦ s ]

-- The answer to the bytes w, classes and a scratch of n numbers, and what a scratch s then holds: the letters are read through the classes.
unfoldable pub prepared : List ℕ → List ℕ → ℕ → Result Built Refusal
unfolding outcome_of through prepared_with
prepared w classes n = prepared_with (outcome_of w classes n) w classes (through classes w)

unfoldable pub scratch_after : List ℕ → List ℕ → List ℕ → List ℕ
unfolding outcome_of scratch_by
scratch_after w classes s = scratch_by (outcome_of w classes (length s)) s

-- The same without classes, as it was before document 02 (C-19): only bytes and scratch are tested, and the letters are the bytes. Both are what
-- the classes that give each value itself return.
unfoldable pub plain_prepared : List ℕ → ℕ → Result Built Refusal
unfolding bytes_tested scratch_tested identity prepared_with
plain_prepared w n = prepared_with (bytes_tested w (scratch_tested n passed)) w identity w

unfoldable pub plain_scratch : List ℕ → List ℕ → List ℕ
unfolding bytes_tested scratch_tested scratch_by
plain_scratch w s = scratch_by (bytes_tested w (scratch_tested (length s) passed)) s

-- In plain terms, what success does to a scratch: its first scratch_size numbers are 0, and the rest as it was lent.
pub record Cleared (lent after : List ℕ) : Type 0 where
  pub zeros : take scratch_size after ≡ replicate scratch_size 0
  pub rest : drop scratch_size after ≡ drop scratch_size lent
