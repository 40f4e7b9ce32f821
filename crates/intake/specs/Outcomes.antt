-- Which bytes preparation takes: tests 1, 2 and 3 of document 01's table "Turned away"; test 10, which document 02 (C-13) puts between 2 and 3;
-- and tests 14 and 15, which document 02 (C-19) puts between 10 and 3.
use Rattle.std.specs.Prelude.{Err, ℕ, ◌≤◌, ◌≡◌, not, cond, List, eqb, ltb, length, drop}
use Rattle.words.specs.Tables.{letter}
use Rattle.words.specs.Holds.{holds, Lacks}
use Rattle.classes.specs.Classes.{class_count, class_of}
use Rattle.refusal.specs.Tests.{Tested, passed}
use Rattle.refusal.specs.declared.Refusal.TheVariants.{NoPattern, LongPattern, ShortScratch, ZeroInPattern, ClassesNot256, ZeroClassShared}
use Rattle.intake.specs.Sizes.{longest_pattern, scratch_size}

-- The tests of the bytes w, of classes and of a scratch of n numbers, each with what comes after it.
unfoldable pub bytes_tested : List ℕ → Tested → Tested
unfolding holds
bytes_tested w then =
    cond (eqb (length w) 0) (Err NoPattern) (cond (ltb longest_pattern (length w)) (Err LongPattern)
    (cond (holds 0 w) (Err ZeroInPattern) then))

unfoldable pub classes_tested : List ℕ → Tested → Tested
unfolding holds
classes_tested classes then =
    cond (not (eqb (length classes) class_count)) (Err ClassesNot256)
    (cond (holds (letter classes 0) (drop 1 classes)) (Err ZeroClassShared) then)

unfoldable pub scratch_tested : ℕ → Tested → Tested
scratch_tested n then = cond (ltb n scratch_size) (Err ShortScratch) then

-- All in their order: the first that holds is the answer, by its number in the table (`number_of`).
unfoldable pub outcome_of : List ℕ → List ℕ → ℕ → Tested
unfolding bytes_tested classes_tested scratch_tested
outcome_of w classes n = bytes_tested w (classes_tested classes (scratch_tested n passed))

-- In plain terms: bytes that no test refuses. Byte 0 closes a seat's reflections in a text, and a pattern that holds it would join two seats.
pub record Preparable (w : List ℕ) : Type 0 where
  pub some : 1 ≤ length w
  pub short : length w ≤ longest_pattern
  pub no_zero : Lacks 0 w

-- And classes: no other byte counts as equal to byte 0.
pub record Usable (classes : List ℕ) : Type 0 where
  pub size : length classes ≡ class_count
  pub zero_alone : (v : ℕ) → 1 ≤ v → class_of classes v ≡ class_of classes 0 → ⊥
