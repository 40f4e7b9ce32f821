-- The program's input, as document 01 gives it ("The program"), and its tests: 1, 6 and 5 of the table "Turned away", and test 10, which document
-- 02 (C-13) puts between 6 and 5.
use Rattle.std.specs.Prelude.{ℕ, suc, ◌≤◌, ◌≡◌, cond, List, eqb, ltb, length, get_or, take, drop, Result, Ok, Err}
use Rattle.words.specs.Holds.{holds}
use Rattle.refusal.specs.declared.Refusal.{Refusal}
use Rattle.refusal.specs.declared.Refusal.TheVariants.{NoPattern, LongText, ShortInput, ZeroInPattern}
use Rattle.intake.specs.Outcomes.{Preparable}

-- The longest text, in bytes.
abbrev pub longest_text : ℕ
longest_text = 60000

-- One length byte L, L pattern bytes, and the text to the end. Empty input has L = 0.
abbrev pub length_in : List ℕ → ℕ
length_in input = get_or input 0 0

abbrev pub pattern_in : List ℕ → List ℕ
pattern_in input = take (length_in input) (drop 1 input)

abbrev pub text_in : List ℕ → List ℕ
text_in input = drop (suc (length_in input)) input

-- The tests in their order: the first that holds is the answer, by its number in the table (`number_of`). Of who is not refused it is the
-- pattern's length.
unfoldable pub parsed : List ℕ → Result ℕ Refusal
unfolding holds
parsed input =
    cond (eqb (length_in input) 0) (Err NoPattern) (cond (ltb (length input) (suc (length_in input))) (Err ShortInput)
    (cond (holds 0 (pattern_in input)) (Err ZeroInPattern) (cond (ltb longest_text (length (text_in input))) (Err LongText) (Ok (length_in input)))))

-- What an input that is accepted is like, in plain terms.
pub record Accepted (input : List ℕ) (len : ℕ) : Type 0 where
  pub first : len ≡ length_in input
  pub whole : suc len ≤ length input
  pub preparable : Preparable (pattern_in input)
  pub fits : length (text_in input) ≤ longest_text
