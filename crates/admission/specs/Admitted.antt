-- Who is let in to a search: tests 4 and 5 of document 01's table "Turned away".
use Rattle.std.specs.Prelude.{ℕ, ◌≤◌, Bool, leb, Ok, Err}
use Rattle.checked.specs.Check.{is_prepared, IsPrepared}
use Rattle.pattern.specs.declared.Pattern.{Pattern}
use Rattle.refusal.specs.Tests.{Tested, passed}
use Rattle.refusal.specs.Unless.{unless}
use Rattle.refusal.specs.declared.Refusal.{Refusal}
use Rattle.refusal.specs.declared.Refusal.TheVariants.{FalsePattern, LongText}

-- The longest text, in bytes.
abbrev pub longest_text : ℕ
longest_text = 16777216

-- Tests 4 and 5, in that order, of whether a pattern is prepared and a text of n bytes: the first that fails is the answer, by its number in
-- document 01's table (`number_of`).
unfoldable pub judged : Bool → ℕ → Tested
judged prepared n = unless prepared (Err FalsePattern) (unless (leb n longest_text) (Err LongText) passed)

-- The answer to a pattern and a text of n bytes.
unfoldable pub admitted : Pattern → ℕ → Tested
unfolding is_prepared judged
admitted p n = judged (is_prepared p) n

-- One test more, of who is let in so far, with the refusal of who does not pass it.
unfoldable pub also_judged : Tested → Bool → Refusal → Tested
also_judged a passes why = elim a [ Ok u ↦ unless passes (Err why) passed | Err first ↦ Err first ]

-- In plain terms.
pub record IsAdmitted (p : Pattern) (n : ℕ) : Type 0 where
  pub prepared : IsPrepared p
  pub fits : n ≤ longest_text
