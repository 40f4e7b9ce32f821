-- What the search up to the first occurrence answers, refusals included.
use Rattle.std.specs.Prelude.{ℕ, List, length, Result, Ok, Err}
use Rattle.admission.specs.Admitted.{admitted}
use Rattle.pattern.specs.Letters.{word_of, text_of}
use Rattle.pattern.specs.declared.Pattern.{Pattern}
use Rattle.refusal.specs.declared.Refusal.{Refusal}
use Rattle.rules.specs.Rules.{End}
use Rattle.rules.specs.Stopped.{stopped}
use Rattle.search.specs.declared.Stop.{Stop}

-- How it ended, and the count.
unfoldable pub stop_of : End → Stop
stop_of s = record { ending = s.ending; count = length s.last.made }

-- The search for a pattern's letters in those of a text.
unfoldable pub stop_by : Pattern → List ℕ → Result Stop Refusal
unfolding admitted word_of text_of stopped stop_of
stop_by p t = elim (admitted p (length t)) [
  | Ok u ↦ Ok (stop_of (stopped (word_of p) (text_of p t)))
  | Err why ↦ Err why
]
