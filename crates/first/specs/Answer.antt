-- Document 02, C-12: the first position or "absent", with the count, refusals included.
use Rattle.std.specs.Prelude.{ℕ, List, length, Some, None, Result, Ok, Err}
use Rattle.admission.specs.Admitted.{admitted}
use Rattle.pattern.specs.Letters.{own_bytes, word_of, text_of}
use Rattle.pattern.specs.declared.Pattern.{Pattern}
use Rattle.refusal.specs.Tests.{Tested}
use Rattle.refusal.specs.declared.Refusal.{Refusal}
use Rattle.rules.specs.Rules.{End}
use Rattle.rules.specs.Stopped.{stopped}
use Rattle.rules.specs.declared.Ending.{Ending}
use Rattle.rules.specs.declared.Ending.TheVariants.{Done, Spent, Full}
use Rattle.first.specs.declared.FirstAnswer.{FirstAnswer}

-- By how the search that stops at the first occurrence ended, and its count: the window at which it was cut off, or absent. It is never spent.
abbrev pub first_at : Ending → ℕ → FirstAnswer
first_at Done count = record { position = None; count = count }
first_at (Spent b) count = record { position = Some b; count = count }
first_at (Full b) count = record { position = Some b; count = count }

-- The refusal of who is not let in; else what the search comes to.
unfoldable pub answered : Tested → End → Result FirstAnswer Refusal
answered a s = elim a [ Ok u ↦ Ok (first_at s.ending (length s.last.made)) | Err why ↦ Err why ]

-- The search for a pattern's letters in those of a text.
unfoldable pub first_by : Pattern → List ℕ → Result FirstAnswer Refusal
unfolding admitted word_of text_of stopped answered
first_by p t = answered (admitted p (length t)) (stopped (word_of p) (text_of p t))

-- The same for its bytes in a text's, which the classes return that give each value itself (C-19).
unfoldable pub plain_first_by : Pattern → List ℕ → Result FirstAnswer Refusal
unfolding admitted stopped answered
plain_first_by p t = answered (admitted p (length t)) (stopped (own_bytes p) t)
