-- Document 02, C-14: what the call answers, and what it leaves in the lent list, refusals included.
use Rattle.std.specs.Prelude.{ℕ, List, leb, length, Result, Ok, Err}
use Rattle.admission.specs.Admitted.{admitted}
use Rattle.pattern.specs.Letters.{own_bytes, word_of, text_of}
use Rattle.pattern.specs.declared.Pattern.{Pattern}
use Rattle.prefixes.specs.Longest.{lengths_in}
use Rattle.prefixes.specs.CarriedOn.{comparisons}
use Rattle.refusal.specs.Tests.{Tested}
use Rattle.refusal.specs.Unless.{unless}
use Rattle.refusal.specs.declared.Refusal.{Refusal}
use Rattle.refusal.specs.declared.Refusal.TheVariants.{ShortLengths}

-- Of letters w in a text t and a lent list of a size. The refusal of who is not let in comes first; then test 11, of a list with fewer entries than
-- the text has letters; else the count.
unfoldable pub answered : Tested → List ℕ → List ℕ → ℕ → Result ℕ Refusal
unfolding comparisons
answered a w t size = elim a [
  | Ok u ↦ unless (leb (length t) size) (Err ShortLengths) (Ok (comparisons w t))
  | Err why ↦ Err why
]

-- The list afterwards: with an entry for each letter of the text, and on a refusal as it was lent.
unfoldable pub listed : Result ℕ Refusal → List ℕ → List ℕ → List ℕ → List ℕ
unfolding lengths_in
listed r w t lent = elim r [ Ok c ↦ lengths_in w t lent | Err why ↦ lent ]

-- Of a pattern's letters in those of a text.
unfoldable pub answer_of : Pattern → List ℕ → ℕ → Result ℕ Refusal
unfolding admitted word_of text_of answered
answer_of p t size = answered (admitted p (length t)) (word_of p) (text_of p t) size

unfoldable pub list_of : Pattern → List ℕ → List ℕ → List ℕ
unfolding word_of text_of answer_of listed
list_of p t lent = listed (answer_of p t (length lent)) (word_of p) (text_of p t) lent

-- The same of its bytes in a text's, which the classes return that give each value itself (C-19).
unfoldable pub plain_answer_of : Pattern → List ℕ → ℕ → Result ℕ Refusal
unfolding admitted answered
plain_answer_of p t size = answered (admitted p (length t)) (own_bytes p) t size

unfoldable pub plain_list_of : Pattern → List ℕ → List ℕ → List ℕ
unfolding plain_answer_of listed
plain_list_of p t lent = listed (plain_answer_of p t (length lent)) (own_bytes p) t lent
