-- Document 02, C-20: what the search in a custom order answers, and what it leaves in the lent list, refusals included.
use Rattle.std.specs.Prelude.{ℕ, Bool, List, leb, length, Result, Err}
use Rattle.admission.specs.Admitted.{longest_text}
use Rattle.checked.specs.Check.{is_prepared}
use Rattle.custom.specs.Order.{arranged}
use Rattle.custom.specs.Custom.{custom}
use Rattle.pattern.specs.Letters.{own_bytes, word_of, text_of}
use Rattle.pattern.specs.declared.Pattern.{Pattern}
use Rattle.refusal.specs.Tests.{Tested, passed}
use Rattle.refusal.specs.Unless.{unless}
use Rattle.refusal.specs.declared.Refusal.{Refusal}
use Rattle.refusal.specs.declared.Refusal.TheVariants.{FalsePattern, FalseOrder, LongText}
use Rattle.rules.specs.declared.Report.{Report}
use Rattle.search.specs.Answer.{answered, listed}

-- Tests 4, 16 and 5, in that order, of whether a pattern of m bytes is prepared, of an order of its places and of a text of n bytes.
unfoldable pub judged : Bool → ℕ → List ℕ → ℕ → Tested
unfolding arranged
judged prepared m order n =
    unless prepared (Err FalsePattern) (unless (arranged m order) (Err FalseOrder) (unless (leb n longest_text) (Err LongText) passed))

-- The answer to a pattern, an order and a text of n bytes.
unfoldable pub admitted_in : List ℕ → Pattern → ℕ → Tested
unfolding is_prepared judged
admitted_in order p n = judged (is_prepared p) p.len order n

-- The search for a pattern's letters in those of a text.
unfoldable pub answer_of : Pattern → List ℕ → List ℕ → ℕ → ℕ → Result Report Refusal
unfolding admitted_in word_of text_of custom answered
answer_of p order t cap size = answered (word_of p) (admitted_in order p (length t)) (custom order (word_of p) (text_of p t) cap size)

unfoldable pub list_of : Pattern → List ℕ → List ℕ → ℕ → List ℕ → List ℕ
unfolding admitted_in word_of text_of custom listed
list_of p order t cap lent = listed (admitted_in order p (length t)) (custom order (word_of p) (text_of p t) cap (length lent)) lent

-- The same for its bytes in a text's, which the classes return that give each value itself (C-19).
unfoldable pub plain_answer_of : Pattern → List ℕ → List ℕ → ℕ → ℕ → Result Report Refusal
unfolding admitted_in custom answered
plain_answer_of p order t cap size = answered (own_bytes p) (admitted_in order p (length t)) (custom order (own_bytes p) t cap size)

unfoldable pub plain_list_of : Pattern → List ℕ → List ℕ → ℕ → List ℕ → List ℕ
unfolding admitted_in custom listed
plain_list_of p order t cap lent = listed (admitted_in order p (length t)) (custom order (own_bytes p) t cap (length lent)) lent
