-- Document 02, C-21: what the search that writes a journal answers, and what it leaves in the lent list and journal, refusals included.
use Rattle.std.specs.Prelude.{ℕ, List, leb, length, Result, Ok, Err}
use Rattle.admission.specs.Admitted.{admitted, also_judged}
use Rattle.journal.specs.Journal.{written}
use Rattle.pattern.specs.Letters.{own_bytes, word_of, text_of}
use Rattle.pattern.specs.declared.Pattern.{Pattern}
use Rattle.refusal.specs.Tests.{Tested}
use Rattle.refusal.specs.declared.Refusal.{Refusal}
use Rattle.refusal.specs.declared.Refusal.TheVariants.{ShortJournal}
use Rattle.rules.specs.Rules.{End}
use Rattle.rules.specs.Colussi.{colussi}
use Rattle.rules.specs.declared.Report.{Report}
use Rattle.search.specs.Answer.{answered, listed}

-- Tests 4 and 5, and then 17: the journal has fewer entries than the cap allows comparisons.
unfoldable pub admitted_with : Pattern → ℕ → ℕ → ℕ → Tested
unfolding admitted also_judged
admitted_with p n cap room = also_judged (admitted p n) (leb cap room) ShortJournal

-- The journal afterwards: written from its start, and on a refusal as it was lent.
unfoldable pub recorded : Tested → End → List ℕ → List ℕ
unfolding written
recorded a search lent = elim a [ Ok u ↦ written search.last.made lent | Err why ↦ lent ]

-- The search for a pattern's letters in those of a text, with a list of a size and a journal of so much room.
unfoldable pub answer_of : Pattern → List ℕ → ℕ → ℕ → ℕ → Result Report Refusal
unfolding admitted_with word_of text_of colussi answered
answer_of p t cap size room = answered (word_of p) (admitted_with p (length t) cap room) (colussi (word_of p) (text_of p t) cap size)

unfoldable pub list_of : Pattern → List ℕ → ℕ → ℕ → List ℕ → List ℕ
unfolding admitted_with word_of text_of colussi listed
list_of p t cap room lent = listed (admitted_with p (length t) cap room) (colussi (word_of p) (text_of p t) cap (length lent)) lent

unfoldable pub journal_in : Pattern → List ℕ → ℕ → ℕ → List ℕ → List ℕ
unfolding admitted_with word_of text_of colussi recorded
journal_in p t cap size lent = recorded (admitted_with p (length t) cap (length lent)) (colussi (word_of p) (text_of p t) cap size) lent

-- The same for its bytes in a text's, which the classes return that give each value itself (C-19).
unfoldable pub plain_answer_of : Pattern → List ℕ → ℕ → ℕ → ℕ → Result Report Refusal
unfolding admitted_with colussi answered
plain_answer_of p t cap size room = answered (own_bytes p) (admitted_with p (length t) cap room) (colussi (own_bytes p) t cap size)

unfoldable pub plain_list_of : Pattern → List ℕ → ℕ → ℕ → List ℕ → List ℕ
unfolding admitted_with colussi listed
plain_list_of p t cap room lent = listed (admitted_with p (length t) cap room) (colussi (own_bytes p) t cap (length lent)) lent

unfoldable pub plain_journal_in : Pattern → List ℕ → ℕ → ℕ → List ℕ → List ℕ
unfolding admitted_with colussi recorded
plain_journal_in p t cap size lent = recorded (admitted_with p (length t) cap (length lent)) (colussi (own_bytes p) t cap size) lent
