-- Document 02, C-21: what the replay of a journal answers, and what it leaves in the lent list, refusals included.
use Rattle.std.specs.Prelude.{ℕ, List, length, Result}
use Rattle.admission.specs.Admitted.{admitted, also_judged}
use Rattle.journal.specs.Replay.{replayed, accepted}
use Rattle.pattern.specs.Letters.{own_bytes, word_of}
use Rattle.pattern.specs.declared.Pattern.{Pattern}
use Rattle.refusal.specs.Tests.{Tested}
use Rattle.refusal.specs.declared.Refusal.{Refusal}
use Rattle.refusal.specs.declared.Refusal.TheVariants.{FalseJournal}
use Rattle.rules.specs.declared.Report.{Report}
use Rattle.search.specs.Answer.{answered, listed}

-- Tests 4 and 5, of a pattern and a text of n bytes, and then 18, of a journal for its letters w and a list of a size.
unfoldable pub admitted_by : Pattern → ℕ → List ℕ → List ℕ → ℕ → Tested
unfolding admitted accepted also_judged
admitted_by p n w journal size = also_judged (admitted p n) (accepted w n journal size) FalseJournal

-- The replay for a pattern's letters.
unfoldable pub answer_of : Pattern → ℕ → List ℕ → ℕ → Result Report Refusal
unfolding word_of admitted_by replayed answered
answer_of p n journal size = answered (word_of p) (admitted_by p n (word_of p) journal size) (replayed (word_of p) n journal size)

unfoldable pub list_of : Pattern → ℕ → List ℕ → List ℕ → List ℕ
unfolding word_of admitted_by replayed listed
list_of p n journal lent = listed (admitted_by p n (word_of p) journal (length lent)) (replayed (word_of p) n journal (length lent)) lent

-- The same for its bytes, which the classes return that give each value itself (C-19).
unfoldable pub plain_answer_of : Pattern → ℕ → List ℕ → ℕ → Result Report Refusal
unfolding admitted_by replayed answered
plain_answer_of p n journal size = answered (own_bytes p) (admitted_by p n (own_bytes p) journal size) (replayed (own_bytes p) n journal size)

unfoldable pub plain_list_of : Pattern → ℕ → List ℕ → List ℕ → List ℕ
unfolding admitted_by replayed listed
plain_list_of p n journal lent = listed (admitted_by p n (own_bytes p) journal (length lent)) (replayed (own_bytes p) n journal (length lent)) lent
