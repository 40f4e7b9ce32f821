-- The promises of a replay in plain terms. They follow from what it answers and leaves (proofs/Promises).
use Rattle.std.specs.Prelude.{ℕ, ◌≡◌, List, length, Result, Err}
use Rattle.journal.specs.Journal.{journal_of}
use Rattle.journal.specs.Replay.{replayed}
use Rattle.pattern.specs.Letters.{word_of, text_of}
use Rattle.pattern.specs.declared.Pattern.{Pattern}
use Rattle.refusal.specs.declared.Refusal.{Refusal}
use Rattle.refusal.specs.declared.Refusal.TheVariants.{FalseJournal}
use Rattle.rules.specs.Rules.{text_source}
use Rattle.rules.specs.Answered.{Answered}
use Rattle.rules.specs.Colussi.{colussi}
use Rattle.rules.specs.declared.Report.{Report}
use Rattle.search.specs.Answer.{answer_by, list_by}

-- The request's words: unless the journal is refused, report and list are those that the search, capped at the journal's length, gives with that list
-- on any text of n bytes that answers those comparisons so.
abbrev pub OnAnyText : Pattern → ℕ → List ℕ → List ℕ → List ℕ → Result Report Refusal → Type 0
OnAnyText p n journal lent after r = (t : List ℕ) → length t ≡ n
    → Answered (text_source (word_of p) (text_of p t)) (replayed (word_of p) n journal (length lent)).last.made
    → (r ≡ Err FalseJournal → ⊥)
    → (r ≡ answer_by colussi p t (length journal) (length lent)) × (after ≡ list_by colussi p t (length journal) lent)

-- The journal that a search of n bytes writes, whatever its cap, is replayed to its answer and its list.
abbrev pub GivesBack : Pattern → ℕ → List ℕ → List ℕ → List ℕ → Result Report Refusal → Type 0
GivesBack p n journal lent after r = (t : List ℕ) (cap : ℕ) → length t ≡ n
    → journal ≡ journal_of (colussi (word_of p) (text_of p t) cap (length lent)).last.made
    → (r ≡ answer_by colussi p t cap (length lent)) × (after ≡ list_by colussi p t cap lent)

-- Every entry is one of the comparisons that the replay makes, and each of these has its entry.
pub record Whole (w : List ℕ) (n : ℕ) (journal : List ℕ) (size : ℕ) (r : Report) : Type 0 where
  pub count : r.count ≡ length journal
  pub entries : journal_of (replayed w n journal size).last.made ≡ journal
