-- The promises in plain terms. They follow from what the search answers and leaves (proofs/Promises).
use Rattle.std.specs.Prelude.{ℕ, ◌≤◌, ◌≡◌, List, length, take, drop, Result}
use Rattle.journal.specs.Journal.{journal_of}
use Rattle.pattern.specs.declared.Pattern.{Pattern}
use Rattle.refusal.specs.declared.Refusal.{Refusal}
use Rattle.rules.specs.Rules.{Compared}
use Rattle.rules.specs.Colussi.{colussi}
use Rattle.rules.specs.declared.Report.{Report}
use Rattle.search.specs.Answer.{answer_by, list_by}

-- With a journal that is long enough for the cap, the answer and the list are those of `colussi`.
abbrev pub AsWithout : Pattern → List ℕ → ℕ → ℕ → List ℕ → List ℕ → Result Report Refusal → Type 0
AsWithout p t cap room lent after r =
    cap ≤ room → (r ≡ answer_by colussi p t cap (length lent)) × (after ≡ list_by colussi p t cap lent)

-- The journal begins with an entry for each of the comparisons made, and past the count it is unchanged.
pub record Recorded (made : List Compared) (before after : List ℕ) (r : Report) : Type 0 where
  pub entries : take r.count after ≡ journal_of made
  pub rest : drop r.count after ≡ drop r.count before
