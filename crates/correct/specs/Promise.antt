-- The promises in plain terms. They follow from what a correction answers and leaves (proofs/Promises).
use Rattle.std.specs.Prelude.{ℕ, ◌≡◌, ◌↔◌, List, length}
use Rattle.classes.specs.Classes.{OccursBy}
use Rattle.lists.specs.Lists.{Listed}
use Rattle.pattern.specs.Letters.{word_of, text_of}
use Rattle.pattern.specs.declared.Pattern.{Pattern}
use Rattle.rules.specs.Occurs.{CoversNo, occurrences}
use Rattle.update.specs.Promise.{Covers, DifferAtMost}

-- In terms of bytes, of which two count as equal when their classes are: of the windows that cover the place, listed are exactly those where the
-- bytes w so occur in the text t.
abbrev pub CoveredBy : List ℕ → List ℕ → List ℕ → ℕ → List ℕ → Type 0
CoveredBy classes w t place entries = (b : ℕ) → Covers (length w) (length t) place b → Listed entries b ↔ OccursBy classes w t b

-- If the entries in use were all positions in a text that differs from t at most at the place, they are all positions in t.
abbrev pub StaysFull : Pattern → List ℕ → ℕ → List ℕ → List ℕ → Type 0
StaysFull p t place before after = (old : List ℕ) → DifferAtMost place old t → before ≡ occurrences (word_of p) (text_of p old)
    → after ≡ occurrences (word_of p) (text_of p t)

-- Document 02, C-13: no window listed that covers the place, of m bytes, covers a byte 0 of the text t.
abbrev pub NoZeroNear : ℕ → List ℕ → ℕ → List ℕ → Type 0
NoZeroNear m t place entries = (b : ℕ) → Covers m (length t) place b → Listed entries b → CoversNo 0 m t b
