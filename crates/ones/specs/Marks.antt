-- Marks as bits of four words, and how many of them lie below a place.
use Rattle.std.specs.Prelude.{ℕ, zero, suc, ◌+◌, ◌/◌, ◌%◌, ◌^◌, Bool, true, false, ◌&&◌, List, [], ◌∷◌, ltb, eqb, get_or}
use Rattle.std.specs.Int.Count.{ones}

-- Place p, of the 256, is marked: bit p mod 64 of word p div 64 is set.
unfoldable pub marked : List ℕ → ℕ → Bool
marked marks p = ltb p 256 && eqb (get_or marks (p / 64) 0 / 2 ^ (p % 64) % 2) 1

-- The ones among the n lowest bits of a word.
unfoldable pub low_ones : ℕ → ℕ → ℕ
unfolding ones
low_ones word n = ones (word % 2 ^ n)

-- The ones of the first i words.
unfoldable pub ones_of : List ℕ → ℕ → ℕ
unfolding low_ones
ones_of marks zero = 0
ones_of marks (suc i) = ones_of marks i + low_ones (get_or marks i 0) 64

-- The ones of the first 0, 1, 2, 3 and 4 words.
unfoldable pub whole_words : List ℕ → List ℕ
unfolding ones_of
whole_words marks = ones_of marks 0 ∷ ones_of marks 1 ∷ ones_of marks 2 ∷ ones_of marks 3 ∷ ones_of marks 4 ∷ []

-- Document 01's form: ones of the whole words below p, which the list `whole` gives, plus ones of the last word's remainder below p. Past the
-- last place no word is left over.
unfoldable pub ones_below : List ℕ → List ℕ → ℕ → ℕ
unfolding low_ones
ones_below marks whole p = elim (ltb p 256) [
  | true ↦ get_or whole (p / 64) 0 + low_ones (get_or marks (p / 64) 0) (p % 64)
  | false ↦ get_or whole 4 0
]
