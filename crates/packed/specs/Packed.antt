-- Document 02, C-17: a packed order of motifs, here a packed batch of patterns: for each a length byte and its bytes.
use Rattle.std.specs.Prelude.{ℕ, zero, suc, ◌≡◌, Bool, true, false, List, [], ◌∷◌, ◌++◌, Option, Some, None, length, take}

-- The patterns that begin once n bytes of an earlier one are passed.
unfoldable pub patterns_after : ℕ → List ℕ → List (List ℕ)
patterns_after zero [] = []
patterns_after zero (len ∷ rest) = take len rest ∷ patterns_after len rest
patterns_after (suc n) [] = []
patterns_after (suc n) (x ∷ rest) = patterns_after n rest

-- The n bytes that an earlier pattern still has are there, and no length byte after them promises more bytes than remain.
unfoldable pub whole_after : ℕ → List ℕ → Bool
whole_after zero [] = true
whole_after zero (len ∷ rest) = whole_after len rest
whole_after (suc n) [] = false
whole_after (suc n) (x ∷ rest) = whole_after n rest

-- The patterns of a packed batch, and whether it is whole.
unfoldable pub patterns : List ℕ → List (List ℕ)
unfolding patterns_after
patterns packed = patterns_after 0 packed

unfoldable pub whole : List ℕ → Bool
unfolding whole_after
whole packed = whole_after 0 packed

-- How many patterns there are, if it is whole.
unfoldable pub counted : List ℕ → Option ℕ
unfolding whole patterns
counted packed = elim (whole packed) [ true ↦ Some (length (patterns packed)) | false ↦ None ]

-- The other way round: patterns packed, each as its length and its bytes.
unfoldable pub packing : List (List ℕ) → List ℕ
packing [] = []
packing (w ∷ ws) = length w ∷ (w ++ packing ws)

-- In plain terms: these bytes are k patterns packed, which can be read from them in one way only.
pub record PackedFrom (packed : List ℕ) (k : ℕ) : Type 0 where
  pub number : length (patterns packed) ≡ k
  pub again : packing (patterns packed) ≡ packed
  pub only : (ws : List (List ℕ)) → packing ws ≡ packed → ws ≡ patterns packed

-- They are no patterns packed.
abbrev pub NotPacked : List ℕ → Type 0
NotPacked packed = (ws : List (List ℕ)) → packing ws ≡ packed → ⊥
