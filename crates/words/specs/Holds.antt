-- Whether a letter is one of a word's.
use Rattle.std.specs.Prelude.{ℕ, ◌<◌, ◌≡◌, Bool, false, ◌||◌, List, [], ◌∷◌, eqb, length}
use Rattle.words.specs.Tables.{letter}

-- z is one of the letters of w.
unfoldable pub holds : ℕ → List ℕ → Bool
holds z [] = false
holds z (x ∷ w) = eqb x z || holds z w

-- In plain terms that it is none of them: z stands at no place of w.
abbrev pub Lacks : ℕ → List ℕ → Type 0
Lacks z w = (p : ℕ) → p < length w → letter w p ≡ z → ⊥
