-- Classes of bytes: document 02's sector chart (C-19). Two bytes count as equal when their classes are.
use Rattle.std.specs.Prelude.{ℕ, ◌+◌, ◌%◌, ◌≤◌, ◌<◌, ◌≡◌, true, false, ◌&&◌, List, ◌++◌, map, leb, eqb, length, get_or, drop}
use Rattle.words.specs.Numbers.{tabulate}
use Rattle.words.specs.Tables.{letter}

-- How many classes are lent: one for each byte value.
abbrev pub class_count : ℕ
class_count = 256

-- The class of a value is its entry. (No byte lies past the 256. A number that does keeps two laws free of a bound: through `identity` it is
-- itself, and it never has the class of 0.)
abbrev pub class_of : List ℕ → ℕ → ℕ
class_of classes v = get_or classes v (v + letter classes 0)

-- Bytes read through classes: each is replaced by its class.
unfoldable pub through : List ℕ → List ℕ → List ℕ
through classes w = map (class_of classes) w

-- A list with the letters of w at its start, if it has room for them and there are 256 classes.
unfoldable pub letters_in : List ℕ → List ℕ → List ℕ → List ℕ
unfolding through
letters_in w classes lent = elim (leb (length w) (length lent) && eqb (length classes) class_count) [
  | true ↦ through classes w ++ drop (length w) lent
  | false ↦ lent
]

-- The first n of the numbers 0 to 255, which begin again after the last.
unfoldable pub identity_in : ℕ → List ℕ
unfolding tabulate
identity_in n = tabulate n λ v. v % class_count

-- The classes that give each value itself.
unfoldable pub identity : List ℕ
unfolding identity_in
identity = identity_in class_count

-- In plain terms, that bytes w occur at b in a text t: each of them has the class of the text's byte at its place.
pub record OccursBy (classes w t : List ℕ) (b : ℕ) : Type 0 where
  pub inside : b + length w ≤ length t
  pub same : (p : ℕ) → p < length w → class_of classes (letter w p) ≡ class_of classes (letter t (b + p))
