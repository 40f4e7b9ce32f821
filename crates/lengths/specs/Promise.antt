-- The promises in the words of document 02, C-14. Two bytes count as equal when their classes are.
use Rattle.std.specs.Prelude.{ℕ, ◌+◌, ◌≤◌, ◌<◌, ◌≡◌, ◌↔◌, List, length, get_or}
use Rattle.words.specs.Tables.{letter}
use Rattle.classes.specs.Classes.{class_of, OccursBy}

-- The first r bytes of w stand at position x of the text t, and no more: what comes next differs, if w and the text have a byte more.
pub record LongestBy (classes w t : List ℕ) (x r : ℕ) : Type 0 where
  pub upto : r ≤ length w
  pub inside : x + r ≤ length t
  pub same : (p : ℕ) → p < r → class_of classes (letter w p) ≡ class_of classes (letter t (x + p))
  pub ends : r < length w → x + r < length t → class_of classes (letter w r) ≡ class_of classes (letter t (x + r)) → ⊥

-- Each of the n first entries of a list is the length of the longest prefix at its position.
abbrev pub EachLongest : List ℕ → List ℕ → List ℕ → List ℕ → Type 0
EachLongest classes w t list = (x : ℕ) → x < length t → LongestBy classes w t x (get_or list x 0)

-- An entry is m exactly where the pattern occurs, and exactly where its position stands in the full list of them.
pub record WholeWhere (classes w t full list : List ℕ) : Type 0 where
  pub occurs : (x : ℕ) → x < length t → (get_or list x 0 ≡ length w) ↔ OccursBy classes w t x
  pub stands : (x : ℕ) → x < length t → (get_or list x 0 ≡ length w) ↔ ((i : ℕ) × (i < length full) × (get_or full i 0 ≡ x))
