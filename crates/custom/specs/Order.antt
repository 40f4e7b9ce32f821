-- Document 02's house order (C-20), a custom order here: an arrangement of the m places of a pattern. The place of rank i is its i-th entry.
use Rattle.std.specs.Prelude.{ℕ, ◌<◌, ◌≡◌, Bool, not, ◌&&◌, List, ltb, eqb, length, get_or}
use Rattle.words.specs.Numbers.{every}

-- The entries are m different places.
pub record Arrangement (m : ℕ) (order : List ℕ) : Type 0 where
  pub size : length order ≡ m
  pub inside : (i : ℕ) → i < m → get_or order i 0 < m
  pub apart : (i j : ℕ) → i < j → j < m → get_or order i 0 ≡ get_or order j 0 → ⊥

-- Entry i is a place, and none before it is the same.
unfoldable pub new_place : ℕ → List ℕ → ℕ → Bool
unfolding every
new_place m order i = ltb (get_or order i 0) m && every i λ j. not (eqb (get_or order j 0) (get_or order i 0))

-- So is each of the m entries, and there are no more: an arrangement, as a test.
unfoldable pub arranged : ℕ → List ℕ → Bool
unfolding every new_place
arranged m order = eqb (length order) m && every m (new_place m order)
