-- What the scanning functions of Colussi's search promise, over lent tables: the pattern w is the first m of the letters.
use Rattle.std.specs.Prelude.{ℕ, ◌+◌, ◌≤◌, ◌<◌, ◌≡◌, ◌⊎◌, Bool, true, false, List, ltb, length, get_or, take}
use Rattle.words.specs.Tables.{noholes, place, shift, next}
use Rattle.pattern.specs.declared.Pattern.{Pattern}

-- The pattern's letters and its order.
pub record LentOrder (letters order : List ℕ) (m d : ℕ) : Type 0 where
  pub some : 1 ≤ m
  pub short : m ≤ 256
  pub length_letters : m ≤ length letters
  pub length_order : m ≤ length order
  pub noholes : d ≡ noholes (take m letters)
  pub place_at : (i : ℕ) → i < m → get_or order i 0 ≡ place (take m letters) i

-- Its shifts and next ranks.
pub record LentMoves (letters shifts nexts : List ℕ) (m : ℕ) : Type 0 where
  pub length_shifts : m < length shifts
  pub length_nexts : m < length nexts
  pub shift_at : (i : ℕ) → i ≤ m → get_or shifts i 0 ≡ shift (take m letters) i
  pub next_at : (i : ℕ) → i ≤ m → get_or nexts i 0 ≡ next (take m letters) i

-- A scan is lent the letters of a pattern p, and its tables.
pub record Lent (letters : List ℕ) (p : Pattern) : Type 0 where
  pub order : LentOrder letters p.order p.len p.noholes
  pub moves : LentMoves letters p.shift p.next p.len

-- A test tells whether rank i is below m and its place in window b is not left of the known edge.
pub record DueAt (order : List ℕ) (m b i e : ℕ) (r : Bool) : Type 0 where
  pub yes : r ≡ true → (i < m) × (e ≤ b + get_or order i 0)
  pub no : r ≡ false → (m ≤ i) ⊎ ((i < m) × (b + get_or order i 0 < e))

-- The known edge once window b is left with a rank.
unfoldable pub edge_after_rank : ℕ → ℕ → ℕ → ℕ → ℕ → ℕ
edge_after_rank m d b rank e = elim (ltb rank d) [ true ↦ e | false ↦ b + m ]
