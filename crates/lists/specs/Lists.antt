-- Lists of numbers that ascend.
use Rattle.std.specs.Prelude.{ℕ, suc, ◌+◌, ◌-◌, ◌≤◌, ◌<◌, ◌≡◌, Bool, true, false, ◌&&◌, List, [], ◌∷◌, map, ltb, leb, length, get_or, take}
use Rattle.words.specs.Numbers.{every}

-- x is an entry.
abbrev pub Listed : List ℕ → ℕ → Type 0
Listed l x = (i : ℕ) × (i < length l) × (get_or l i 0 ≡ x)

-- Strictly ascending: each entry is below every later one.
abbrev pub Ascending : List ℕ → Type 0
Ascending l = (i j : ℕ) → i < j → j < length l → get_or l i 0 < get_or l j 0

-- The same as a test of neighbours.
unfoldable pub ascends : List ℕ → Bool
unfolding every
ascends l = every (length l - 1) λ i. ltb (get_or l i 0) (get_or l (suc i) 0)

-- A list has so many entries as are in use, and these ascend.
abbrev pub in_order : List ℕ → ℕ → Bool
in_order list used = leb used (length list) && ascends (take used list)

-- The entries that pass a test, in their order.
unfoldable pub keep : (ℕ → Bool) → List ℕ → List ℕ
keep q [] = []
keep q (x ∷ l) = elim (q x) [ true ↦ x ∷ keep q l | false ↦ keep q l ]

-- A number put before the first entry that is greater, or at the end.
unfoldable pub insert : ℕ → List ℕ → List ℕ
insert x [] = x ∷ []
insert x (y ∷ l) = elim (ltb x y) [ true ↦ x ∷ y ∷ l | false ↦ y ∷ insert x l ]

-- Each number of a list put so into another.
unfoldable pub merged : List ℕ → List ℕ → List ℕ
unfolding insert
merged [] l = l
merged (x ∷ new) l = insert x (merged new l)

-- Every entry moved by a start.
abbrev pub moved : ℕ → List ℕ → List ℕ
moved start l = map (λ x. start + x) l

-- The first k entries are those below a bound.
pub record Splits (l : List ℕ) (bound k : ℕ) : Type 0 where
  pub inside : k ≤ length l
  pub below : (i : ℕ) → i < k → get_or l i 0 < bound
  pub from : (i : ℕ) → k ≤ i → i < length l → bound ≤ get_or l i 0
