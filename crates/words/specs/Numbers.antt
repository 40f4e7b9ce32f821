-- Numbers that pass a test: the first, whether some or all do, how many do, and which. And the values of a function as a list.
use Rattle.std.specs.Prelude.{ℕ, zero, suc, ◌+◌, ◌-◌, Bool, true, false, ◌&&◌, cond, List, [], ◌∷◌, ◌++◌, ltb}

-- The first of the n numbers from a on that passes q, and a + n where none does.
unfoldable pub first_of : ℕ → ℕ → (ℕ → Bool) → ℕ
first_of zero a q = a
first_of (suc n) a q = elim (q a) [ true ↦ a | false ↦ first_of n (suc a) q ]

-- The first number from a on and below b that passes q, and b where none does.
unfoldable pub first : ℕ → ℕ → (ℕ → Bool) → ℕ
unfolding first_of
first a b q = first_of (b - a) a q

-- Some number from a on and below b passes q.
unfoldable pub some : ℕ → ℕ → (ℕ → Bool) → Bool
unfolding first
some a b q = ltb (first a b q) b

-- Every number below n passes q.
unfoldable pub every : ℕ → (ℕ → Bool) → Bool
every zero q = true
every (suc n) q = q n && every n q

-- How many numbers below n pass q.
unfoldable pub count : ℕ → (ℕ → Bool) → ℕ
count zero q = 0
count (suc n) q = cond (q n) 1 0 + count n q

-- The numbers below n that pass q, ascending.
unfoldable pub ascending : ℕ → (ℕ → Bool) → List ℕ
ascending zero q = []
ascending (suc n) q = elim (q n) [ true ↦ ascending n q ++ (n ∷ []) | false ↦ ascending n q ]

-- The numbers below n that pass q, descending.
unfoldable pub descending : ℕ → (ℕ → Bool) → List ℕ
descending zero q = []
descending (suc n) q = elim (q n) [ true ↦ n ∷ descending n q | false ↦ descending n q ]

-- f 0, f 1, .., f (n - 1).
unfoldable pub tabulate : ℕ → (ℕ → ℕ) → List ℕ
tabulate zero f = []
tabulate (suc n) f = tabulate n f ++ (f n ∷ [])
