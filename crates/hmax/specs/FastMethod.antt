-- Algorithm 7 of source document 003 (Colussi 1991), document 02's fast method, which builds hmax. Its lines are quoted above the definitions
-- that follow them; its comparisons of two letters are kept as a list.
--
-- The method sets a sentinel after the last letter, at which its first loop ends. Here that loop ends where no letter is left: the look at the
-- sentinel is not a comparison of two letters.
use Rattle.std.specs.Prelude.{ℕ, zero, suc, ◌+◌, ◌-◌, ◌*◌, ◌≤◌, ◌≡◌, true, false, List, [], ◌∷◌, ◌++◌, eqb, ltb, leb, length, get_or}
use Rattle.words.specs.Tables.{letter}

-- A comparison of the letters at two places.
pub record Pair : Type 0 where
  pub place : ℕ
  pub earlier : ℕ

-- The method's k and i; what it has stored of hmax, up to the entry before its q; and the comparisons made, the latest first. Entry 0, which the
-- method does not have, is m.
pub record State : Type 0 where
  pub k : ℕ
  pub i : ℕ
  pub table : List ℕ
  pub made : List Pair

-- k := 1; i := k
unfoldable pub start : List ℕ → State
start w = record { k = 1; i = 1; table = length w ∷ []; made = [] }

-- w[i] and w[i - k] are compared.
unfoldable pub compare : State → State
compare s = record { k = s.k; i = s.i; table = s.table; made = record { place = s.i; earlier = s.i - s.k } ∷ s.made }

-- i := i + 1
unfoldable pub further : State → State
further s = record { k = s.k; i = suc s.i; table = s.table; made = s.made }

-- while w[i] = w[i - k] do i := i + 1, with n letters left from i on.
unfoldable pub extend : List ℕ → ℕ → State → State
unfolding compare further
extend w zero s = s
extend w (suc n) s = elim (eqb (letter w s.i) (letter w (s.i - s.k))) [
  | true ↦ extend w n (further (compare s))
  | false ↦ compare s
]

-- hmax[q] := v; q := q + 1
unfoldable pub store : ℕ → State → State
store v s = record { k = s.k; i = s.i; table = s.table ++ (v ∷ []); made = s.made }

-- hmax[q - k] + k
unfoldable pub derived : State → ℕ
derived s = get_or s.table (length s.table - s.k) 0 + s.k

-- while hmax[q - k] + k < i do begin hmax[q] := hmax[q - k] + k; q := q + 1 end, at most n times.
unfoldable pub derive : ℕ → State → State
unfolding derived store
derive zero s = s
derive (suc n) s = elim (ltb (derived s) s.i) [ true ↦ derive n (store (derived s) s) | false ↦ s ]

-- k := q; if k = i + 1 then i := k
unfoldable pub advance : State → State
advance s =
    let q = length s.table in
    record { k = q; i = elim (eqb q (suc s.i)) [ true ↦ q | false ↦ s.i ]; table = s.table; made = s.made }

-- The body of the main loop, with hmax[k] := i; q := k + 1 between the two loops in it. (The second ends with q = i + 1 at the latest.)
unfoldable pub turn : List ℕ → State → State
unfolding extend derive store advance
turn w s =
    let e = extend w (length w - s.i) s in
    advance (derive (e.i - e.k) (store e.i e))

-- repeat .. until k > m, at most n times. (A pattern has a letter, so the body runs at least once.)
unfoldable pub turns : List ℕ → ℕ → State → State
unfolding turn
turns w zero s = s
turns w (suc n) s = elim (leb s.k (length w)) [ true ↦ turns w n (turn w s) | false ↦ s ]

-- The whole method. (Each turn brings k up, so m of them are enough.)
unfoldable pub run : List ℕ → State
unfolding turns start
run w = turns w (length w) (start w)

-- The number of its comparisons of two letters.
unfoldable pub comparisons : List ℕ → ℕ
unfolding run
comparisons w = length (run w).made

-- In plain terms, how few there are where a pattern has m letters: at most 2m - 2, as the request asks; and none of one letter, and at most
-- 2m - 3 of two or more.
pub record FewCompared (m compared : ℕ) : Type 0 where
  pub asked : 1 ≤ m → compared + 2 ≤ 2 * m
  pub alone : m ≤ 1 → compared ≡ 0
  pub sharper : 2 ≤ m → compared + 3 ≤ 2 * m
