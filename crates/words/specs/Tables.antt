-- The tables of a pattern, as document 01 defines them in "The card and its tables". A pattern is a list of numbers w, its
-- length is document 01's m, and places and ranks count from 0. The names are those of Colussi (1991).
use Rattle.std.specs.Prelude.{ℕ, suc, ◌+◌, ◌-◌, Bool, true, false, not, ◌&&◌, List, ◌++◌, ltb, eqb, length, get_or}
use Rattle.words.specs.Numbers.{first, some, every, count, ascending, descending}

-- The letter at a place, and 0 past the end.
abbrev pub letter : List ℕ → ℕ → ℕ
letter w p = get_or w p 0

-- w has period k: every two letters k places apart are equal.
unfoldable pub period : List ℕ → ℕ → Bool
unfolding every
period w k = every (length w - k) λ p. eqb (letter w (p + k)) (letter w p)

-- hmax(k), for k from 1 to m: the first place p, from k up, where letter p differs from letter p - k; m if there is none.
unfoldable pub hmax : List ℕ → ℕ → ℕ
unfolding first
hmax w k = first k (length w) λ p. not (eqb (letter w p) (letter w (p - k)))

-- Place p, below m, is a nohole if some k from 1 to m has hmax(k) = p.
unfoldable pub nohole : List ℕ → ℕ → Bool
unfolding some hmax
nohole w p = ltb p (length w) && some 1 (suc (length w)) λ k. eqb (hmax w k) p

-- Every other place is a hole.
unfoldable pub hole : List ℕ → ℕ → Bool
unfolding nohole
hole w p = not (nohole w p)

-- kmin(p), for a nohole p: the least k from 1 to m with hmax(k) = p. (Where there is none it is m + 1.)
unfoldable pub kmin : List ℕ → ℕ → ℕ
unfolding first hmax
kmin w p = first 1 (suc (length w)) λ k. eqb (hmax w k) p

-- rmin(p), for a hole p: the least period greater than p.
unfoldable pub rmin : List ℕ → ℕ → ℕ
unfolding first period
rmin w p = first (suc p) (suc (length w)) (period w)

-- below(p): the number of noholes less than p.
unfoldable pub below : List ℕ → ℕ → ℕ
unfolding count nohole
below w p = count p (nohole w)

-- Document 01's d: the number of noholes.
unfoldable pub noholes : List ℕ → ℕ
unfolding below
noholes w = below w (length w)

-- The order: all noholes ascending, then all holes descending.
unfoldable pub order : List ℕ → List ℕ
unfolding ascending descending nohole hole
order w = ascending (length w) (nohole w) ++ descending (length w) (hole w)

-- The place of rank i: the i-th entry of the order.
unfoldable pub place : List ℕ → ℕ → ℕ
unfolding order
place w i = get_or (order w) i 0

-- The rank of place p: where it stands in the order.
unfoldable pub rank : List ℕ → ℕ → ℕ
unfolding first place
rank w p = first 0 (length w) λ i. eqb (place w i) p

-- shift(i): kmin of the rank's place for i less than d, rmin of it for i from d to m - 1, and rmin(0) for i = m.
unfoldable pub shift : List ℕ → ℕ → ℕ
unfolding noholes place kmin rmin
shift w i = elim (ltb i (noholes w)) [
  | true ↦ kmin w (place w i)
  | false ↦ elim (ltb i (length w)) [ true ↦ rmin w (place w i) | false ↦ rmin w 0 ]
]

-- next(i): below(p - kmin(p)), p the rank's place, for i less than d; below(m - shift(i)) for i from d to m.
unfoldable pub next : List ℕ → ℕ → ℕ
unfolding noholes place kmin below shift
next w i = elim (ltb i (noholes w)) [
  | true ↦ below w (place w i - kmin w (place w i))
  | false ↦ below w (length w - shift w i)
]
