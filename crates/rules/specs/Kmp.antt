-- The search by Knuth, Morris and Pratt: the same rules, by another plan. A rank is document 01's matched length, the letters are compared
-- from left to right, and no edge is known.
use Rattle.std.specs.Prelude.{ℕ, suc, ◌-◌, true, false, List, ltb, length}
use Rattle.words.specs.Tables.{nohole, kmin, rmin}
use Rattle.rules.specs.Rules.{Plan, Search, text_source, search}

-- On a mismatch at i the shift is kmin(i) if i is a nohole, else i + 1; after an occurrence it is rmin(0), from i = m.
unfoldable pub kmp_shift : List ℕ → ℕ → ℕ
unfolding nohole kmin rmin
kmp_shift w i = elim (ltb i (length w)) [
  | true ↦ elim (nohole w i) [ true ↦ kmin w i | false ↦ suc i ]
  | false ↦ rmin w 0
]

-- The new matched length is the old less the shift, never below 0. The known edge never moves from 0: no rank is above m.
abbrev pub kmp_plan : List ℕ → Plan
kmp_plan w = record {
  m = length w;
  place = λ i. i;
  shift = kmp_shift w;
  next = λ i. i - kmp_shift w i;
  edge_from = suc (length w);
}

unfoldable pub kmp : Search
unfolding search kmp_shift
kmp w t cap size = search (kmp_plan w) (text_source w t) cap size
