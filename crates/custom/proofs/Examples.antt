-- Searches in custom orders worked by hand, as one table under one claim, by computation. Assumes nothing.
use Prim.Native.Nat.{ℕ}
use mathlib.Core.Path.{◌≡◌, refl}
use mathlib.Core.Bool.{true, false}
use mathlib.Core.List.{List, [], ◌∷◌, map}
use lib.ListN.{length}
use Rattle.words.specs.Numbers.{tabulate}
use Rattle.rules.specs.Kmp.{kmp}
use Rattle.rules.specs.declared.Ending.{Ending}
use Rattle.rules.specs.declared.Ending.TheVariants.{Done, Spent, Full}
use Rattle.custom.specs.Order.{arranged}
use Rattle.custom.specs.Custom.{custom_shift, custom}

abbrev a : ℕ
a = 97

abbrev b : ℕ
b = 98

abbrev ab : List ℕ
ab = a ∷ b ∷ []

abbrev aab : List ℕ
aab = a ∷ a ∷ b ∷ []

abbrev aba : List ℕ
aba = a ∷ b ∷ a ∷ []

abbrev aaaa : List ℕ
aaaa = a ∷ a ∷ a ∷ a ∷ []

abbrev aaaab : List ℕ
aaaab = a ∷ a ∷ a ∷ a ∷ b ∷ []

abbrev ababa : List ℕ
ababa = a ∷ b ∷ a ∷ b ∷ a ∷ []

-- An order, a pattern, a text, a cap and a list's size; and how the search ends, its count and its positions.
pub record Worked : Type 0 where
  pub order : List ℕ
  pub pattern : List ℕ
  pub text : List ℕ
  pub cap : ℕ
  pub size : ℕ
  pub ending : Ending
  pub count : ℕ
  pub positions : List ℕ

abbrev row : List ℕ → List ℕ → List ℕ → ℕ → ℕ → Ending → ℕ → List ℕ → Worked
row o w t c s e n f = record { order = o; pattern = w; text = t; cap = c; size = s; ending = e; count = n; positions = f }

abbrev left_to_right : ℕ → List ℕ
left_to_right m = tabulate m (λ i. i)

-- From left to right aab in aaaab takes three comparisons in each of its three windows, where KMP, which remembers, takes 7. Of aba in ababa the
-- order 2, 0, 1 compares 2, 0, 1 in the windows 0 and 2. Of ab in aaaa place 1 misses in each of the three windows, and place 0 matches first in
-- each of them. The last rows are cut off: where the cap is spent with a comparison due, and not before, and where the list is full.
abbrev pub worked : List Worked
worked =
    row (left_to_right 3) aab aaaab 99 9 Done 9 (2 ∷ [])
    ∷ row (2 ∷ 1 ∷ 0 ∷ []) aab aaaab 99 9 Done 5 (2 ∷ [])
    ∷ row (2 ∷ 0 ∷ 1 ∷ []) aba ababa 99 9 Done 6 (0 ∷ 2 ∷ [])
    ∷ row (1 ∷ 2 ∷ 0 ∷ []) aba ababa 99 9 Done 6 (0 ∷ 2 ∷ [])
    ∷ row (left_to_right 2) ab aaaa 99 9 Done 6 []
    ∷ row (1 ∷ 0 ∷ []) ab aaaa 99 9 Done 3 []
    ∷ row (2 ∷ 0 ∷ 1 ∷ []) aba ababa 3 9 (Spent 2) 3 (0 ∷ [])
    ∷ row (2 ∷ 0 ∷ 1 ∷ []) aba ababa 5 9 (Spent 2) 5 (0 ∷ [])
    ∷ row (2 ∷ 0 ∷ 1 ∷ []) aba ababa 6 9 Done 6 (0 ∷ 2 ∷ [])
    ∷ row (2 ∷ 0 ∷ 1 ∷ []) aba ababa 99 1 (Full 2) 6 (0 ∷ [])
    ∷ row (0 ∷ []) (a ∷ []) ab 99 9 Done 2 (0 ∷ [])
    ∷ row (2 ∷ 0 ∷ 1 ∷ []) aba ab 0 0 Done 0 []
    ∷ []

-- What the definitions give.
abbrev given : Worked → Worked
given r =
    let s = custom r.order r.pattern r.text r.cap r.size in
    row r.order r.pattern r.text r.cap r.size s.ending (length s.last.made) s.last.found

pub as_worked : map given worked ≡ worked
unfolding custom tabulate
as_worked = refl

-- The shifts of three orders, rank by rank and after an occurrence; KMP's count; and which orders of three places there are.
abbrev shifts : List ℕ → List ℕ → List ℕ
shifts w order = tabulate 4 (custom_shift w order)

pub others_as_worked : (shifts aba (2 ∷ 0 ∷ 1 ∷ []) ≡ 1 ∷ 2 ∷ 2 ∷ 2 ∷ [])
    × (shifts aab (left_to_right 3) ≡ 1 ∷ 2 ∷ 1 ∷ 3 ∷ [])
    × (shifts aab (2 ∷ 1 ∷ 0 ∷ []) ≡ 1 ∷ 3 ∷ 3 ∷ 3 ∷ [])
    × (length (kmp aab aaaab 99 9).last.made ≡ 7)
    × (map (arranged 3) ((2 ∷ 0 ∷ 1 ∷ []) ∷ (2 ∷ 0 ∷ []) ∷ (2 ∷ 0 ∷ 1 ∷ 0 ∷ []) ∷ (2 ∷ 0 ∷ 2 ∷ []) ∷ (2 ∷ 0 ∷ 3 ∷ []) ∷ [])
    ≡ true ∷ false ∷ false ∷ false ∷ false ∷ [])
unfolding custom_shift tabulate kmp arranged
others_as_worked = (refl, refl, refl, refl, refl)
