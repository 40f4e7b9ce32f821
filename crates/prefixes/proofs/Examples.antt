-- Prefix lengths and counts worked by hand, as one table under one claim, by computation. Assumes nothing.
use Prim.Native.Nat.{ℕ}
use mathlib.Core.Path.{◌≡◌, refl}
use mathlib.Core.List.{List, [], ◌∷◌, map}
use Rattle.prefixes.specs.Longest.{lengths}
use Rattle.prefixes.specs.CarriedOn.{comparisons}

abbrev a : ℕ
a = 97

abbrev b : ℕ
b = 98

abbrev aba : List ℕ
aba = a ∷ b ∷ a ∷ []

-- Of a pattern in a text, what the definitions give.
abbrev given : List ℕ × List ℕ → List ℕ × ℕ
given r = (lengths r.0 r.1, comparisons r.0 r.1)

-- aba in ababa, in ab, which is shorter, in aba and in nothing; ab in aaaa, which takes 2n - 1; aa in aaaa; aab in aaaab, whose last entry is
-- known to be 0; abab in ababa, which ends inside a window.
abbrev pub worked : List ((List ℕ × List ℕ) × (List ℕ × ℕ))
worked =
    ((aba, a ∷ b ∷ a ∷ b ∷ a ∷ []), (3 ∷ 0 ∷ 3 ∷ 0 ∷ 1 ∷ [], 5))
    ∷ ((aba, a ∷ b ∷ []), (2 ∷ 0 ∷ [], 2))
    ∷ ((aba, aba), (3 ∷ 0 ∷ 1 ∷ [], 3))
    ∷ ((aba, []), ([], 0))
    ∷ ((a ∷ b ∷ [], a ∷ a ∷ a ∷ a ∷ []), (1 ∷ 1 ∷ 1 ∷ 1 ∷ [], 7))
    ∷ ((a ∷ a ∷ [], a ∷ a ∷ a ∷ a ∷ []), (2 ∷ 2 ∷ 2 ∷ 1 ∷ [], 4))
    ∷ ((a ∷ a ∷ b ∷ [], a ∷ a ∷ a ∷ a ∷ b ∷ []), (2 ∷ 2 ∷ 3 ∷ 1 ∷ 0 ∷ [], 7))
    ∷ ((a ∷ b ∷ a ∷ b ∷ [], a ∷ b ∷ a ∷ b ∷ a ∷ []), (4 ∷ 0 ∷ 3 ∷ 0 ∷ 1 ∷ [], 5))
    ∷ []

pub as_worked : map (λ r. given r.0) worked ≡ map (λ r. r.1) worked
unfolding lengths comparisons
as_worked = refl
