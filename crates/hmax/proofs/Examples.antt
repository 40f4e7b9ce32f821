-- The fast method run on small patterns, by computation. The numbers and the pairs were first worked by hand. Assumes nothing.
use mathlib.Core.Path.{◌≡◌, refl}
use mathlib.Core.List.{[], ◌∷◌}
use Rattle.hmax.specs.FastMethod.{run, comparisons}

-- aba: k = 1 compares 1 with 0, which differ; k = 2 compares 2 with 0, which agree, and meets the end.
pub aba_made : (run (97 ∷ 98 ∷ 97 ∷ [])).made ≡ record { place = 2; earlier = 0 } ∷ record { place = 1; earlier = 0 } ∷ []
unfolding run
aba_made = refl

-- Source document 000, section 4: aabacaacaab, whose table of imin is hmax.
pub aabacaacaab-table :
    (run (97 ∷ 97 ∷ 98 ∷ 97 ∷ 99 ∷ 97 ∷ 97 ∷ 99 ∷ 97 ∷ 97 ∷ 98 ∷ [])).table
    ≡ 11 ∷ 2 ∷ 2 ∷ 4 ∷ 4 ∷ 7 ∷ 7 ∷ 7 ∷ 11 ∷ 10 ∷ 10 ∷ 11 ∷ []
unfolding run
aabacaacaab-table = refl

pub a : comparisons (97 ∷ []) ≡ 0
unfolding comparisons
a = refl

pub aa : comparisons (97 ∷ 97 ∷ []) ≡ 1
unfolding comparisons
aa = refl

pub ab : comparisons (97 ∷ 98 ∷ []) ≡ 1
unfolding comparisons
ab = refl

pub aba : comparisons (97 ∷ 98 ∷ 97 ∷ []) ≡ 2
unfolding comparisons
aba = refl

-- 2m - 3 is reached.
pub aab : comparisons (97 ∷ 97 ∷ 98 ∷ []) ≡ 3
unfolding comparisons
aab = refl

-- The entry of 3 is derived, which saves a comparison.
pub ababc : comparisons (97 ∷ 98 ∷ 97 ∷ 98 ∷ 99 ∷ []) ≡ 5
unfolding comparisons
ababc = refl

pub aabaa : comparisons (97 ∷ 97 ∷ 98 ∷ 97 ∷ 97 ∷ []) ≡ 5
unfolding comparisons
aabaa = refl

pub aabacaacaab : comparisons (97 ∷ 97 ∷ 98 ∷ 97 ∷ 99 ∷ 97 ∷ 97 ∷ 99 ∷ 97 ∷ 97 ∷ 98 ∷ []) ≡ 14
unfolding comparisons
aabacaacaab = refl
