-- Worked tables, by computation. Assumes nothing.
use Prim.Native.Nat.{ℕ}
use mathlib.Core.Path.{◌≡◌, refl}
use mathlib.Core.Bool.{false}
use mathlib.Core.List.{List, [], ◌∷◌, map}
use Rattle.words.specs.Tables.{hmax, nohole, noholes, order, shift, next}

-- The tables of a pattern, whose ranks up to m are listed beside it.
pub record Worked (w ranks : List ℕ) (d : ℕ) (orders shifts nexts : List ℕ) : Type 0 where
  pub noholes : noholes w ≡ d
  pub order : order w ≡ orders
  pub shift : map (shift w) ranks ≡ shifts
  pub next : map (next w) ranks ≡ nexts

-- Document 01: aba.
pub aba : Worked (97 ∷ 98 ∷ 97 ∷ []) (0 ∷ 1 ∷ 2 ∷ 3 ∷ []) 1 (1 ∷ 2 ∷ 0 ∷ []) (1 ∷ 3 ∷ 2 ∷ 2 ∷ []) (0 ∷ 0 ∷ 0 ∷ 0 ∷ [])
unfolding noholes order shift next
aba = record { noholes = refl; order = refl; shift = refl; next = refl }

-- The end of aba is no nohole, though hmax(2) and hmax(3) are 3: a nohole is a place of the pattern.
pub aba_end : nohole (97 ∷ 98 ∷ 97 ∷ []) 3 ≡ false
unfolding nohole
aba_end = refl

-- Document 01: aabaa.
pub aabaa :
    Worked (97 ∷ 97 ∷ 98 ∷ 97 ∷ 97 ∷ []) (0 ∷ 1 ∷ 2 ∷ 3 ∷ 4 ∷ 5 ∷ []) 1
    (2 ∷ 4 ∷ 3 ∷ 1 ∷ 0 ∷ [])
    (1 ∷ 5 ∷ 4 ∷ 3 ∷ 3 ∷ 3 ∷ [])
    (0 ∷ 0 ∷ 0 ∷ 0 ∷ 0 ∷ 0 ∷ [])
unfolding noholes order shift next
aabaa = record { noholes = refl; order = refl; shift = refl; next = refl }

-- Source document 000, section 4: aabacaacaab. Its table of imin is hmax, and its order ends in the sentinel, which is left out here.
pub aabacaacaab : List ℕ
aabacaacaab = 97 ∷ 97 ∷ 98 ∷ 97 ∷ 99 ∷ 97 ∷ 97 ∷ 99 ∷ 97 ∷ 97 ∷ 98 ∷ []

pub imin :
    map (hmax aabacaacaab) (1 ∷ 2 ∷ 3 ∷ 4 ∷ 5 ∷ 6 ∷ 7 ∷ 8 ∷ 9 ∷ 10 ∷ 11 ∷ [])
    ≡ 2 ∷ 2 ∷ 4 ∷ 4 ∷ 7 ∷ 7 ∷ 7 ∷ 11 ∷ 10 ∷ 10 ∷ 11 ∷ []
unfolding hmax aabacaacaab
imin = refl

pub imin_order : order aabacaacaab ≡ 2 ∷ 4 ∷ 7 ∷ 10 ∷ 9 ∷ 8 ∷ 6 ∷ 5 ∷ 3 ∷ 1 ∷ 0 ∷ []
unfolding order aabacaacaab
imin_order = refl
