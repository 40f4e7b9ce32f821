-- Worked corrections, by computation from the definitions: the pattern aba, a text, a place, and the entries before and after. Assumes nothing.
use Prim.Native.Nat.{ℕ}
use mathlib.Core.Path.{◌≡◌, refl}
use mathlib.Core.List.{List, [], ◌∷◌}
use Rattle.update.specs.Update.{updated}

aba : List ℕ
aba = 97 ∷ 98 ∷ 97 ∷ []

-- ababa.
ababa : List ℕ
ababa = 97 ∷ 98 ∷ 97 ∷ 98 ∷ 97 ∷ []

-- abaaa becomes ababa: position 2 is found.
gained : updated aba ababa 3 (0 ∷ []) ≡ 0 ∷ 2 ∷ []
unfolding updated aba ababa
gained = refl

-- ababa becomes abbba: both are lost. The entry 4, whose window would pass the end, and 9, at no window, are kept.
lost : updated aba (97 ∷ 98 ∷ 98 ∷ 98 ∷ 97 ∷ []) 2 (0 ∷ 2 ∷ 4 ∷ 9 ∷ []) ≡ 4 ∷ 9 ∷ []
unfolding updated aba
lost = refl

-- A wrong list, corrected at place 0: only window 0 covers it. The wrong entry 1 is kept, and the missing 2 stays missing.
wrong_elsewhere : updated aba ababa 0 (1 ∷ []) ≡ 0 ∷ 1 ∷ []
unfolding updated aba ababa
wrong_elsewhere = refl

-- At place 2 every window covers it: all is right then.
all_covered : updated aba ababa 2 (1 ∷ []) ≡ 0 ∷ 2 ∷ []
unfolding updated aba ababa
all_covered = refl

-- A place past the end changes nothing, and a text that is shorter than the pattern has no window.
outside : updated aba ababa 5 (1 ∷ 3 ∷ []) ≡ 1 ∷ 3 ∷ []
unfolding updated aba ababa
outside = refl

no_window : updated aba (97 ∷ 98 ∷ []) 1 (0 ∷ []) ≡ 0 ∷ []
unfolding updated aba
no_window = refl
