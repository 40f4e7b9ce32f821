-- First positions worked by hand, as one table under one claim, by computation. Assumes nothing.
use Prim.Native.Nat.{ℕ}
use mathlib.Core.Path.{◌≡◌, refl}
use mathlib.Core.List.{List, [], ◌∷◌, map}
use lib.ListN.{length}
use Rattle.rules.specs.Stopped.{stopped}
use Rattle.first.specs.Answer.{first_at}
use Rattle.first.specs.declared.FirstAnswer.{FirstAnswer}
use Rattle.std.specs.Prelude.{Some, None}

abbrev a : ℕ
a = 97

abbrev b : ℕ
b = 98

abbrev c : ℕ
c = 99

abbrev aba : List ℕ
aba = a ∷ b ∷ a ∷ []

-- Of a pattern in a text, what the definition gives.
abbrev given : List ℕ × List ℕ → FirstAnswer
given r = first_at (stopped r.0 r.1).ending (length (stopped r.0 r.1).last.made)

abbrev At : ℕ → ℕ → FirstAnswer
At position count = record { position = Some position; count = count }

abbrev Absent : ℕ → FirstAnswer
Absent count = record { position = None; count = count }

-- Those that document 01 stars, at the start of the text or absent: a in aab, ab in aaaa, aba in ababa and in ab. Then aba in cbaba, where a miss
-- at a hole makes known what the window of the occurrence begins with; aab in aaaaab, at the end; abb in ababab, absent.
abbrev pub worked : List ((List ℕ × List ℕ) × FirstAnswer)
worked =
    ((a ∷ [], a ∷ a ∷ b ∷ []), At 0 1)
    ∷ ((a ∷ b ∷ [], a ∷ a ∷ a ∷ a ∷ []), Absent 3)
    ∷ ((aba, a ∷ b ∷ a ∷ b ∷ a ∷ []), At 0 3)
    ∷ ((aba, a ∷ b ∷ []), Absent 0)
    ∷ ((aba, c ∷ b ∷ a ∷ b ∷ a ∷ []), At 2 5)
    ∷ ((a ∷ a ∷ b ∷ [], a ∷ a ∷ a ∷ a ∷ a ∷ b ∷ []), At 3 6)
    ∷ ((a ∷ b ∷ b ∷ [], a ∷ b ∷ a ∷ b ∷ a ∷ b ∷ []), Absent 4)
    ∷ []

pub as_worked : map (λ r. given r.0) worked ≡ map (λ r. r.1) worked
unfolding stopped
as_worked = refl
