-- Journals worked by hand, as two tables under two claims, by computation. Assumes nothing.
use Prim.Native.Nat.{ℕ}
use mathlib.Core.Path.{◌≡◌, refl}
use mathlib.Core.Bool.{Bool, true, false}
use mathlib.Core.List.{List, [], ◌∷◌, map}
use Rattle.rules.specs.Colussi.{colussi}
use Rattle.rules.specs.declared.Ending.{Ending}
use Rattle.rules.specs.declared.Ending.TheVariants.{Done, Spent, Full}
use Rattle.journal.specs.Journal.{journal_of, written}
use Rattle.journal.specs.Replay.{replayed, accepted}

abbrev a : ℕ
a = 97

abbrev b : ℕ
b = 98

abbrev aab : List ℕ
aab = a ∷ a ∷ b ∷ []

abbrev aba : List ℕ
aba = a ∷ b ∷ a ∷ []

abbrev babb : List ℕ
babb = b ∷ a ∷ b ∷ b ∷ []

-- ---- Written

-- A pattern, a text, a cap and a list's size; and the journal of the search, written into one of six entries 100.
pub record Written : Type 0 where
  pub pattern : List ℕ
  pub text : List ℕ
  pub cap : ℕ
  pub size : ℕ
  pub journal : List ℕ

abbrev row : List ℕ → List ℕ → ℕ → ℕ → List ℕ → Written
row w t c s j = record { pattern = w; text = t; cap = c; size = s; journal = j }

-- aba in ababa compares places 1, 2, 0 in window 0, and 1, 2 in window 2, where place 0 is known. Of aab in aaaab place 2 misses in the windows 0
-- and 1, and 2, 1, 0 match in window 2. The others are cut off by the cap or the list, or have no window.
abbrev pub writings : List Written
writings =
    row aba (a ∷ b ∷ a ∷ b ∷ a ∷ []) 6 2 (3 ∷ 5 ∷ 1 ∷ 7 ∷ 9 ∷ 100 ∷ [])
    ∷ row aba (a ∷ b ∷ a ∷ b ∷ a ∷ []) 2 2 (3 ∷ 5 ∷ 100 ∷ 100 ∷ 100 ∷ 100 ∷ [])
    ∷ row aba (a ∷ b ∷ a ∷ b ∷ a ∷ []) 6 0 (3 ∷ 5 ∷ 1 ∷ 100 ∷ 100 ∷ 100 ∷ [])
    ∷ row aab (a ∷ a ∷ a ∷ a ∷ b ∷ []) 6 1 (4 ∷ 6 ∷ 9 ∷ 7 ∷ 5 ∷ 100 ∷ [])
    ∷ row aba (a ∷ b ∷ []) 6 1 (100 ∷ 100 ∷ 100 ∷ 100 ∷ 100 ∷ 100 ∷ [])
    ∷ []

abbrev lent : List ℕ
lent = 100 ∷ 100 ∷ 100 ∷ 100 ∷ 100 ∷ 100 ∷ []

-- What the definitions give.
abbrev given : Written → Written
given r =
    row r.pattern r.text r.cap r.size (written (colussi r.pattern r.text r.cap r.size).last.made lent)

pub writings_as_worked : map given writings ≡ writings
unfolding colussi journal_of written
writings_as_worked = refl

-- ---- Replayed

-- A pattern, the length of a text, a list's size and a journal; and whether it is accepted, how its replay ends and what it finds.
pub record Replay : Type 0 where
  pub pattern : List ℕ
  pub n : ℕ
  pub size : ℕ
  pub journal : List ℕ
  pub accepts : Bool
  pub ending : Ending
  pub positions : List ℕ

abbrev trial : List ℕ → ℕ → ℕ → List ℕ → Bool → Ending → List ℕ → Replay
trial w n s j k e f = record { pattern = w; n = n; size = s; journal = j; accepts = k; ending = e; positions = f }

-- The journal of aba in ababa, whole, one entry shorter, one longer, with a list of one entry and with none; its third entry, and then its fourth, said
-- to be unequal, so that what comes after is done or otherwise; its third entry of another place; no entry, with a window and with none, and one
-- without a window. The last is accepted, though no text has a letter that is not b and then is: position 3 in its second entry and in its last.
abbrev pub replays : List Replay
replays =
    trial aba 5 2 (3 ∷ 5 ∷ 1 ∷ 7 ∷ 9 ∷ []) true Done (0 ∷ 2 ∷ [])
    ∷ trial aba 5 2 (3 ∷ 5 ∷ 1 ∷ 7 ∷ []) true (Spent 2) (0 ∷ [])
    ∷ trial aba 5 2 (3 ∷ 5 ∷ 1 ∷ 7 ∷ 9 ∷ 11 ∷ []) false Done (0 ∷ 2 ∷ [])
    ∷ trial aba 5 1 (3 ∷ 5 ∷ 1 ∷ 7 ∷ 9 ∷ []) true (Full 2) (0 ∷ [])
    ∷ trial aba 5 0 (3 ∷ 5 ∷ 1 ∷ 7 ∷ 9 ∷ []) false (Full 0) []
    ∷ trial aba 5 2 (3 ∷ 5 ∷ 0 ∷ 7 ∷ 9 ∷ []) true Done (2 ∷ [])
    ∷ trial aba 5 2 (3 ∷ 5 ∷ 1 ∷ 6 ∷ []) true Done (0 ∷ [])
    ∷ trial aba 5 2 (3 ∷ 5 ∷ 1 ∷ 6 ∷ 9 ∷ []) false Done (0 ∷ [])
    ∷ trial aba 5 2 (3 ∷ 5 ∷ 3 ∷ 7 ∷ 9 ∷ []) false Done (0 ∷ 2 ∷ [])
    ∷ trial aba 5 2 [] true (Spent 0) []
    ∷ trial aba 2 2 [] true Done []
    ∷ trial aba 2 2 (3 ∷ []) false Done []
    ∷ trial babb 7 2 (3 ∷ 6 ∷ 6 ∷ 9 ∷ 13 ∷ 11 ∷ 7 ∷ []) true Done (3 ∷ [])
    ∷ []

abbrev followed : Replay → Replay
followed r =
    let s = replayed r.pattern r.n r.journal r.size in
    trial r.pattern r.n r.size r.journal (accepted r.pattern r.n r.journal r.size) s.ending s.last.found

pub replays_as_worked : map followed replays ≡ replays
unfolding replayed accepted
replays_as_worked = refl
