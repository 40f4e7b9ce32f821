-- Searches of records worked by hand, as one table under one claim, by computation. Assumes nothing.
use Prim.Native.Nat.{ℕ}
use mathlib.Core.Path.{◌≡◌, refl}
use mathlib.Core.Bool.{true}
use mathlib.Core.List.{List, [], ◌∷◌, map}
use Rattle.std.specs.Prelude.{Option, Some, None, Result, Ok}
use Rattle.directory.specs.Archive.{bounds_by, record_of}
use Rattle.directory.proofs.Examples.{three}
use Rattle.refusal.specs.declared.Refusal.{Refusal}
use Rattle.rules.specs.Rules.{End}
use Rattle.rules.specs.Colussi.{colussi}
use Rattle.rules.specs.declared.Ending.TheVariants.{Done}
use Rattle.rules.specs.declared.Report.{Report}
use Rattle.archive.specs.Answer.{answered, listed}

abbrev a : ℕ
a = 97

abbrev b : ℕ
b = 98

-- Of a prepared pattern and a record of the archive with the records aba, nothing and ba, what the definitions give: the answer, and a list of
-- three entries afterwards.
abbrev search : List ℕ → ℕ → End
search w r = colussi w (record_of three r) 100 3

abbrev answer : List ℕ → ℕ → Result (Option Report) Refusal
answer w r = answered w true (bounds_by three r) (search w r)

abbrev given : List ℕ × ℕ → Result (Option Report) Refusal × List ℕ
given q = (answer q.0 q.1, listed (answer q.0 q.1) (search q.0 q.1) (7 ∷ 8 ∷ 9 ∷ []))

-- a in aba; ba in aba and in ba, where it begins the record; ba and bab across the borders of the records, where they are not; a in no record.
abbrev pub worked : List ((List ℕ × ℕ) × (Result (Option Report) Refusal × List ℕ))
worked =
    ((a ∷ [], 0), (Ok (Some record { ending = Done; count = 3; noholes = 0; holes = 3; written = 2 }), 0 ∷ 2 ∷ 9 ∷ []))
    ∷ ((b ∷ a ∷ [], 0), (Ok (Some record { ending = Done; count = 3; noholes = 2; holes = 1; written = 1 }), 1 ∷ 8 ∷ 9 ∷ []))
    ∷ ((b ∷ a ∷ [], 2), (Ok (Some record { ending = Done; count = 2; noholes = 1; holes = 1; written = 1 }), 0 ∷ 8 ∷ 9 ∷ []))
    ∷ ((b ∷ a ∷ [], 1), (Ok (Some record { ending = Done; count = 0; noholes = 0; holes = 0; written = 0 }), 7 ∷ 8 ∷ 9 ∷ []))
    ∷ ((b ∷ a ∷ b ∷ [], 0), (Ok (Some record { ending = Done; count = 1; noholes = 1; holes = 0; written = 0 }), 7 ∷ 8 ∷ 9 ∷ []))
    ∷ ((a ∷ [], 3), (Ok None, 7 ∷ 8 ∷ 9 ∷ []))
    ∷ []

pub as_worked : map (λ q. given q.0) worked ≡ map (λ q. q.1) worked
unfolding colussi record_of bounds_by answered listed
as_worked = refl
