-- Archives worked by hand, as one table under one claim, by computation. Assumes nothing.
use Prim.Native.Nat.{ℕ}
use mathlib.Core.Path.{◌≡◌, refl}
use mathlib.Core.List.{List, [], ◌∷◌, ◌++◌, map}
use Rattle.std.specs.Prelude.{Option, Some, None, Result, Ok, Err}
use Rattle.refusal.specs.declared.Refusal.{Refusal}
use Rattle.refusal.specs.declared.Refusal.TheVariants.{NoTrailer, FalseDirectory, RecordsApart}
use Rattle.directory.specs.Archive.{record_of, bounds_by}
use Rattle.directory.specs.declared.Bounds.{Bounds}

-- A number below 65,536 as four bytes.
abbrev four : ℕ → ℕ → List ℕ
four high low = low ∷ high ∷ 0 ∷ 0 ∷ []

abbrev small : ℕ → List ℕ
small n = four 0 n

-- The trailer of a directory that starts at a place, for so many records.
abbrev trailer : ℕ → ℕ → List ℕ
trailer start records = small start ++ small records ++ (0x52 ∷ 0x45 ∷ 0x45 ∷ 0x4C ∷ [])

-- The entry of a record.
abbrev entry : ℕ → ℕ → List ℕ
entry start len = small start ++ small len

abbrev bytes : List ℕ
bytes = 97 ∷ 98 ∷ 97 ∷ 98 ∷ 97 ∷ []

-- aba, nothing, ba.
abbrev pub three : List ℕ
three = bytes ++ entry 0 3 ++ entry 3 0 ++ entry 3 2 ++ trailer 5 3

-- Of an archive and a number, what the definition gives: the records of `three`, and the number past them; no records, and a byte that belongs to
-- none; a trailer that is a byte short, or ends otherwise; a directory of one byte, and one of 4,097 records; a gap, an overlap, a last record that
-- ends before the directory, or past it.
abbrev pub worked : List ((List ℕ × ℕ) × Result (Option Bounds) Refusal)
worked =
    ((three, 0), Ok (Some record { start = 0; end = 3 }))
    ∷ ((three, 1), Ok (Some record { start = 3; end = 3 }))
    ∷ ((three, 2), Ok (Some record { start = 3; end = 5 }))
    ∷ ((three, 3), Ok None)
    ∷ ((trailer 0 0, 0), Ok None)
    ∷ ((7 ∷ trailer 1 0, 0), Err RecordsApart)
    ∷ ((0 ∷ 0 ∷ 0 ∷ small 0 ++ (0x52 ∷ 0x45 ∷ 0x45 ∷ 0x4C ∷ []), 0), Err NoTrailer)
    ∷ ((small 0 ++ small 0 ++ (0x52 ∷ 0x45 ∷ 0x45 ∷ 0x4D ∷ []), 0), Err NoTrailer)
    ∷ ((7 ∷ trailer 0 0, 0), Err FalseDirectory)
    ∷ ((small 0 ++ four 16 1 ++ (0x52 ∷ 0x45 ∷ 0x45 ∷ 0x4C ∷ []), 0), Err FalseDirectory)
    ∷ ((bytes ++ entry 0 2 ++ entry 3 2 ++ trailer 5 2, 0), Err RecordsApart)
    ∷ ((bytes ++ entry 0 3 ++ entry 2 3 ++ trailer 5 2, 0), Err RecordsApart)
    ∷ ((bytes ++ entry 0 3 ++ entry 3 1 ++ trailer 5 2, 0), Err RecordsApart)
    ∷ ((bytes ++ entry 0 3 ++ entry 3 3 ++ trailer 5 2, 0), Err RecordsApart)
    ∷ []

pub as_worked : map (λ q. bounds_by q.0.0 q.0.1) worked ≡ map (λ q. q.1) worked
unfolding bounds_by
as_worked = refl

-- And the records' bytes.
pub bytes_worked : map (record_of three) (0 ∷ 1 ∷ 2 ∷ []) ≡ (97 ∷ 98 ∷ 97 ∷ []) ∷ [] ∷ (98 ∷ 97 ∷ []) ∷ []
unfolding record_of
bytes_worked = refl
