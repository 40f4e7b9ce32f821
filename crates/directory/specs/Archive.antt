-- How the bytes of an archive are read: document 02's packed reel (C-11). Its trailer, its directory, the bounds of its records, or the refusal.
use Rattle.std.specs.Prelude.{ℕ, zero, suc, ◌+◌, ◌-◌, ◌*◌, Bool, true, false, ◌&&◌, List, Option, Some, None, Result, Ok, Err, ltb, leb, eqb, length, take, drop}
use Rattle.admission.specs.Admitted.{longest_text}
use Rattle.refusal.specs.Unless.{unless}
use Rattle.refusal.specs.declared.Refusal.{Refusal}
use Rattle.refusal.specs.declared.Refusal.TheVariants.{LongText, NoTrailer, FalseDirectory, RecordsApart}
use Rattle.words.specs.Numbers.{every}
use Rattle.words.specs.Tables.{letter}
use Rattle.directory.specs.declared.Bounds.{Bounds}
use Rattle.directory.specs.declared.Directory.{Directory}

-- The number of the four bytes from a place on, little-endian: the lowest first.
unfoldable pub number_at : List ℕ → ℕ → ℕ
number_at a x = letter a x + 256 * letter a (x + 1) + 65536 * letter a (x + 2) + 16777216 * letter a (x + 3)

-- ---- The trailer: the last 12 bytes

abbrev pub trailer_size : ℕ
trailer_size = 12

-- Where the directory starts, and how many records there are.
unfoldable pub directory_start : List ℕ → ℕ
unfolding number_at
directory_start a = number_at a (length a - trailer_size)

unfoldable pub record_count : List ℕ → ℕ
unfolding number_at
record_count a = number_at a (length a - 8)

-- The last four bytes are 52 45 45 4C (hexadecimal).
unfoldable pub closes : List ℕ → Bool
closes a =
    eqb (letter a (length a - 4)) 0x52 && (eqb (letter a (length a - 3)) 0x45
    && (eqb (letter a (length a - 2)) 0x45 && eqb (letter a (length a - 1)) 0x4C))

-- ---- The directory, from place d on: per record a start and a length, 8 bytes

abbrev pub entry_size : ℕ
entry_size = 8

unfoldable pub start_of : List ℕ → ℕ → ℕ → ℕ
unfolding number_at
start_of a d r = number_at a (d + entry_size * r)

unfoldable pub length_of : List ℕ → ℕ → ℕ → ℕ
unfolding number_at
length_of a d r = number_at a (d + entry_size * r + 4)

unfoldable pub end_of : List ℕ → ℕ → ℕ → ℕ
unfolding start_of length_of
end_of a d r = start_of a d r + length_of a d r

-- Where the record before record r ends, and 0 for the first.
unfoldable pub end_before : List ℕ → ℕ → ℕ → ℕ
unfolding end_of
end_before a d zero = 0
end_before a d (suc r) = end_of a d r

-- Each of n records starts where the one before it ends, and the last ends at the directory. Of no records the end is 0.
unfoldable pub touch : List ℕ → ℕ → ℕ → Bool
unfolding every start_of end_before
touch a d n = every n (λ r. eqb (start_of a d r) (end_before a d r)) && eqb (end_before a d n) d

-- ---- The answers

abbrev pub most_records : ℕ
most_records = 4096

-- Tests 5, 7, 8 and 9, in that order: the first that fails is the answer.
unfoldable pub directory_of : List ℕ → Result Directory Refusal
unfolding directory_start record_count closes touch
directory_of a =
    unless (leb (length a) longest_text) (Err LongText)
    (unless (leb trailer_size (length a) && closes a) (Err NoTrailer)
    (unless (leb (record_count a) most_records && eqb (directory_start a + entry_size * record_count a + trailer_size) (length a)) (Err FalseDirectory)
    (unless (touch a (directory_start a) (record_count a)) (Err RecordsApart)
    (Ok record { start = directory_start a; records = record_count a }))))

-- The bounds of record r, and its bytes.
unfoldable pub bounds_of : List ℕ → ℕ → Bounds
unfolding directory_start start_of end_of
bounds_of a r = record { start = start_of a (directory_start a) r; end = end_of a (directory_start a) r }

unfoldable pub record_of : List ℕ → ℕ → List ℕ
unfolding directory_start start_of length_of
record_of a r = take (length_of a (directory_start a) r) (drop (start_of a (directory_start a) r) a)

-- Record r, counted from 0, is looked for after the tests. There may be no such record.
unfoldable pub bounds_by : List ℕ → ℕ → Result (Option Bounds) Refusal
unfolding directory_of bounds_of
bounds_by a r = elim (directory_of a) [
  | Ok d ↦ elim (ltb r d.records) [ true ↦ Ok (Some (bounds_of a r)) | false ↦ Ok None ]
  | Err why ↦ Err why
]
