-- An answer that crosses to C is read back as it was, so what is promised of it holds of what C receives. Assumes nothing.
use Prim.Native.Nat.{ℕ, ◌<◌}
use mathlib.Core.Path.{◌≡◌, refl, ap}
use mathlib.Core.Logic.{◌↔◌}
use native.Mathlib.Omega.{arith}
use Rattle.std.specs.Prelude.{Option, Some, None, Result, Ok, Err, IsOk, IfOk, IfSome}
use Rattle.directory.specs.declared.Bounds.{Bounds}
use Rattle.directory.specs.declared.Directory.{Directory}
use Rattle.endings.proofs.Back.{ending_back}
use Rattle.first.specs.declared.FirstAnswer.{FirstAnswer}
use Rattle.pattern.specs.declared.Built.{Built}
use Rattle.refusal.specs.declared.Refusal.{Refusal}
use Rattle.refusal.proofs.NotZero.{number_not_0}
use Rattle.rules.specs.declared.Report.{Report}
use Rattle.carried.specs.Carried.{carried_preparation, carried_report, carried, report_in, first_found, carried_first, first_in, carried_lengths, carried_update, no_such_record, carried_record, Searched, carried_directory, directory_in, carried_bounds, bounds_in}
use Rattle.carried.specs.declared.SearchReport.{SearchReport}
use Rattle.carried.specs.declared.First.{First}
use Rattle.carried.specs.declared.Lengths.{Lengths}
use Rattle.carried.specs.declared.Update.{Update}
use Rattle.carried.specs.declared.ArchiveDirectory.{ArchiveDirectory}
use Rattle.carried.specs.declared.RecordBounds.{RecordBounds}

-- What C receives with refusal 0 was prepared.
pub prepared_is_0 : (a : Result Built Refusal) → ((carried_preparation a).refusal ≡ 0) ↔ IsOk a
unfolding carried_preparation
prepared_is_0 (Ok b) = (λ e. refl, λ e. refl)
prepared_is_0 (Err why) = (λ e. absurd (number_not_0 why e), λ e. absurd (let z : ◌≡◌ {A = ℕ} 0 1 = cc in omega arith))

report_back : (r : Report) → report_in (carried_report r) ≡ r
report_back r = rw (ending_back r.ending) refl

-- What is promised of an answer's report holds of what C receives with refusal 0.
pub promised_to_c : (P : Report → Type 0) (a : Result Report Refusal) {r : SearchReport} → r ≡ carried a → IfOk a P → r.refusal ≡ 0 → P (report_in r)
promised_to_c P a e holds none = rw e (of a holds (rw e at none))
  where
    of : (a : Result Report Refusal) → IfOk a P → (carried a).refusal ≡ 0 → P (report_in (carried a))
    of (Ok r) holds z = rw (report_back r) holds
    of (Err why) holds z = absurd (number_not_0 why z)

-- The answer of the search for the first position is read back as it was, beside refusal 0.
pub first_back : (a : Result FirstAnswer Refusal) {r : First} → r ≡ carried_first a → r.refusal ≡ 0 → a ≡ Ok (first_in r)
first_back a e none = rw e (of a (rw e at none))
  where
    back : (o : Option ℕ) (count : ℕ) → record { position = o; count = count } ≡ first_in (first_found o count)
    back (Some b) count = refl
    back None count = refl

    of : (a : Result FirstAnswer Refusal) → (carried_first a).refusal ≡ 0 → a ≡ Ok (first_in (carried_first a))
    of (Ok r) z = ap Ok (back r.position r.count)
    of (Err why) z = absurd (number_not_0 why z)

-- So what is promised of it holds of what C receives with refusal 0.
pub first_promised_to_c : (P : FirstAnswer → Type 0) (a : Result FirstAnswer Refusal) {r : First} → r ≡ carried_first a → IfOk a P → r.refusal ≡ 0
    → P (first_in r)
first_promised_to_c P a e holds none = rw (first_back a e none) at holds

-- What is promised of a count of the call for prefix lengths holds of the one that C receives with refusal 0.
pub count_promised_to_c : (P : ℕ → Type 0) (a : Result ℕ Refusal) {r : Lengths} → r ≡ carried_lengths a → IfOk a P → r.refusal ≡ 0 → P r.count
count_promised_to_c P a e holds none = rw e (of a holds (rw e at none))
  where
    of : (a : Result ℕ Refusal) → IfOk a P → (carried_lengths a).refusal ≡ 0 → P (carried_lengths a).count
    of (Ok count) holds z = holds
    of (Err why) holds z = absurd (number_not_0 why z)

-- What is promised of the number of entries in use holds of the one that C receives with refusal 0.
pub used_promised_to_c : (P : ℕ → Type 0) (a : Result ℕ Refusal) {r : Update} → r ≡ carried_update a → IfOk a P → r.refusal ≡ 0 → P r.used
used_promised_to_c P a e holds none = rw e (of a holds (rw e at none))
  where
    of : (a : Result ℕ Refusal) → IfOk a P → (carried_update a).refusal ≡ 0 → P (carried_update a).used
    of (Ok used) holds z = holds
    of (Err why) holds z = absurd (number_not_0 why z)

-- ---- Archives

-- What is promised of the report of a record's search holds of what C receives, where one ran.
pub record_promised_to_c : (P : Report → Type 0) (a : Result (Option Report) Refusal) {r : SearchReport} → r ≡ carried_record a
    → IfOk a (λ o. IfSome o P) → Searched r → P (report_in r)
record_promised_to_c P a e holds ran = rw e (of a holds (rw e at ran.0) (rw e at ran.1))
  where
    of : (a : Result (Option Report) Refusal) → IfOk a (λ o. IfSome o P) → (carried_record a).refusal ≡ 0
        → (carried_record a).ending < no_such_record → P (report_in (carried_record a))
    of (Ok (Some r)) holds z l = rw (report_back r) holds
    of (Ok None) holds z l = absurd (omega arith)
    of (Err why) holds z l = absurd (number_not_0 why z)

-- A directory, and the bounds of a record, are read back as they were.
pub directory_back : (a : Result Directory Refusal) {r : ArchiveDirectory} → r ≡ carried_directory a → r.refusal ≡ 0 → a ≡ Ok (directory_in r)
directory_back a e none = rw e (of a (rw e at none))
  where
    of : (a : Result Directory Refusal) → (carried_directory a).refusal ≡ 0 → a ≡ Ok (directory_in (carried_directory a))
    of (Ok d) z = refl
    of (Err why) z = absurd (number_not_0 why z)

pub bounds_back : (a : Result (Option Bounds) Refusal) {r : RecordBounds} → r ≡ carried_bounds a → r.found ≡ 1 → a ≡ Ok (Some (bounds_in r))
bounds_back a e found = rw e (of a (rw e at found))
  where
    of : (a : Result (Option Bounds) Refusal) → (carried_bounds a).found ≡ 1 → a ≡ Ok (Some (bounds_in (carried_bounds a)))
    of (Ok (Some b)) o = refl
    of (Ok None) o = absurd (omega arith)
    of (Err why) o = absurd (omega arith)
