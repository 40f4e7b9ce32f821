-- The promises of a reading in plain terms.
use Rattle.std.specs.Prelude.{ℕ, ◌+◌, ◌-◌, ◌*◌, ◌≤◌, ◌<◌, ◌≡◌, List, [], ◌∷◌, length, take, drop}
use Rattle.admission.specs.Admitted.{longest_text}
use Rattle.directory.specs.Archive.{number_at, trailer_size, entry_size, most_records, start_of, end_before, record_of}
use Rattle.directory.specs.declared.Bounds.{Bounds}
use Rattle.directory.specs.declared.Directory.{Directory}

-- The bytes a are an archive with the directory d.
pub record IsArchive (a : List ℕ) (d : Directory) : Type 0 where
  pub fits : length a ≤ longest_text
  pub trailer : trailer_size ≤ length a
  pub closing : drop (length a - 4) a ≡ 0x52 ∷ 0x45 ∷ 0x45 ∷ 0x4C ∷ []
  pub start : d.start ≡ number_at a (length a - trailer_size)
  pub records : d.records ≡ number_at a (length a - 8)
  pub few : d.records ≤ most_records
  pub exactly : d.start + entry_size * d.records + trailer_size ≡ length a
  pub touching : (r : ℕ) → r < d.records → start_of a d.start r ≡ end_before a d.start r
  pub last : end_before a d.start d.records ≡ d.start

-- The bounds b lie in the archive, and the bytes between them are record r.
pub record Lies (a : List ℕ) (r : ℕ) (b : Bounds) : Type 0 where
  pub from : b.start ≤ b.end
  pub upto : b.end ≤ length a
  pub bytes : take (b.end - b.start) (drop b.start a) ≡ record_of a r
  pub fits : length (record_of a r) ≤ longest_text
