-- The table that a scan is lent. Assumes nothing.
use Prim.Native.Nat.{ℕ, ◌≤◌, ◌<◌}
use mathlib.Core.Path.{◌≡◌}
use mathlib.Core.List.{List}
use native.Mathlib.Omega.{arith}
use lib.ListN.{length, take, replicate}
use lib.Seq.{length-take-le}
use Rattle.admission.proofs.Mapped.{length_letters}
use Rattle.checked.specs.Check.{IsPrepared}
use Rattle.checked.proofs.Reading.{Fields, fields_of}
use Rattle.classes.specs.Classes.{letters_in}
use Rattle.hmax.specs.Table.{table_after}
use Rattle.hmax.specs.Internal.Steps.{Room}
use Rattle.hmax.proofs.Tables.{after_known, after_kept}
use Rattle.intake.specs.Sizes.{longest_pattern}
use Rattle.pattern.specs.Letters.{own_bytes}
use Rattle.pattern.specs.declared.Pattern.{Pattern}
use Rattle.lengths.specs.Internal.Steps.{Tables}

-- A table filled for the first m letters.
pub lent_tables : (letters before : List ℕ) (m : ℕ) → 1 ≤ m → m ≤ longest_pattern → m ≤ length letters → m < length before
    → {table : List ℕ} → table ≡ table_after (take m letters) before → Tables (take m letters) table
lent_tables letters before m some short upto room e =
    let taken : length (take m letters) ≡ m = length-take-le m letters upto in
    let R : Room (take m letters) before = record { some = omega arith; entries = omega arith; small = omega arith } in
    record {
      some = omega arith;
      short = omega arith;
      room = omega (arith, (after_kept (take m letters) before R e).size);
      known = after_known (take m letters) before R e;
    }

-- ---- Of a prepared pattern

module _ (p : Pattern) (prepared : IsPrepared p) where
  F : Fields p
  F = fields_of p prepared

  pub short_enough : p.len ≤ longest_pattern
  short_enough = F.short

  pub own_tables : {letters : List ℕ} → letters ≡ letters_in (own_bytes p) p.classes (replicate longest_pattern 0) → (before : List ℕ)
      → p.len < length before → {table : List ℕ} → table ≡ table_after (take p.len letters) before → Tables (take p.len letters) table
  own_tables {letters} put before room =
      lent_tables letters before p.len F.some F.short (omega (arith, F.short, length_letters p F put)) room
