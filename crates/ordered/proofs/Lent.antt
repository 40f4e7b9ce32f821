-- The tables of an order that a scan is lent. Assumes nothing.
use Prim.Native.Nat.{ℕ, ◌≤◌, ◌<◌}
use mathlib.Core.Path.{◌≡◌}
use mathlib.Core.List.{List}
use native.Mathlib.Omega.{arith}
use lib.ListN.{length, take, replicate}
use lib.Seq.{length-take-le}
use Rattle.words.specs.Tables.{nohole}
use Rattle.admission.proofs.Mapped.{letters_are, length_letters}
use Rattle.checked.specs.Check.{IsPrepared}
use Rattle.checked.proofs.Reading.{Fields, fields_of}
use Rattle.classes.specs.Classes.{letters_in}
use Rattle.custom.specs.Order.{Arrangement}
use Rattle.custom.specs.Table.{shifts_after}
use Rattle.custom.proofs.Filling.{shifts_at, shifts_length}
use Rattle.intake.specs.Sizes.{longest_pattern}
use Rattle.ones.specs.Marks.{marked}
use Rattle.pattern.specs.Letters.{own_bytes, word_of}
use Rattle.pattern.specs.declared.Pattern.{Pattern}
use Rattle.ordered.specs.Internal.{MarkedAmong, LentTables}
use Rattle.ordered.proofs.Among.{among_marked}

-- Of the first m letters, which are the word w, as they were filled.
pub lent_tables : (letters order lent marks w : List ℕ) (m : ℕ) → 1 ≤ m → m ≤ longest_pattern → m ≤ length letters → m < length lent
    → Arrangement m order → take m letters ≡ w → ((p : ℕ) → p < longest_pattern → marked marks p ≡ nohole w p)
    → {shifts among : List ℕ} → shifts ≡ shifts_after (take m letters) order lent → MarkedAmong order marks among (length order) → m < length among
    → LentTables (take m letters) order shifts among
lent_tables letters order lent marks w m some short upto room A is nohole-marked {shifts} {among} filled counted wide =
    let taken : length (take m letters) ≡ m = length-take-le m letters upto in
    let arrangement : Arrangement (length (take m letters)) order = rw taken A in
    let here : 1 ≤ length (take m letters) = omega arith in
    let within : length (take m letters) < length lent = omega arith in
    let named : length (take m letters) ≤ longest_pattern = omega arith in
    record {
      some = here;
      short = named;
      arrangement = arrangement;
      length_shifts = omega (arith, shifts_length (take m letters) order lent here named within arrangement filled);
      length_among = omega arith;
      shift_at = shifts_at (take m letters) order lent here named within arrangement filled;
      among_at = among_marked (take m letters) order marks among arrangement named (rw is nohole-marked) counted;
    }

-- ---- Of a prepared pattern

module _ (p : Pattern) (prepared : IsPrepared p) where
  F : Fields p
  F = fields_of p prepared

  pub short_enough : p.len ≤ longest_pattern
  short_enough = F.short

  pub own_tables : {letters : List ℕ} → letters ≡ letters_in (own_bytes p) p.classes (replicate longest_pattern 0) → {order : List ℕ}
      (before : List ℕ) {shifts among : List ℕ} → Arrangement p.len order → p.len < length before → p.len < length among
      → shifts ≡ shifts_after (take p.len letters) order before → MarkedAmong order p.marks among (length order)
      → LentTables (take p.len letters) order shifts among
  own_tables {letters} put {order} before A room wide filled counted =
      lent_tables letters order before p.marks (word_of p) p.len F.some F.short (omega (arith, F.short, length_letters p F put)) room A
      (letters_are p F put) F.marked_at filled counted wide
