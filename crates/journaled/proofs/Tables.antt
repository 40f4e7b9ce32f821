-- The tables of a prepared pattern are those of its letters. Assumes nothing.
use Prim.Native.Nat.{ℕ}
use mathlib.Core.Path.{◌≡◌}
use mathlib.Core.List.{List}
use lib.ListN.{length, take, replicate}
use Rattle.admission.proofs.Mapped.{letters_are}
use Rattle.checked.specs.Check.{IsPrepared}
use Rattle.checked.proofs.Reading.{fields_of}
use Rattle.classes.specs.Classes.{through, letters_in}
use Rattle.intake.specs.Sizes.{longest_pattern}
use Rattle.journal.specs.Journal.{written}
use Rattle.pattern.specs.Letters.{own_bytes, word_of, text_of}
use Rattle.pattern.specs.declared.Pattern.{Pattern}
use Rattle.rules.specs.Colussi.{colussi}
use Rattle.rules.specs.Report.{Reported}
use Rattle.rules.specs.declared.Report.{Report}
use Rattle.search.specs.Internal.ColussiScan.{LentOrder, LentMoves}
use Rattle.search.proofs.LentTables.{lent_order, lent_moves}

module _ (p : Pattern) (G : IsPrepared p) {letters : List ℕ} (L : letters ≡ letters_in (own_bytes p) p.classes (replicate longest_pattern 0)) where
  pub places : LentOrder letters p.order p.len p.noholes
  places = lent_order p (fields_of p G) L

  pub moves : LentMoves letters p.shift p.next p.len
  moves = lent_moves p (fields_of p G) L

  -- What is told of the letters lent, and of a text read through the classes, is told of the pattern's and the text's letters.
  pub in_letters : (t : List ℕ) (cap : ℕ) (before after lent journal : List ℕ) (r : Report)
      → Reported (take p.len letters) (colussi (take p.len letters) (through p.classes t) cap (length before)) before after r
      × (journal ≡ written (colussi (take p.len letters) (through p.classes t) cap (length before)).last.made lent)
      → record {
        reported : Reported (word_of p) (colussi (word_of p) (text_of p t) cap (length before)) before after r;
        journal_after : journal ≡ written (colussi (word_of p) (text_of p t) cap (length before)).last.made lent;
      }
  unfolding text_of
  in_letters t cap before after lent journal r told =
      let read = rw (letters_are p (fields_of p G) L) at told in
      record { reported = read.0; journal_after = read.1 }
