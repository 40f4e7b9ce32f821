-- The tables of a prepared pattern as a pass is lent them: those of its letters. Assumes nothing.
use Prim.Native.Nat.{ℕ}
use mathlib.Core.Path.{◌≡◌, refl, sym, ap, ◌∙◌}
use mathlib.Core.List.{List, [], ◌∷◌, ◌++◌}
use native.Mathlib.Omega.{arith}
use lib.ListN.{length, take}
use lib.Seq.{take-length}
use Rattle.std.specs.Prelude.{Option}
use Rattle.checked.proofs.Reading.{Fields}
use Rattle.pattern.specs.Letters.{word_of}
use Rattle.pattern.specs.declared.Pattern.{Pattern}
use Rattle.rules.specs.declared.Report.{Report}
use Rattle.search.specs.Internal.ColussiScan.{LentOrder, LentMoves}
use Rattle.search.proofs.LentTables.{order_of, moves_of}
use Rattle.replay.specs.Internal.{Lent, Followed, FollowedFor}

module _ (p : Pattern) (F : Fields p) where
  whole : take p.len (word_of p) ≡ word_of p
  whole = ap (λ m. take m (word_of p)) (sym F.word) ∙ take-length (word_of p)

  pub places : LentOrder (word_of p) p.order p.len p.noholes
  places = order_of p F whole (omega (arith, F.word))

  pub moves : LentMoves (word_of p) p.shift p.next p.len
  moves = moves_of p F whole (omega (arith, F.word))

  pub lent_tables : Lent p.order p.shift p.next p.len p.noholes
  lent_tables = record { letters = word_of p; places = places; moves = moves }

  -- What a pass tells of the letters that it goes by, it tells of the pattern's.
  pub of_whole : (n size : ℕ) (journal before after : List ℕ) (answer : Option Report)
      → Followed (take p.len (word_of p)) n size journal before after answer → Followed (word_of p) n size journal before after answer
  of_whole n size journal before after answer told = rw whole at told

  -- What a pass tells of whatever pattern the tables are, it tells of these letters.
  pub of_the_word : (n size : ℕ) (journal before after : List ℕ) (answer : Option Report)
      → FollowedFor p.order p.shift p.next p.len p.noholes n size journal before after answer
      → Followed (word_of p) n size journal before after answer
  of_the_word n size journal before after answer G = of_whole n size journal before after answer (G (word_of p) places moves)

-- A list after a part of it without entries was lent.
pub nothing_written : (part rest : List ℕ) → length part ≡ 0 → part ++ rest ≡ rest
nothing_written [] rest e = refl
nothing_written (x ∷ part) rest e = absurd (omega arith)
