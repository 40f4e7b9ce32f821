-- The letters of a prepared pattern, as `letters` answers them. Assumes nothing.
use Prim.Native.Nat.{ℕ}
use mathlib.Core.Path.{◌≡◌, sym, ◌∙◌}
use mathlib.Core.List.{List}
use native.Mathlib.Omega.{arith}
use lib.ListN.{length, take, replicate, length-replicate}
use lib.Seq.{length-take-le}
use Rattle.checked.proofs.Reading.{Fields}
use Rattle.classes.specs.Classes.{letters_in}
use Rattle.classes.proofs.Letters.{first_letters}
use Rattle.intake.specs.Sizes.{longest_pattern}
use Rattle.pattern.specs.Letters.{own_bytes, word_of}
use Rattle.pattern.specs.declared.Pattern.{Pattern}
use Rattle.pattern.proofs.Letters.{word_through}

module _ (p : Pattern) (F : Fields p) {letters : List ℕ} (put : letters ≡ letters_in (own_bytes p) p.classes (replicate longest_pattern 0)) where
  read : (length letters ≡ longest_pattern) × (take p.len letters ≡ word_of p)
  read =
      let zeros : List ℕ = replicate longest_pattern 0 in
      let size : length zeros ≡ longest_pattern = length-replicate {A = ℕ} longest_pattern 0 in
      let both = first_letters p.bytes p.classes zeros p.len (omega (arith, F.short, F.length_bytes)) (omega (arith, F.short)) F.usable.size put in
      (both.0 ∙ size, both.1 ∙ sym (word_through p))

  pub length_letters : length letters ≡ longest_pattern
  length_letters = read.0

  -- They begin with the pattern's.
  pub letters_are : take p.len letters ≡ word_of p
  letters_are = read.1

  pub length_taken : length (take p.len letters) ≡ p.len
  length_taken = length-take-le p.len letters (omega (arith, F.short, length_letters))
