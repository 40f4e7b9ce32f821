-- The letters that a search compares: the classes of the pattern's bytes, and of the text's as this pattern reads it. Contracts of searches cite
-- these names.
use Rattle.std.specs.Prelude.{ℕ, List, take}
use Rattle.classes.specs.Classes.{through}
use Rattle.pattern.specs.declared.Pattern.{Pattern}

-- A pattern's own bytes: as many of the 256 as its length says.
abbrev pub own_bytes : Pattern → List ℕ
own_bytes p = take p.len p.bytes

unfoldable pub word_of : Pattern → List ℕ
unfolding through
word_of p = through p.classes (own_bytes p)

unfoldable pub text_of : Pattern → List ℕ → List ℕ
unfolding through
text_of p t = through p.classes t
