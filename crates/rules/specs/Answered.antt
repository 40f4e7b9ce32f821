-- Comparisons that were made, and who answers them so.
use Rattle.std.specs.Prelude.{◌≡◌, List, [], ◌∷◌, length}
use Rattle.rules.specs.Rules.{Source, Compared}

-- Each of the comparisons, of which the latest stands first, has the answer that the source gives to it.
abbrev pub Answered : Source → List Compared → Type 0
Answered source [] = Unit {0}
Answered source (x ∷ made) = (source.agree x.window x.place (length made) ≡ x.equal) × Answered source made
