-- Document 02, C-14, in plain terms: how few comparisons there are, and which are those of a search by Knuth, Morris and Pratt.
use Rattle.std.specs.Prelude.{ℕ, ◌+◌, ◌*◌, ◌≤◌, ◌<◌, ◌≡◌, List, [], ◌∷◌, ◌++◌, length}
use Rattle.rules.specs.Rules.{Compared}
use Rattle.rules.specs.Kmp.{kmp}
use Rattle.rules.specs.declared.Ending.TheVariants.{Done}
use Rattle.prefixes.specs.CarriedOn.{carried_on}

-- In a text of n letters: at most 2n, as the request asks; and 2n - 1, if there is a letter.
pub record FewFor (n count : ℕ) : Type 0 where
  pub asked : count ≤ 2 * n
  pub sharper : 1 ≤ n → count + 1 ≤ 2 * n

-- Every comparison of a list is such.
abbrev pub Every : (Compared → Type 0) → List Compared → Type 0
Every P [] = Unit {0}
Every P (one ∷ made) = P one × Every P made

-- Of a list of comparisons, in which the latest stand first, the earliest are exactly those of another, and they are the ones made in windows
-- up to n - m.
pub record BeginsWith (m n : ℕ) (other made : List Compared) : Type 0 where
  pub later : List Compared
  pub begins : made ≡ later ++ other
  pub up_to : Every (λ one. one.window + m ≤ n) other
  pub past : Every (λ one. n < one.window + m) later

-- Until the first window past n - m the comparisons are those of the search by KMP, one for one: of any that runs to its end, whatever its cap
-- and its list.
abbrev pub AsKmp : List ℕ → List ℕ → Type 0
AsKmp w t = (cap size : ℕ) → (kmp w t cap size).ending ≡ Done
    → BeginsWith (length w) (length t) (kmp w t cap size).last.made (carried_on w t).last.made
