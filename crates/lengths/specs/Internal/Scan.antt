-- How a scan stands at a window, and what its last part makes of that.
use Rattle.std.specs.Prelude.{ℕ, ◌+◌, ◌<◌, ◌≡◌, List, length, get_or, drop}
use Rattle.prefixes.specs.Longest.{longest, lengths_in}
use Rattle.prefixes.specs.CarriedOn.{comparisons}
use Rattle.prefixes.specs.Internal.{Stands}

-- The entries of the positions below b are right, and those past n as they were lent.
pub record Right (w t before after : List ℕ) (b : ℕ) : Type 0 where
  pub entries : (x : ℕ) → x < b → get_or after x 0 ≡ longest w t x
  pub rest : drop (length t) after ≡ drop (length t) before
  pub size : length after ≡ length before

-- At window b and the matched length i the run stands, and the entries below b are right. A comparison that is equal takes b + i on by 1, and so does
-- one that leaves the window for the next letter. The others are counted.
pub record Scans (w t before after : List ℕ) (b i again : ℕ) : Type 0 where
  pub stands : Stands w t b i (again + (b + i))
  pub right : Right w t before after b

-- However the scan came to stand there, with so many counted, it is carried on to the text's end: with so many more all are counted, and the list
-- is as it is to be.
abbrev pub Carries : List ℕ → List ℕ → List ℕ → List ℕ → ℕ → ℕ → ℕ → Type 0
Carries w t s after b i more = (before : List ℕ) (again : ℕ) → Scans w t before s b i again
    → (again + more + length t ≡ comparisons w t) × (after ≡ lengths_in w t before)
