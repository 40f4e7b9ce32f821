-- Document 02, C-22: a list of positions brought up to date after the byte at a place of the text was corrected.
use Rattle.std.specs.Prelude.{ℕ, ◌+◌, Bool, ◌&&◌, not, List, leb, ltb, length}
use Rattle.lists.specs.Lists.{keep, merged}
use Rattle.rules.specs.Occurs.{occurrences}

-- A window of m bytes at b covers a place of a text of n bytes: b is at most the place, which is below b + m, which is at most n.
unfoldable pub covers : ℕ → ℕ → ℕ → ℕ → Bool
covers m n place b = leb b place && (ltb place (b + m) && leb (b + m) n)

-- The occurrences whose windows cover the place.
unfoldable pub covering : List ℕ → List ℕ → ℕ → List ℕ
unfolding covers keep occurrences
covering w t place = keep (covers (length w) (length t) place) (occurrences w t)

-- The entries whose windows do not cover the place, right or wrong, and those occurrences, in ascending order.
unfoldable pub updated : List ℕ → List ℕ → ℕ → List ℕ → List ℕ
unfolding covers covering keep merged
updated w t place listed = merged (covering w t place) (keep (λ x. not (covers (length w) (length t) place x)) listed)
