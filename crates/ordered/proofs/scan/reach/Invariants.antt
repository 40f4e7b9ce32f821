-- The ranks that are passed agree.
use Rattle.std.proofs.Common.{ℕ, ◌+◌, ◌≤◌, ◌<◌, ◌≡◌, get_or}
use Rattle.words.specs.Tables.{letter}
use Rattle.ordered.specs.Internal.{letters_of}
use Rattle.ordered.proofs.scan.reach.Given as goal

abbrev pub invariant-loop-i : goal.invariant-loop-i
invariant-loop-i l = (j : ℕ) → j < l.i → 1 ≤ j → letter l.letters (get_or l.order j 0) ≡ letter (letters_of l.text) (l.b + get_or l.order j 0)
