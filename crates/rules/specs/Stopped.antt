-- Document 02, C-12: the search in Colussi's order, without a cap and stopping at the first occurrence.
use Rattle.std.specs.Prelude.{ℕ, ◌*◌, List, length}
use Rattle.rules.specs.Rules.{End}
use Rattle.rules.specs.Colussi.{colussi}

-- Its list has no entry, so that it is full where the pattern first occurs. Its cap is twice the length of the text, which no search spends
-- (`never_spent`).
unfoldable pub stopped : List ℕ → List ℕ → End
unfolding colussi
stopped w t = colussi w t (2 * length t) 0
