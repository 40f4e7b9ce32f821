-- Document 02, C-16: where the comparisons of a search went. Each was made at a place of the pattern, and that is a nohole or a hole.
use Rattle.std.specs.Prelude.{ℕ, ◌+◌, Bool, cond, List, [], ◌∷◌}
use Rattle.words.specs.Tables.{nohole, hole}
use Rattle.rules.specs.Rules.{Compared}

-- How many comparisons were made at places that pass q.
unfoldable pub made_at : (ℕ → Bool) → List Compared → ℕ
made_at q [] = 0
made_at q (one ∷ made) = cond (q one.place) 1 0 + made_at q made

-- The two columns, for a pattern w.
abbrev pub at_noholes : List ℕ → List Compared → ℕ
at_noholes w made = made_at (nohole w) made

abbrev pub at_holes : List ℕ → List Compared → ℕ
at_holes w made = made_at (hole w) made
