-- Writing into a lent buffer.
use Rattle.std.specs.Prelude.{ℕ, ◌+◌, ◌≤◌, ◌≡◌, List, ◌++◌, length, take, drop}
use Rattle.job.specs.declared.lines.Lines.{Lines}

-- The bytes s stand from `at` on, the rest is unchanged, and r is the place after them.
pub record Puts (before after : List ℕ) (at : ℕ) (s : List ℕ) (r : ℕ) : Type 0 where
  pub bytes : after ≡ take at before ++ (s ++ drop (at + length s) before)
  pub place : r ≡ at + length s
  pub inside : r ≤ length before

-- The bytes s were written after those that stood, into the same buffer.
pub record Writes (before after : Lines) (s : List ℕ) : Type 0 where
  pub puts : Puts before.out.now after.out.now before.len s after.len
  pub same_buffer : after.out.ghost_name ≡ before.out.ghost_name
