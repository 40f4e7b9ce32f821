-- The places that are passed agree, and there is one to compare.
use Rattle.std.proofs.Common.{ℕ, ◌+◌, ◌-◌, ◌≤◌, ◌<◌, ◌≡◌}
use Rattle.words.specs.Tables.{letter}
use Rattle.lengths.specs.Internal.Steps.{letters_of}
use Rattle.lengths.proofs.steps.extend.Given as goal

abbrev pub invariant-loop-p : goal.invariant-loop-p
invariant-loop-p l = record {
  same : (q : ℕ) → q < l.p → l.from ≤ q → letter l.letters q ≡ letter (letters_of l.text) (l.b + q);
  from : l.from ≤ l.p;
  more : l.p < l.end;
}

abbrev pub decreases-loop-p : goal.decreases-loop-p
decreases-loop-p l = l.end - l.p
