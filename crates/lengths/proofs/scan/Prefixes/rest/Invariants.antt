-- However the scan came to stand where the loop begins, it stands at window b and the matched length i, with so many more counted. What is left of
-- the text is less with each window.
use Rattle.std.proofs.Common.{List, ℕ, ◌+◌, ◌-◌, ◌≤◌, length}
use Rattle.lengths.specs.Internal.Steps.{letters_of}
use Rattle.lengths.specs.Internal.Scan.{Scans}
use Rattle.lengths.proofs.scan.Prefixes.rest.Given as goal

abbrev pub invariant-loop-b : goal.invariant-loop-b
invariant-loop-b l = record {
  scans : (before : List ℕ) (again : ℕ) → Scans l.self.letters.now (letters_of l.text) before l.fn.lengths l.fn.b l.fn.i again
      → Scans l.self.letters.now (letters_of l.text) before l.lengths l.b l.i (again + l.again);
  upto : l.i ≤ length l.self.letters.now;
  inside : l.b + l.i ≤ length l.text.bytes.now;
  few : l.again ≤ l.b;
}

abbrev pub decreases-loop-b : goal.decreases-loop-b
decreases-loop-b l = length l.text.bytes.now - l.b
