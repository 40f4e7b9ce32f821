-- The scan stands at window b and the matched length i, and where there is more than one letter there is one to compare. What is left of the text is
-- less with each window.
use Rattle.std.proofs.Common.{◌-◌, ◌≤◌, ◌<◌, length}
use Rattle.lengths.specs.Internal.Steps.{letters_of}
use Rattle.lengths.specs.Internal.Scan.{Scans}
use Rattle.lengths.proofs.scan.Prefixes.inside.Given as goal

abbrev pub invariant-loop-b : goal.invariant-loop-b
invariant-loop-b l = record {
  scans : Scans l.self.letters.now (letters_of l.text) l.fn.lengths l.lengths l.b l.i l.again;
  few : l.again ≤ l.b;
  short : 1 < length l.self.letters.now → l.i < length l.self.letters.now;
}

abbrev pub decreases-loop-b : goal.decreases-loop-b
decreases-loop-b l = length l.text.bytes.now - l.b
