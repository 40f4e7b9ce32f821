-- The records that were passed touch, and `end` is where the last of them ends: the sum of two numbers of four bytes.
use Rattle.std.proofs.Common.{◌≡◌, ◌^◌, ◌<◌}
use Rattle.directory.specs.Archive.{end_before}
use Rattle.directory.proofs.Touching.{Touch}
use Rattle.directory.proofs.read.touch.Given as goal

abbrev pub invariant-loop-r : goal.invariant-loop-r
invariant-loop-r l = record {
  at_end : l.end ≡ end_before l.archive l.start l.r;
  small : l.end < 2 ^ 33;
  touching : Touch l.archive l.start l.r;
}
