-- The patterns so far and those of what is left are all, and the bytes are whole where what is left is. What is left gets shorter.
use Rattle.std.proofs.Common.{◌≡◌, ◌+◌, ◌≤◌, length}
use Rattle.packed.specs.Packed.{patterns, whole}
use Rattle.packed.proofs.count.Given as goal

abbrev pub invariant-loop-len : goal.invariant-loop-len
invariant-loop-len l = record {
  in_range : l.number + length l.rest ≤ length l.packed;
  same_whole : whole l.packed ≡ whole l.rest;
  counted_so_far : length (patterns l.packed) ≡ l.number + length (patterns l.rest);
}

abbrev pub decreases-loop-len : goal.decreases-loop-len
decreases-loop-len l = length l.rest
