-- The test so far: whether the first i entries ascend. Where none is in use, i stays 1.
use Rattle.std.proofs.Common.{◌≡◌, ◌≤◌, ◌-◌, max}
use Rattle.words.specs.Numbers.{every}
use Rattle.lists.proofs.Ascending.{rises}
use Rattle.lists.proofs.in_order.Given as goal

abbrev pub invariant-loop-i : goal.invariant-loop-i
invariant-loop-i l = (l.i ≤ max 1 l.used) × (l.rises ≡ every (l.i - 1) (rises l.list))
