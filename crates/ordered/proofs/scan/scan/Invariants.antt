-- The search goes by rank 0 of window b, and what is left of the text is less with each window.
use Rattle.std.proofs.Common.{suc, ◌-◌, length}
use Rattle.ordered.specs.Internal.{letters_of}
use Rattle.ordered.proofs.Scanning.{InOrder}
use Rattle.ordered.proofs.scan.scan.Given as goal

abbrev pub invariant-loop-b : goal.invariant-loop-b
invariant-loop-b l = InOrder l.letters l.order (letters_of l.text) l.cap l.fn.positions l.positions l.b l.left l.q l.k

abbrev pub decreases-loop-b : goal.decreases-loop-b
decreases-loop-b l = suc (length l.text.bytes.now) - l.b
