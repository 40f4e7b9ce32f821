-- The entries that are passed are new places, and marked.
use Rattle.custom.proofs.Seeing.{Seen}
use Rattle.custom.proofs.is_arrangement.Given as goal

abbrev pub invariant-loop-place : goal.invariant-loop-place
invariant-loop-place l = Seen l.m l.order l.seen l.place-index
