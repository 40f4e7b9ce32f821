-- The counts of up to i words are stored.
use Rattle.ones.proofs.Counting.{Stored}
use Rattle.ones.proofs.whole_words.Given as goal

abbrev pub invariant-loop-i : goal.invariant-loop-i
invariant-loop-i l = Stored l.marks l.whole l.i
