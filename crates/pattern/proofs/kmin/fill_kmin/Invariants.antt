-- Each place has the least number stored so far whose hmax it is; k is the next to be stored, and one more.
use Rattle.pattern.proofs.Kmins.{Storing}
use Rattle.pattern.proofs.kmin.fill_kmin.Given as goal

abbrev pub invariant-loop-k : goal.invariant-loop-k
invariant-loop-k l = Storing l.letters l.initial.scratch l.scratch l.k
