-- found says whether z is one of the bytes before the loop's.
use Rattle.words.proofs.Holding.{Looked}
use Rattle.intake.proofs.holds.Given as goal

abbrev pub invariant-loop-byte : goal.invariant-loop-byte
invariant-loop-byte l = Looked l.z l.bytes l.byte-index l.found
