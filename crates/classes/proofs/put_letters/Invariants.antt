-- The letters of the bytes that are passed stand first.
use Rattle.classes.proofs.Letters.{PutTo}
use Rattle.classes.proofs.put_letters.Given as goal

abbrev pub invariant-loop-i : goal.invariant-loop-i
invariant-loop-i l = PutTo l.bytes l.classes l.initial.letters l.i l.letters
