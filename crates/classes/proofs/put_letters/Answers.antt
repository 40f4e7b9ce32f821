-- Each letter put is the class of its byte, and after the last all are put.
use Rattle.std.proofs.Common.{arith}
use Rattle.classes.proofs.Letters.{one_put, all_put}
use Rattle.classes.proofs.Through.{class_entry}
use Rattle.classes.proofs.put_letters.Goals as goal

pub loop-i-preserved : goal.loop-i-preserved
loop-i-preserved c = one_put _ _ _ _ c.loop-i.invariant (omega arith) (omega arith) (grind (arith, class_entry))

pub returns : goal.returns
returns c = record { put = all_put _ _ _ c.loop-i.i c.loop-i.invariant (omega arith) (omega arith) (omega arith) }
