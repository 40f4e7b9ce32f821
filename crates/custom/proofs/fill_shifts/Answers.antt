-- At first nothing is known of a distance.
use Rattle.std.proofs.Common.{arith}
use Rattle.custom.proofs.Trying.{none_passed}
use Rattle.custom.proofs.fill_shifts.Goals as goal

pub fill-requires-clause-passed : goal.fill-requires-clause-passed
fill-requires-clause-passed c = none_passed _ _ (omega arith)
