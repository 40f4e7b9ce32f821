-- Entry 0 is hmax(0).
use Rattle.hmax.proofs.Comparing.{zero_stored}
use Rattle.hmax.proofs.steps.fill.Goals as goal

pub fill_compared-found-requires-clause-has_hmax : goal.fill_compared-found-requires-clause-has_hmax
fill_compared-found-requires-clause-has_hmax c = (zero_stored c.requires).1
