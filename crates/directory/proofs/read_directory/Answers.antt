-- What each answer means follows from its being that of the definition.
use Rattle.std.proofs.Common.{arith}
use Rattle.directory.specs.Archive.{directory_start, record_count}
use Rattle.directory.proofs.Reading.{tests, read_means}
use Rattle.directory.proofs.read_directory.Goals as goal

pub returns-then-not-closes-clause-meaning : goal.returns-then-not-closes-clause-meaning
returns-then-not-closes-clause-meaning c = read_means _ (grind (arith, tests))

pub returns-then-not-touch-clause-meaning : goal.returns-then-not-touch-clause-meaning
unfolding directory_start record_count
returns-then-not-touch-clause-meaning c = read_means _ (grind (arith, tests))

pub returns-clause-meaning : goal.returns-clause-meaning
unfolding directory_start record_count
returns-clause-meaning c = read_means _ (grind (arith, tests))
