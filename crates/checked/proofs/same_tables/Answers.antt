-- Field by field, in the order of `same_tables`.
use mathlib.Core.Bool.{and_assoc}
use Rattle.checked.specs.Check.{same_tables}
use Rattle.checked.proofs.Same.{pointwise_is}
use Rattle.checked.proofs.same_tables.Goals as goal

pub returns : goal.returns
unfolding same_tables
returns c = simp (and_assoc, c.alike.ensures, c.alike-2.ensures, c.alike-3.ensures, c.alike-4.ensures, c.alike-5.ensures, pointwise_is)
