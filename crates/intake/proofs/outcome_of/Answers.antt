-- Who passes in plain terms is whom the tests let pass: the other clause says what they come to.
use mathlib.Core.Path.{sym, ◌∙◌}
use native.Mathlib.Omega.{arith}
use Rattle.intake.proofs.Outcomes.{after_first, zero_class_shared, all_pass, answers}
use Rattle.intake.proofs.outcome_of.Goals as goal

pub returns-then-holds-2-clause-meaning : goal.returns-then-holds-2-clause-meaning
returns-then-holds-2-clause-meaning c =
    (answers _ _ _ (sym (zero_class_shared _ _ _ (omega arith) (omega arith) (sym c.holds.ensures.test ∙ c.if-holds.false) (omega arith)
    (after_first c.args.classes.now c.holds-2.ensures.test ∙ c.if-holds-2.true)))).1

pub returns-clause-meaning : goal.returns-clause-meaning
returns-clause-meaning c =
    (answers _ _ _ (sym (all_pass _ _ _ (omega arith) (omega arith) (sym c.holds.ensures.test ∙ c.if-holds.false) (omega arith)
    (after_first c.args.classes.now c.holds-2.ensures.test ∙ c.if-holds-2.false) (omega arith)))).1
