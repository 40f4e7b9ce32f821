-- Each distance is rejected by the present mismatch or by an earlier match, or it is the shift.
use Rattle.std.proofs.Common.{sym, arith}
use Rattle.custom.proofs.Trying.{rejected_at_once, tests_reject, tests_end, tries_end}
use Rattle.custom.proofs.distances.Ranks.shift_at.Goals as goal

pub distances-preserved-then-present_rules_out : goal.distances-preserved-then-present_rules_out
distances-preserved-then-present_rules_out c = record {
  none = c.distances.invariant.none;
  tries = rejected_at_once _ _ _ c.distances.invariant.tries (omega arith) (sym c.if-present_rules_out.ensures);
}

pub distances-preserved : goal.distances-preserved
distances-preserved c = record {
  none = c.distances.invariant.none;
  tries = tests_reject _ _ _ c.ranks.invariant (sym c.if-match_rules_out.ensures) (omega arith);
}

pub returns-after-ranks-clause-value : goal.returns-after-ranks-clause-value
returns-after-ranks-clause-value c = (tests_end _ _ _ c.ranks.invariant c.args.self.now.lent.some (omega arith) {v = c.args.i} (omega arith)).0

pub returns-after-distances-clause-value : goal.returns-after-distances-clause-value
returns-after-distances-clause-value c =
    let tries = c.distances.invariant.tries in
    omega (arith, (tries_end _ _ _ c.args.self.now.lent.some tries (omega arith)).0, tries.upto)
