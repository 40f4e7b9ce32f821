-- An entry that is no new place refuses the order; without one, all entries are new places. That the first m entries are all is a fact of its own here, so
-- that a loop over these alone is refused for the length of the order, and for nothing else.
use Rattle.std.proofs.Common.{◌≡◌, true, false, take, rules, arith, subst}
use lib.Seq.{length-take-le, take_all}
use Rattle.custom.specs.Order.{arranged}
use Rattle.custom.proofs.Seeing.{seen_none, wrong_size, outside, seen_before, all_seen}
use Rattle.custom.proofs.is_arrangement.Goals as goal
use Rattle.custom.proofs.is_arrangement.Goals.{then-m-place-via-then-m-place, then-m-place-via-else-m-place+then-seen-place}

pub returns-then-order-m-clause-answer : goal.returns-then-order-m-clause-answer
returns-then-order-m-clause-answer c = (wrong_size c.args.m c.args.order.now (λ e. omega arith)).0

pub loop-place-init : goal.loop-place-init
loop-place-init c = seen_none _ _

pub returns-then-m-place-clause-answer : goal.returns-then-m-place-clause-answer
returns-then-m-place-clause-answer c =
    let first = length-take-le c.args.m c.args.order.now (omega arith) in
    let whole : take c.args.m c.args.order.now ≡ c.args.order.now = take_all c.args.m c.args.order.now (omega arith) in
    elim c.then-m-place.branch [
      | then-m-place-via-then-m-place w ↦ subst (λ l. false ≡ arranged c.args.m l) (search (rules, whole))
          (outside _ _ c.loop-place.invariant c.from-place.ensures (omega arith) (omega (arith, first)) (omega arith)).0
      | then-m-place-via-else-m-place+then-seen-place w ↦ subst (λ l. false ≡ arranged c.args.m l) (search (rules, whole))
          (seen_before _ _ c.loop-place.invariant c.from-place.ensures (omega arith) (omega (arith, first)) w.if-seen-place.true).0
    ]

pub returns-clause-answer : goal.returns-clause-answer
returns-clause-answer c =
    let first = length-take-le c.args.m c.args.order.now (omega arith) in
    let whole : take c.args.m c.args.order.now ≡ c.args.order.now = take_all c.args.m c.args.order.now (omega arith) in
    subst (λ l. true ≡ arranged c.args.m l) (search (rules, whole)) (all_seen _ _ c.loop-place.invariant (omega (arith, first)) (omega (arith, first))).0
