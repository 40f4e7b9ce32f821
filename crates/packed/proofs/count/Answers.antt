-- Each turn passes one pattern, if its bytes are there. Past the last byte all are counted.
use Rattle.std.proofs.Common.{◌≡◌, false, length, Some, arith, sym, ap, ◌∙◌}
use Rattle.packed.specs.Packed.{patterns, whole, counted}
use Rattle.packed.proofs.Splitting.{whole_cut, whole_past_one, patterns_past_one, patterns_end, whole_end}
use Rattle.packed.proofs.Packing.{counted_cut, counted_all, means, cut_means}
use Rattle.packed.proofs.count.Goals as goal

pub returns-in_err-rest : goal.returns-in_err-rest
returns-in_err-rest c =
    let split = c.in-Some.ensures.cases in
    let short : whole c.loop-len.rest.now ≡ false = rw split.0 (whole_cut _ _ (omega (arith, c.from.ensures, c.in_err-rest.ensures.lookup.0))) in
    let e : c.from_residual.result ≡ counted c.args.packed.now = c.from_residual.ensures ∙ sym (counted_cut _ (c.loop-len.invariant.same_whole ∙ short)) in
    record { answer = e; meaning = means _ e; cut = cut_means _ e }

pub loop-len-preserved : goal.loop-len-preserved
loop-len-preserved c =
    let split = c.in-Some.ensures.cases in
    let left = c.in_ok-rest.ensures.lookup.0 in
    let is = rw (← c.from.ensures) at split.0 in
    record {
      in_range = omega (arith, split, left);
      same_whole = c.loop-len.invariant.same_whole ∙ whole_past_one _ _ is (omega (arith, left)) left.2;
      counted_so_far = omega (arith, c.loop-len.invariant.counted_so_far, ap length (patterns_past_one _ _ is (omega (arith, left)) left.2));
    }

pub returns : goal.returns
returns c =
    let none = c.in_default.ensures.cases in
    let all : length (patterns c.args.packed.now) ≡ c.loop-len.number = omega (arith, ap length (patterns_end _ none)) in
    let e : Some c.loop-len.number ≡ counted c.args.packed.now =
    sym (counted_all _ (c.loop-len.invariant.same_whole ∙ whole_end _ none) ∙ ap Some all) in
    record { answer = e; meaning = means _ e; cut = cut_means _ e }
