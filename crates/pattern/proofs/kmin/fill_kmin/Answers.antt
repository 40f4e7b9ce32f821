-- First m + 1 stands at every place; then each number is stored at the place that is its hmax.
use Rattle.std.proofs.Common.{◌≡◌, ◌+◌, ◌-◌, ◌∙◌, refl, length, arith}
use borrow.Rule.Slice.PartMut.{put_mid}
use Rattle.words.specs.Tables.{hmax}
use Rattle.pattern.specs.Sizes.{kmins_at}
use Rattle.pattern.proofs.Stores.{Filled, part_filled}
use Rattle.pattern.proofs.Kmins.{hmax_le, storing_none, storing_more, storing_all}
use Rattle.pattern.proofs.kmin.fill_kmin.Goals as goal
use Rattle.pattern.proofs.kmin.fill_kmin.Goals.{After-fill, After-from-place}

-- The part is filled,
filled : (c : After-fill) →
    let s = c.args.scratch.now in
    let none = length c.args.letters.now + 1 in
    Filled s (put_mid kmins_at (kmins_at + none - kmins_at) s c.fill.new.self) kmins_at (kmins_at + none) none
filled c = part_filled c.args.scratch.now c.fill.new.self kmins_at _ _ (omega arith) (omega arith) (c.fill.ensures.after (λ y e. e))

-- so that a number's place is still read as its hmax.
read : (c : After-from-place) → c.from-place.result ≡ hmax c.args.letters.now (c.loop-k.k - 1)
read c =
    c.from-place.ensures ∙ c.loop-k.invariant.front (c.loop-k.k - 1) (omega arith)
    ∙ (filled (goal.at.loop-k-preserved c).After-fill).front (c.loop-k.k - 1) (omega arith)
    ∙ c.requires.has_hmax (c.loop-k.k - 1) (omega arith)

pub loop-k-init : goal.loop-k-init
loop-k-init c = storing_none c.args.letters.now c.args.scratch.now _ _ refl (filled (goal.at.loop-k-init c).After-fill)

pub bounds-scratch-place : goal.bounds-scratch-place
bounds-scratch-place c = omega (arith, read c, hmax_le c.args.letters.now (c.loop-k.k - 1) (omega arith) (omega arith))

pub loop-k-preserved : goal.loop-k-preserved
loop-k-preserved c =
    storing_more c.args.letters.now _ c.loop-k.scratch c.loop-k.k (c.loop-k.k - 1) c.from-place.result (omega arith) (omega arith) (omega arith)
    (read c) c.loop-k.invariant

pub returns : goal.returns
returns c =
    storing_all c.args.letters.now c.args.scratch.now _ c.loop-k.scratch c.loop-k.k (omega arith) (omega arith)
    (filled (goal.at.returns c).After-fill) c.loop-k.invariant
