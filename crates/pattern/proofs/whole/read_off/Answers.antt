-- The fields are what the functions that are called ensure.
use Rattle.std.proofs.Common.{ℕ, ◌≤◌, ◌∙◌, length, arith}
use Rattle.std.proofs.lemmas.List.{length-replicate}
use Rattle.words.specs.Tables.{place, shift}
use Rattle.intake.specs.Sizes.{longest_pattern}
use Rattle.pattern.specs.Sizes.{ranks}
use Rattle.pattern.proofs.Ranked.{none_in}
use Rattle.pattern.proofs.NoholeRanks.{list_begins, all_listed, few_listed, askable, nexts_asked, taken, askable_taken, asks_taken}
use Rattle.pattern.proofs.Building.{fields}
use Rattle.pattern.proofs.whole.read_off.Goals as goal
use Rattle.pattern.proofs.whole.read_off.Goals.{After-list_noholes-marks}

-- No more ranks are listed for later than there is room for.
room : (c : After-list_noholes-marks) → c.list_noholes-marks.new.listed.many ≤ length c.list_noholes-marks.new.listed.later
room c =
    let L = c.list_noholes-marks.ensures.all in
    omega (arith, few_listed c.args.tables.now.letters.now _ _ L, c.args.tables.now.sizes.short, L.size)

pub list_noholes-marks-requires : goal.list_noholes-marks-requires
list_noholes-marks-requires c =
    let w = c.args.tables.now.letters.now in
    record { none = list_begins w (none_in w longest_pattern (place w)) (none_in w ranks (shift w)) (length-replicate {A = ℕ} longest_pattern 0) }

pub shared_ref_as_front-next_noholes : goal.shared_ref_as_front-next_noholes
shared_ref_as_front-next_noholes c =
    let w = c.args.tables.now.letters.now in
    omega (arith, few_listed w _ _ c.list_noholes-marks.ensures.all, c.args.tables.now.sizes.short)

pub slice_bounds-next_noholes-end : goal.slice_bounds-next_noholes-end
slice_bounds-next_noholes-end c = taken _ _ (room (goal.at.slice_bounds-next_noholes-end c).After-list_noholes-marks)

pub next_noholes-requires : goal.next_noholes-requires
next_noholes-requires c =
    let w = c.args.tables.now.letters.now in
    record {
      askable = askable_taken _ _ (room (goal.at.next_noholes-requires c).After-list_noholes-marks)
          (askable w _ _ c.list_noholes-marks.ensures.all c.args.tables.now.sizes.short);
    }

pub list_holes-requires-clause-d_value : goal.list_holes-requires-clause-d_value
list_holes-requires-clause-d_value c =
    let w = c.args.tables.now.letters.now in
    let L = c.list_noholes-marks.ensures.all in
    let asks = rw c.list_noholes-marks.ensures.next at c.next_noholes.ensures.asks in (
      all_listed w _ _ L,
      record {
        order = rw c.next_noholes.ensures.others.0 L.order;
        shift = rw c.next_noholes.ensures.others.1 L.shift;
        next = nexts_asked w _ _ L c.args.tables.now.sizes.short (c.new-counted.ensures ∙ c.list_noholes-marks.ensures.marks)
            (asks_taken _ _ (room (goal.at.list_holes-requires-clause-d_value c).After-list_noholes-marks) asks);
      },
    )

pub returns : goal.returns
returns c =
    fields _ _ _ c.requires.bytes_len.1 (all_listed _ _ _ c.list_noholes-marks.ensures.all) c.copied.ensures c.copied-2.ensures
    c.list_holes.ensures c.list_noholes-marks.ensures.marks
