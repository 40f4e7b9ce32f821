-- The tests are those of `fits`: where one fails, nothing is filled.
use Rattle.std.proofs.Common.{arith}
use Rattle.hmax.specs.Internal.Steps.{Room}
use Rattle.hmax.proofs.Tables.{filled, no_letter, too_few, too_long}
use Rattle.hmax.proofs.fill_hmax.Goals as goal

pub returns-then-m-lt1 : goal.returns-then-m-lt1
returns-then-m-lt1 c =
    let e = no_letter c.args.bytes.now c.args.table.now (omega arith) in
    record { filled = e.0; compared = e.1.0; few = e.1.1 }

pub returns-then-table-m : goal.returns-then-table-m
returns-then-table-m c =
    let e = too_few c.args.bytes.now c.args.table.now (omega arith) (omega arith) in
    record { filled = e.0; compared = e.1.0; few = e.1.1 }

pub returns-then-m-ge-ENTRY_BOUND : goal.returns-then-m-ge-ENTRY_BOUND
returns-then-m-ge-ENTRY_BOUND c =
    let e = too_long c.args.bytes.now c.args.table.now (omega arith) (omega arith) (omega arith) in
    record { filled = e.0; compared = e.1.0; few = e.1.1 }

pub returns : goal.returns
returns c =
    let room : Room c.args.bytes.now c.args.table.now = record { some = omega arith; entries = omega arith; small = omega arith } in
    let e = filled _ _ room c.fill.auto.table c.fill.ensures in
    record { filled = e.0; compared = e.1.0; few = e.1.1 }
