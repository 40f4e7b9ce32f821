-- Entries that ascend are parted by the test.
use Rattle.std.proofs.Common.{ltb, rules}
use Rattle.std.proofs.lemmas.List.Sorted.{IsPartitionPoint-from_clause}
use Rattle.correct.proofs.Bisecting.{parted, parts}
use Rattle.correct.proofs.bisect.below.Goals as goal

pub returns : goal.returns
returns c =
    let point =
    IsPartitionPoint-from_clause (λ x. ltb x c.args.bound) _ _ c.partition_point.ensures.partitioned (parted _ _ c.requires) (λ a r f called. search rules) in
    parts _ _ c.partition_point.ensures.bound point
