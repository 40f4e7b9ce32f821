-- A bound among entries that ascend: they can be parted by it, and where they are parted it stands. Assumes nothing.
use Prim.Native.Nat.{ℕ, ◌≤◌, ◌<◌}
use mathlib.Core.Path.{◌≡◌}
use mathlib.Core.Logic.{⊎_elim}
use mathlib.Core.Bool.{true, false}
use mathlib.Core.List.{List}
use native.Mathlib.Omega.{arith}
use lib.Dec.{ltb}
use lib.ListN.{length}
use borrow.Author.Tests.{ltb-true, ltb-false}
use Rattle.std.specs.List.Sorted.{IsPartitionedBy, IsPartitionPoint}
use Rattle.std.proofs.lemmas.List.Sorted.{IsPartitionedBy-ltb, IsNonDecreasingBy-from_default}
use Rattle.words.proofs.Cases.{less_or}
use Rattle.lists.specs.Lists.{Ascending, Splits}

module _ (l : List ℕ) (bound : ℕ) where
  pub parted : Ascending l → IsPartitionedBy (λ x. ltb x bound) l
  parted A = IsPartitionedBy-ltb (λ x. x) l bound
      (IsNonDecreasingBy-from_default (λ x. x) l 0
      (λ i j h inside. ⊎_elim
      (λ (k : i < j). omega (arith, A i j k inside))
      (λ (k : j ≤ i). let z : i ≡ j = omega arith in rw z (omega arith))
      (less_or i j)))

  pub parts : {k : ℕ} → k ≤ length l → IsPartitionPoint (λ x. ltb x bound ≡ true) (λ x. ltb x bound ≡ false) l k → Splits l bound k
  parts inside P = record {
    inside = inside;
    below = λ i h. ltb-true _ _ (P.0 i 0 (omega arith) h);
    from = λ i h g. ltb-false _ _ (P.1 i 0 h g);
  }
