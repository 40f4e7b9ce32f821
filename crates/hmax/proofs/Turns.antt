-- A turn of the main loop: where it begins, and where it leaves off. Assumes nothing.
use Prim.Native.Nat.{ℕ, suc, ◌-◌, ◌≤◌, ◌<◌, max}
use mathlib.Core.Path.{◌≡◌}
use mathlib.Core.Logic.{⊎_elim}
use mathlib.Core.List.{List}
use native.Mathlib.Omega.{arith}
use lib.ListN.{length}
use Rattle.words.specs.Tables.{hmax}
use Rattle.words.proofs.Cases.{less_or}
use Rattle.words.proofs.Noholes.{hmax_is}
use Rattle.hmax.specs.Internal.Steps.{Underived}
use Rattle.hmax.proofs.Hmaxes.{not_given}

-- There is one entry at which the derived ones stop.
pub underived_unique : (w : List ℕ) (k r s : ℕ) → Underived w k r → Underived w k s → r ≡ s
underived_unique w k r s R S = ⊎_elim
    (λ (a : r < s). absurd (omega (arith, R.stops (omega (arith, S.upto)), S.passed r R.more a)))
    (λ (a : s ≤ r). ⊎_elim
    (λ (b : s < r). absurd (omega (arith, S.stops (omega (arith, R.upto)), R.passed s S.more b)))
    (λ (b : r ≤ s). omega arith)
    (less_or s r))
    (less_or r s)

-- It is not far: hmax(q - k) + k is at least q.
pub underived_near : (w : List ℕ) (k r : ℕ) → 1 ≤ k → k ≤ length w → Underived w k r → r ≤ suc (hmax w k)
underived_near w k r pos le U = ⊎_elim
    (λ (a : suc (hmax w k) < r).
    let H = hmax_is w k pos le in
    let q : ℕ = suc (hmax w k) in
    absurd (omega (arith, U.passed q (omega (arith, H.from)) a, (hmax_is w (q - k) (omega (arith, H.from)) (omega (arith, H.upto))).from)))
    (λ (a : r ≤ suc (hmax w k)). a)
    (less_or (suc (hmax w k)) r)

-- A turn begins with i from k on and not past hmax(k).
pub record Begins (w : List ℕ) (k i : ℕ) : Type 0 where
  pub positive : 1 ≤ k
  pub from : k ≤ i
  pub upto : i ≤ suc (length w)
  pub known : k ≤ length w → i ≤ hmax w k

pub begins_first : (w : List ℕ) → Begins w 1 1
begins_first w = record { positive = omega arith; from = omega arith; upto = omega arith; known = λ l. (hmax_is w 1 (omega arith) l).from }

-- So does the next, at the first entry r that is not derived: the prefix of k has the period r, where r does not lie past its end.
pub begins_next : (w : List ℕ) (k i r : ℕ) → Begins w k i → k ≤ length w → Underived w k r → Begins w r (max r (hmax w k))
begins_next w k i r B le U = record {
  positive = omega (arith, U.more);
  from = omega arith;
  upto = omega (arith, U.upto, (hmax_is w k B.positive le).upto);
  known = λ l. omega (arith, (hmax_is w r (omega (arith, U.more)) l).from, not_given w k r B.positive U.more l (U.stops l));
}
