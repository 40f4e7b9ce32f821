-- The entries after k that those before them give, as a loop stores them one after the other. The prefix of k has period k, so the entry of q - k
-- gives that of q where the prefix that it stands for, shifted up by k, ends before that of k. Assumes nothing.
use Prim.Native.Nat.{ℕ, suc, ◌+◌, ◌-◌, ◌≤◌, ◌<◌}
use mathlib.Core.Path.{◌≡◌, ap, ◌∙◌}
use mathlib.Core.Logic.{⊎_elim}
use mathlib.Core.List.{List}
use native.Mathlib.Omega.{arith}
use lib.ListN.{length, get_or, set}
use Rattle.words.specs.Tables.{hmax}
use Rattle.words.proofs.Cases.{less_or}
use Rattle.words.proofs.Noholes.{hmax_is}
use Rattle.hmax.specs.Table.{HasHmax}
use Rattle.hmax.specs.Internal.Steps.{Derives}
use Rattle.hmax.proofs.Stores.{KeptFrom, kept_same, kept_store, hmax_store}
use Rattle.hmax.proofs.Hmaxes.{given}

-- v is what the entry of q - k gives for q, never less than q; the entries below q are known, and those after k were given so.
pub record Deriving (w before s : List ℕ) (k q v : ℕ) : Type 0 where
  pub above : k < q
  pub near : q ≤ suc (hmax w k)
  pub from : q ≤ v
  pub inside : hmax w k ≤ length w
  pub gives : v ≡ hmax w (q - k) + k
  pub passed : (p : ℕ) → k < p → p < q → hmax w (p - k) + k < hmax w k
  pub known : HasHmax w s q
  pub kept : KeptFrom (suc (length w)) before s

module _ (w before : List ℕ) (k : ℕ) (pos : 1 ≤ k) (le : k ≤ length w) where
  inside : hmax w k ≤ length w
  inside = (hmax_is w k pos le).upto

  -- What is given for q is never less than q.
  given_from : (q : ℕ) → k < q → q ≤ suc (hmax w k) → q ≤ hmax w (q - k) + k
  given_from q above near = omega (arith, (hmax_is w (q - k) (omega arith) (omega (arith, inside))).from)

  pub deriving_start : HasHmax w before (k + 1) → {v : ℕ} → v ≡ get_or before 1 0 + k → Deriving w before before k (k + 1) v
  deriving_start known {v} read =
      let one : k + 1 - k ≡ 1 = omega arith in
      let near : k + 1 ≤ suc (hmax w k) = omega (arith, (hmax_is w k pos le).from) in
      let gives : v ≡ hmax w (k + 1 - k) + k = rw one (read ∙ ap (λ (x : ℕ). x + k) (known 1 (omega arith))) in
      record {
        above = omega arith;
        near = near;
        from = omega (arith, given_from (k + 1) (omega arith) near);
        inside = inside;
        gives = gives;
        passed = λ p a b. absurd (omega arith);
        known = known;
        kept = kept_same before;
      }

  module _ {s : List ℕ} {q v : ℕ} (D : Deriving w before s k q v) where
    -- It is less than the entry of k: one entry more is given, and stored.
    pub deriving_more : v < hmax w k → length w < length before → {u : ℕ} → u ≡ get_or (set s q v) (q + 1 - k) 0 + k
        → Deriving w before (set s q v) k (q + 1) u
    deriving_more less room {u} read =
        let above = D.above in
        let from = D.from in
        let size = D.kept.size in
        let given_less : hmax w (q - k) + k < hmax w k = omega (arith, D.gives) in
        let is : v ≡ hmax w q = omega (arith, D.gives, given w k q pos above (omega (arith, inside)) given_less) in
        let stored = hmax_store s q v w (omega (arith, inside)) is D.known in
        let gives : u ≡ hmax w (q + 1 - k) + k = read ∙ ap (λ (x : ℕ). x + k) (stored (q + 1 - k) (omega arith)) in
        record {
          above = omega arith;
          near = omega arith;
          from = omega (arith, given_from (q + 1) (omega arith) (omega arith));
          inside = inside;
          gives = gives;
          passed = λ p a b. ⊎_elim
              (λ (before : p < q). D.passed p a before)
              (λ (after : q ≤ p). let same : p ≡ q = omega arith in rw same given_less)
              (less_or p q);
          known = stored;
          kept = kept_store s q v (omega (arith, inside)) D.kept;
        }

    -- It is not: no more are given.
    pub deriving_end : hmax w k ≤ v → Derives w before s k q
    deriving_end more = record {
      first = record {
        more = D.above;
        upto = omega (arith, D.near, inside);
        passed = D.passed;
        stops = λ l. omega (arith, D.gives);
      };
      known = D.known;
      rest = D.kept.rest;
    }
