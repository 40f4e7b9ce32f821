-- A table of hmax, filled turn by turn in step with the fast method: first with comparisons, then without. Assumes nothing.
use Prim.Native.Nat.{ℕ, suc, ◌+◌, ◌-◌, ◌≤◌, ◌<◌}
use mathlib.Core.Path.{◌≡◌, sym, subst}
use mathlib.Core.List.{List}
use native.Mathlib.Omega.{arith}
use lib.ListN.{length, set}
use Rattle.words.specs.Tables.{hmax}
use Rattle.words.proofs.Noholes.{hmax_is, hmax_zero}
use Rattle.hmax.specs.Table.{HasHmax}
use Rattle.hmax.specs.Internal.Steps.{Room, Derives, BeginsAt, Compares}
use Rattle.hmax.proofs.Stores.{KeptFrom, kept_same, kept_both, kept_store, next_stored}
use Rattle.hmax.proofs.Hmaxes.{not_given}
use Rattle.hmax.proofs.Following.{Counts, counts_first, counts_begins, counts_few, counts_next, counts_found}

-- ---- The turns that compare

-- The turn of k has found its entry i. The places tell how many comparisons were made before it, and the entries below k are known.
pub record Comparing (w before s : List ℕ) (k again i : ℕ) : Type 0 where
  pub from : ℕ
  pub counts : Counts w k from again
  pub positive : 1 ≤ k
  pub inside : k ≤ length w
  pub place : i ≡ hmax w k
  pub above : k ≤ i
  pub upto : i ≤ length w
  pub few : again < k
  pub known : HasHmax w s k
  pub kept : KeptFrom (suc (length w)) before s

-- It is so, where its turn is counted from a place.
comparing : {w before s : List ℕ} {k again i : ℕ} (from : ℕ) → Counts w k from again → i ≡ hmax w k → HasHmax w s k
    → KeptFrom (suc (length w)) before s → Comparing w before s k again i
comparing {w} {before} {s} {k} {again} {i} from C is known kept =
    let B = counts_begins w k from again C in
    let H = hmax_is w k B.positive C.inside in
    record {
      from = from;
      counts = C;
      positive = B.positive;
      inside = C.inside;
      place = is;
      above = omega (arith, H.from);
      upto = omega (arith, H.upto);
      few = counts_few w k from again C;
      known = known;
      kept = kept;
    }

-- What the search for an entry asks, for the first,
pub first_begins : (w : List ℕ) → 1 ≤ length w → (1 ≤ 1) × (1 ≤ 1) × (1 ≤ length w) × (1 ≤ hmax w 1)
first_begins w some = (omega arith, omega arith, some, (hmax_is w 1 (omega arith) some).from)

pub comparing_start : {w before : List ℕ} {i : ℕ} → Room w before → HasHmax w before 1 → i ≡ hmax w 1 → Comparing w before before 1 0 i
comparing_start {w} {before} R known is = comparing 1 (counts_first w R.some) is known (kept_same before)

module _ {w before s : List ℕ} {k again i : ℕ} (C : Comparing w before s k again i) where
  module _ (differ : i < length w) {t : List ℕ} {r from more : ℕ} (D : Derives w (set s k i) t k r) (B : BeginsAt r i again from more) where
    counts_on : Counts w r from more
    counts_on =
        let place = C.place in
        counts_next w k C.from again C.counts r from more (omega arith) D.first (subst (λ i. BeginsAt r i again from more) place B)

    -- and for the next one.
    pub next_begins : (1 ≤ r) × (r ≤ from) × (r ≤ length w) × (from ≤ hmax w r)
    next_begins =
        let on = counts_on in
        let begins = counts_begins w r from more on in
        (begins.positive, begins.from, on.inside, begins.known on.inside)

    pub comparing_more : {j : ℕ} → length t ≡ length (set s k i) → j ≡ hmax w r → Comparing w before t r more j
    comparing_more size is = comparing from counts_on is D.known
        (kept_both (kept_store s k i (omega (arith, C.inside)) C.kept) record { rest = D.rest; size = size })

  pub comparing_end : length w ≤ i → Compares w before s k (i - 1 + again)
  comparing_end end =
      let whole : hmax w k ≡ length w = omega (arith, C.place, C.upto) in
      record {
        positive = C.positive;
        inside = C.inside;
        whole = whole;
        known = C.known;
        steps = omega (arith, counts_found w k C.from again C.counts whole, C.place);
        rest = C.kept.rest;
      }

-- ---- The turns after them, whose entries are m

-- Once an entry is m, so is each that is not derived: the pattern has its k as a period.
pub record Ending (w before s : List ℕ) (k : ℕ) : Type 0 where
  pub positive : 1 ≤ k
  pub upto : k ≤ suc (length w)
  pub whole : k ≤ length w → hmax w k ≡ length w
  pub known : HasHmax w s k
  pub kept : KeptFrom (suc (length w)) before s

module _ {w before s : List ℕ} {k : ℕ} (E : Ending w before s k) where
  pub ending_more : k ≤ length w → {t : List ℕ} {r : ℕ} → Derives w (set s k (length w)) t k r → length t ≡ length (set s k (length w))
      → Ending w before t r
  ending_more inside {t} {r} D size =
      let first = D.first in
      record {
        positive = omega (arith, first.more);
        upto = first.upto;
        whole = λ l. omega (
          arith,
          not_given w k r E.positive first.more l (first.stops l),
          E.whole inside,
          (hmax_is w r (omega (arith, first.more)) l).upto,
        );
        known = D.known;
        kept = kept_both (kept_store s k (length w) (omega arith) E.kept) record { rest = D.rest; size = size };
      }

-- ---- All of them

-- Entry 0 is m, which is hmax(0).
pub zero_stored : {w before : List ℕ} → Room w before → Room w (set before 0 (length w)) × HasHmax w (set before 0 (length w)) 1
zero_stored {w} {before} R =
    next_stored w before before 0 (length w) R (kept_same {n = 0} before) (omega arith) (sym (hmax_zero w)) (λ k l. absurd (omega arith))
