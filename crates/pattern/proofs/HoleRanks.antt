-- The holes, written against the order of the places. Assumes nothing.
use Prim.Native.Nat.{ℕ, suc, ◌+◌, ◌-◌, ◌≤◌, ◌<◌}
use mathlib.Core.Path.{◌≡◌, sym, ap, ◌∙◌}
use mathlib.Core.Logic.{⊎_elim}
use mathlib.Core.Bool.{true, false, cond}
use mathlib.Core.List.{List}
use native.Mathlib.Omega.{arith}
use native.Mathlib.Numerals.{add-one}
use lib.Dec.{ltb}
use lib.ListN.{length, set}
use borrow.Author.Tests.{lt-ltb, le-ltb}
use Rattle.std.specs.Int.{from_bool}
use Rattle.words.specs.Numbers.{count, tabulate}
use Rattle.words.specs.Tables.{hmax, nohole, kmin, rmin, below, noholes, place, rank, shift, next}
use Rattle.words.proofs.Cases.{less_or}
use Rattle.words.proofs.Noholes.{hmax_is, kmin_nohole, kmin_hole, nohole_is, zero_hole}
use Rattle.words.proofs.Ranks.{below_le, below_nohole, below_hole, holes_grow, rank_hole, hole_late, rank_inside, place_rank}
use Rattle.words.proofs.Rmin.{rmin_last, rmin_period, rmin_no_period}
use Rattle.words.proofs.Shifts.{shift_hole, next_hole, none_below_first}
use Rattle.intake.specs.Sizes.{longest_pattern}
use Rattle.ones.specs.Marks.{marked}
use Rattle.pattern.specs.Sizes.{ranks}
use Rattle.pattern.specs.Marks.{mark_word}
use Rattle.pattern.specs.Internal.Ranked.{Ranked, RankedAll, Leaves}
use Rattle.pattern.proofs.Bits.{marked_below, one_if}
use Rattle.pattern.proofs.Ranked.{kept_in, more_in, last_ranked}

-- The tables once the places from left up are passed: i is the rank of the next hole.
pub record ListsHoles (w orders shifts nexts : List ℕ) (left i : ℕ) : Type 0 where
  pub rank : i + left ≡ length w + below w left
  pub tables : Ranked w orders shifts nexts i

-- The same, with what the place left leaves with.
pub record Holes (w orders shifts nexts : List ℕ) (left i s n : ℕ) : Type 0 where
  pub upto : left ≤ length w
  pub leaves : Leaves w left s n
  pub room : 0 < left → i < length w
  pub holes : ListsHoles w orders shifts nexts left i

module _ (w : List ℕ) where
  -- ---- What a place leaves with

  pub leaves_begins : Leaves w (length w) (length w) 0
  leaves_begins = record {
    upto = omega arith;
    shift = λ l. absurd (omega arith);
    next = omega (arith, below_le w (length w - length w));
    small = omega arith;
  }

  -- Up to the first nohole nothing is counted,
  pub none_counted : (first p : ℕ) → 1 ≤ length w → first ≡ hmax w 1 → p ≤ first → 0 ≡ below w p
  none_counted first p pos at l = sym (none_below_first w p pos (omega arith))

  -- and else what is counted are the noholes.
  pub below_counted : {marks : List ℕ} (p n : ℕ) → marks ≡ tabulate 4 (mark_word w) → p ≤ 256 → n ≡ count p (marked marks) → n ≡ below w p
  below_counted p n words l e = e ∙ marked_below w p words l

  module _ (p : ℕ) (from : 1 ≤ p) (upto : p ≤ length w) where
    -- p is a period,
    pub leaves_period : (n : ℕ) → length w ≤ hmax w p → n ≡ below w (length w - p) → Leaves w (p - 1) p n
    leaves_period n a e = record {
      upto = upto;
      shift = λ l. ⊎_elim
          (λ (b : p < length w). sym (rmin_period w p from b a))
          (λ (b : length w ≤ p). let last : p ≡ length w = omega arith in rw last (sym (rmin_last w (omega arith))))
          (less_or p (length w));
      next = e;
      small = omega (arith, below_le w (length w - p));
    }

    -- or not.
    pub leaves_no_period : {s n : ℕ} → hmax w p < length w → Leaves w p s n → Leaves w (p - 1) s n
    leaves_no_period a L =
        let inside : p < length w = omega (arith, (hmax_is w p from upto).from) in
        record { upto = L.upto; shift = λ l. L.shift inside ∙ sym (rmin_no_period w p from inside a); next = L.next; small = L.small }

  -- ---- The holes

  pub holes_begin : {orders shifts nexts : List ℕ} (d : ℕ) → d ≡ noholes w → Ranked w orders shifts nexts d
      → ListsHoles w orders shifts nexts (length w) d
  unfolding noholes
  holes_begin d e R = record { rank = omega arith; tables = R }

  -- All places are passed at 0.
  pub holes_end : {orders shifts nexts : List ℕ} (left i : ℕ) → left ≡ 0 → ListsHoles w orders shifts nexts left i
      → Ranked w orders shifts nexts (length w)
  holes_end left i e H =
      let none : below w left ≡ 0 = omega (arith, below_le w left) in
      let all : i ≡ length w = omega (arith, H.rank) in
      rw all at H.tables

  module _ {orders shifts nexts : List ℕ} (short : length w ≤ longest_pattern) (left p i s b k : ℕ) (next_down : left ≡ p + 1)
      (inside : p < length w) (least : k ≡ kmin w p) (E : Leaves w p s b) (H : ListsHoles w orders shifts nexts left i) where
    -- What a hole has at its rank, which is i.
    record HoleAt : Type 0 where
      passed : below w left ≡ below w p
      free : i < length w
      place : p ≡ place w i
      shift : s ≡ shift w i
      next : b ≡ next w i

    hole_at : nohole w p ≡ false → HoleAt
    hole_at e =
        let passed : below w left ≡ below w p = rw (next_down, add-one p) (below_hole w p e) in
        let q : rank w p ≡ i = omega (arith, rank_hole w p inside e, H.rank) in
        let late : noholes w ≤ i = rw q at (hole_late w p inside e) in
        let free : i < length w = rw q at (rank_inside w p inside) in
        let here : place w i ≡ p = rw q at (place_rank w p inside) in
        let shifted : s ≡ shift w i = E.shift inside ∙ sym (shift_hole w i late free ∙ ap (rmin w) here) in
        record { passed = passed; free = free; place = sym here; shift = shifted; next = rw (next_hole w i late, ← shifted) E.next }

    -- A nohole, before which there is a hole: place 0.
    record NoholeAt : Type 0 where
      passed : below w left ≡ suc (below w p)
      free : i < length w

    nohole_at : nohole w p ≡ true → NoholeAt
    nohole_at e =
        let passed : below w left ≡ suc (below w p) = rw (next_down, add-one p) (below_nohole w p e) in
        let some : 1 ≤ p = omega (arith, nohole_is w p e) in
        let first : below w 1 ≡ 0 = below_hole w 0 (zero_hole w) ∙ omega (arith, below_le w 0) in
        record { passed = passed; free = omega (arith, H.rank, holes_grow w 1 p some) }

    list_hole : length w < k → ListsHoles w (set orders i p) (set shifts i s) (set nexts i b) p (i + 1)
    list_hole a =
        let A = hole_at (kmin_hole w p (omega arith)) in
        record {
          rank = omega (arith, H.rank, A.passed);
          tables = record {
            order = more_in w longest_pattern (place w) i p H.tables.order A.free short A.place;
            shift = more_in w ranks (shift w) i s H.tables.shift A.free (omega arith) A.shift;
            next = more_in w ranks (next w) i b H.tables.next A.free (omega arith) A.next;
          };
        }

    -- A nohole is written over by the next hole.
    list_nohole : k ≤ length w → ListsHoles w (set orders i p) (set shifts i s) (set nexts i b) p i
    list_nohole a =
        let A = nohole_at (kmin_nohole w p inside (omega arith)) in
        record {
          rank = omega (arith, H.rank, A.passed);
          tables = record {
            order = kept_in w longest_pattern (place w) i p H.tables.order A.free;
            shift = kept_in w ranks (shift w) i s H.tables.shift A.free;
            next = kept_in w ranks (next w) i b H.tables.next A.free;
          };
        }

    -- As the code counts.
    pub holes_place : ListsHoles w (set orders i p) (set shifts i s) (set nexts i b) p (i + cond (ltb (length w) k) 1 0)
    holes_place = ⊎_elim
        (λ (a : length w < k). rw (lt-ltb (length w) k a) (list_hole a))
        (λ (a : k ≤ length w). let e : i + 0 ≡ i = omega arith in rw (le-ltb (length w) k a, e) (list_nohole a))
        (less_or (length w) k)

  -- ---- From place to place

  -- While a place is left, a rank is free: the place 0 is a hole.
  rank_free : (left i : ℕ) → i + left ≡ length w + below w left → 0 < left → i < length w
  rank_free left i e some =
      let first : below w 1 ≡ 0 = below_hole w 0 (zero_hole w) ∙ omega (arith, below_le w 0) in
      omega (arith, first, holes_grow w 1 left some)

  pub holes_from : {orders shifts nexts : List ℕ} (d : ℕ) → d ≡ noholes w → Ranked w orders shifts nexts d
      → Holes w orders shifts nexts (length w) d (length w) 0
  holes_from d e R =
      let begun = holes_begin d e R in
      record { upto = omega arith; leaves = leaves_begins; room = rank_free (length w) d begun.rank; holes = begun }

  -- One place more: a is what the test adds.
  pub holes_more : {orders shifts nexts : List ℕ} → length w ≤ longest_pattern → (left p i s n k m a : ℕ) {s₀ n₀ : ℕ} → left ≡ p + 1
      → k ≡ kmin w p → m ≡ length w → a ≡ from_bool (ltb m k) → Leaves w p s n → Holes w orders shifts nexts left i s₀ n₀
      → Holes w (set orders i p) (set shifts i s) (set nexts i n) p (i + a) s n
  holes_more {orders} {shifts} {nexts} short left p i s n k m a down least size counts E H =
      let e : a ≡ cond (ltb (length w) k) 1 0 = rw size at (counts ∙ one_if (ltb m k)) in
      let placed = holes_place short left p i s n k down (omega (arith, H.upto)) least E H.holes in
      let more : ListsHoles w (set orders i p) (set shifts i s) (set nexts i n) p (i + a) = rw e placed in
      record { upto = omega (arith, H.upto); leaves = E; room = rank_free p (i + a) more.rank; holes = more }

  pub holes_all : {orders shifts nexts : List ℕ} (left i s n : ℕ) → left ≡ 0 → Holes w orders shifts nexts left i s n
      → length w ≤ longest_pattern → 1 ≤ length w → RankedAll w orders (set shifts (length w) s) (set nexts (length w) n)
  holes_all left i s n e H short some = last_ranked w s n short some (holes_end left i e H.holes) (rw e at H.leaves)
