-- The noholes among the first places of an order, as they are counted. Assumes nothing.
use Prim.Native.Nat.{ℕ, suc, ◌+◌, ◌≤◌, ◌<◌}
use mathlib.Core.Path.{◌≡◌, refl, sym, ap, ◌∙◌}
use mathlib.Core.Bool.{Bool, true, false, cond}
use mir.Val.{bool_byte}
use mathlib.Core.List.{List}
use native.Mathlib.Numerals.{add-one}
use native.Mathlib.Omega.{arith}
use lib.ListN.{length, get_or, set}
use lib.Seq.{get_or-set_same}
use Rattle.words.specs.Numbers.{count}
use Rattle.words.specs.Tables.{nohole}
use Rattle.words.proofs.Numbers.{count_zero, count_le, count_same}
use Rattle.hmax.proofs.Stores.{after_store}
use Rattle.custom.specs.Order.{Arrangement}
use Rattle.ones.specs.Marks.{marked}
use Rattle.ordered.specs.Internal.{MarkedAmong, noholes_among}

-- ---- By the marks

-- A test's number is what it adds to a count.
byte_is : (b : Bool) → bool_byte b ≡ cond b 1 0
byte_is true = refl
byte_is false = refl

module _ (order marks : List ℕ) where
  -- Of the first i places c are marked, and the entries up to i say so.
  pub record CountedTo (among : List ℕ) (c i : ℕ) : Type 0 where
    pub number : c ≡ count i (λ j. marked marks (get_or order j 0))
    pub entries : MarkedAmong order marks among i

  pub none_counted : (lent : List ℕ) → 0 < length lent → CountedTo (set lent 0 0) 0 0
  none_counted lent room = record {
    number = sym (count_zero (λ j. marked marks (get_or order j 0)));
    entries = λ i l.
        let z : i ≡ 0 = omega arith in
        rw z (get_or-set_same lent 0 0 0 room ∙ sym (count_zero (λ j. marked marks (get_or order j 0))));
  }

  module _ {among : List ℕ} {c i : ℕ} (C : CountedTo among c i) where
    pub few : c ≤ i
    few = omega (arith, C.number, count_le i (λ j. marked marks (get_or order j 0)))

    -- The next place is counted, and its entry stored.
    pub one_counted : i + 1 < length among → {d : Bool} {a : ℕ} → d ≡ marked marks (get_or order i 0) → a ≡ bool_byte d
        → CountedTo (set among (i + 1) (c + a)) (c + a) (i + 1)
    one_counted room {d} {a} is adds =
        let number : c + a ≡ count (i + 1) (λ j. marked marks (get_or order j 0)) =
        rw (adds, is, add-one i) (unfold count in omega (arith, C.number, byte_is (marked marks (get_or order i 0)))) in
        record {
          number = number;
          entries = λ j l. after_store among (i + 1) (c + a) (λ x. x ≡ count j (λ j. marked marks (get_or order j 0))) j room
              (λ here. number ∙ ap (λ n. count n (λ j. marked marks (get_or order j 0))) (sym here))
              (λ other. C.entries j (omega arith));
        }

-- ---- They are the noholes

module _ (w order : List ℕ) where
  pub among_none : noholes_among w order 0 ≡ 0
  unfolding noholes_among
  among_none = count_zero (λ j. nohole w (get_or order j 0))

  pub among_more : (i : ℕ) → noholes_among w order (suc i) ≡ cond (nohole w (get_or order i 0)) 1 0 + noholes_among w order i
  unfolding noholes_among count
  among_more i = refl

  -- Where the marks are those of w.
  pub among_marked : (marks among : List ℕ) → Arrangement (length w) order → length w ≤ 256 → ((p : ℕ) → p < 256 → marked marks p ≡ nohole w p)
      → MarkedAmong order marks among (length order) → (i : ℕ) → i ≤ length w → get_or among i 0 ≡ noholes_among w order i
  unfolding noholes_among
  among_marked marks among A short is M i l = M i (omega (arith, A.size))
      ∙ count_same i (λ j. marked marks (get_or order j 0)) (λ j. nohole w (get_or order j 0)) (λ j h. is _ (omega (arith, A.inside j (omega arith))))
