-- Ones of the whole words below a place, plus ones of the last word's remainder below it, are the marks below the place. Assumes nothing.
use Prim.Native.Nat.{ℕ, zero, suc, ◌+◌, ◌-◌, ◌*◌, ◌/◌, ◌%◌, ◌^◌, ◌≤◌, ◌<◌}
use mathlib.Core.Path.{◌≡◌, refl, sym, ap, ◌∙◌}
use mathlib.Core.Logic.{⊎_elim}
use mathlib.Core.Bool.{Bool, false, cond}
use mathlib.Core.List.{List, [], ◌∷◌}
use native.Mathlib.Omega.{arith}
use native.Mathlib.Numerals.{add-one}
use native.Mathlib.Nat.{mod-one, mod-lt, mod-eq_of_lt}
use lib.Bits.{bit_and, and_mask}
use lib.Pow.{pow_pos, pow-lt, mod-pow-add, shl_exact}
use lib.Count.{ones, ones_cat, ones-le}
use lib.Dec.{eqb}
use lib.ListN.{length, get_or, set, length-set}
use lib.Seq.{get_or-set_same, get_or-set_other, ext_get_or}
use borrow.Author.Tests.{lt-ltb, le-ltb}
use Rattle.words.specs.Numbers.{count}
use Rattle.words.proofs.Cases.{less_or}
use Rattle.words.proofs.Numbers.{count_zero, count_split, count_same, count_none}
use Rattle.ones.specs.Marks.{marked, low_ones, ones_of, whole_words, ones_below}

-- ---- One word

-- Bit j of a word is set.
abbrev set_at : ℕ → ℕ → Bool
set_at word j = eqb (word / 2 ^ j % 2) 1

bit_ones : (b : ℕ) → b < 2 → ones b ≡ cond (eqb b 1) 1 0
unfolding ones
bit_ones zero l = refl
bit_ones (suc zero) l = refl
bit_ones (suc (suc b)) l = absurd (omega arith)

-- The ones among the n lowest bits are the bits set below n.
low_ones_lem : (word n : ℕ) → low_ones word n ≡ count n (set_at word)
unfolding low_ones count ones
low_ones_lem word zero = ap ones (mod-one word)
low_ones_lem word (suc n) =
    let bit : ℕ = word / 2 ^ n % 2 in
    let e : 1 + n ≡ suc n = omega arith in
    ap ones (rw e at (mod-pow-add word 1 n)) ∙ ones_cat n bit (word % 2 ^ n) (mod-lt word (pow_pos n))
    ∙ omega (arith, bit_ones bit (mod-lt (word / 2 ^ n) (omega arith)), low_ones_lem word n)

-- There are n of them at most.
pub low_ones_le : (word n : ℕ) → low_ones word n ≤ n
unfolding low_ones
low_ones_le word n = ones-le n (word % 2 ^ n) (mod-lt word (pow_pos n))

-- A word is its 64 bits.
pub all_bits : (word : ℕ) → word < 2 ^ 64 → ones word ≡ low_ones word 64
unfolding low_ones
all_bits word l = ap ones (sym (mod-eq_of_lt l))

-- No bit is lost where a one is shifted to a place.
pub mask_is : (place : ℕ) → place < 64 → (1 * 2 ^ place) % 2 ^ 64 ≡ 2 ^ place
mask_is place l = shl_exact {a = 1} 1 place 64 (omega arith) (omega arith) ∙ omega arith

-- The mask has the bits below a place, so what it leaves of a word is the word's remainder by 2 ^ place.
pub below_place : (word place mask : ℕ) → place < 64 → mask ≡ (1 * 2 ^ place) % 2 ^ 64 → low_ones (bit_and word (mask - 1)) 64 ≡ low_ones word place
unfolding low_ones
below_place word place mask l e =
    let shifted : mask ≡ 2 ^ place = e ∙ mask_is place l in
    let below : word % 2 ^ place < 2 ^ 64 = omega (arith, mod-lt word (pow_pos place), pow-lt {i = place} {j = 64} l) in
    rw (shifted, and_mask word place) (ap ones (mod-eq_of_lt below))

-- ---- All words

module _ (marks : List ℕ) where
  bit_marked : (i j : ℕ) → i < 4 → j < 64 → marked marks (64 * i + j) ≡ set_at (get_or marks i 0) j
  unfolding marked
  bit_marked i j l h =
      let word : (64 * i + j) / 64 ≡ i = omega arith in
      let bit : (64 * i + j) % 64 ≡ j = omega arith in
      rw (lt-ltb (64 * i + j) 256 (omega arith), word, bit) refl

  -- The marks below a place of word i.
  in_word : (i n : ℕ) → i < 4 → n ≤ 64 → count (64 * i + n) (marked marks) ≡ count (64 * i) (marked marks) + low_ones (get_or marks i 0) n
  in_word i n l h =
      count_split (64 * i) n (marked marks)
      ∙ ap (λ x. count (64 * i) (marked marks) + x)
      (count_same n (λ j. marked marks (64 * i + j)) (set_at (get_or marks i 0)) (λ j g. bit_marked i j l (omega arith)) ∙ sym (low_ones_lem (get_or marks i 0) n))

  -- The marks of the first i words.
  of_words : (i : ℕ) → i ≤ 4 → count (64 * i) (marked marks) ≡ ones_of marks i
  unfolding ones_of
  of_words zero l = count_zero (marked marks)
  of_words (suc i) l =
      let e : 64 * suc i ≡ 64 * i + 64 = omega arith in
      rw e (in_word i 64 l (omega arith) ∙ ap (λ x. x + low_ones (get_or marks i 0) 64) (of_words i (omega arith)))

  -- No place from 256 on is marked.
  past_all : (p : ℕ) → 256 ≤ p → count p (marked marks) ≡ ones_of marks 4
  unfolding marked
  past_all p l =
      let e : 256 + (p - 256) ≡ p = omega arith in
      let none = count_none (p - 256) (λ i. marked marks (256 + i)) (λ i h. rw (le-ltb (256 + i) 256 (omega arith)) refl) in
      rw e at (count_split 256 (p - 256) (marked marks)) ∙ omega (arith, none, of_words 4 (omega arith))

  whole_at : (i : ℕ) → i ≤ 4 → get_or (whole_words marks) i 0 ≡ ones_of marks i
  unfolding whole_words
  whole_at zero l = refl
  whole_at (suc zero) l = refl
  whole_at (suc (suc zero)) l = refl
  whole_at (suc (suc (suc zero))) l = refl
  whole_at (suc (suc (suc (suc zero)))) l = refl
  whole_at (suc (suc (suc (suc (suc i))))) l = absurd (omega arith)

  -- For every place p, and on any marks.
  pub marks_below : (p : ℕ) → ones_below marks (whole_words marks) p ≡ count p (marked marks)
  unfolding ones_below
  marks_below p = ⊎_elim
      (λ (a : p < 256).
      let e : 64 * (p / 64) + p % 64 ≡ p = omega arith in
      rw (lt-ltb p 256 a, ones_below)
      (omega (arith, whole_at (p / 64) (omega arith), of_words (p / 64) (omega arith), rw e at (in_word (p / 64) (p % 64) (omega arith) (omega arith)))))
      (λ (a : 256 ≤ p). rw (le-ltb p 256 a, ones_below) (whole_at 4 (omega arith) ∙ sym (past_all p a)))
      (less_or p 256)

  -- ---- What the functions answer

  -- As many ones as the words have bits, at most.
  pub ones_of_le : (i : ℕ) → ones_of marks i ≤ 64 * i
  unfolding ones_of low_ones
  ones_of_le zero = omega arith
  ones_of_le (suc i) = omega (arith, ones_of_le i, low_ones_le (get_or marks i 0) 64)

  -- The counts of up to i words are stored in a list of five, of which none is stored yet,
  pub record Stored (whole : List ℕ) (i : ℕ) : Type 0 where
    size : length whole ≡ 5
    each : (k : ℕ) → k ≤ i → get_or whole k 0 ≡ ones_of marks k

  pub none_stored : Stored (0 ∷ 0 ∷ 0 ∷ 0 ∷ 0 ∷ []) 0
  unfolding ones_of
  none_stored = record { size = refl; each = λ k l. let e : k ≡ 0 = omega arith in rw e refl }

  -- and one more,
  pub next_stored : (whole : List ℕ) (i n : ℕ) → i < 4 → n ≡ low_ones (get_or marks i 0) 64 → Stored whole i
      → Stored (set whole (i + 1) (get_or whole i 0 + n)) (i + 1)
  unfolding ones_of
  next_stored whole i n l e S = record {
    size = length-set whole (i + 1) (get_or whole i 0 + n) ∙ S.size;
    each = λ k h. ⊎_elim
        (λ (a : k < i + 1). get_or-set_other whole (i + 1) k (get_or whole i 0 + n) 0 (λ q. omega arith) ∙ S.each k (omega arith))
        (λ (a : i + 1 ≤ k).
        let here : k ≡ i + 1 = omega arith in
        rw here (get_or-set_same whole (i + 1) (get_or whole i 0 + n) 0 (omega (arith, S.size))
        ∙ rw (S.each i (omega arith), e, add-one i, ones_of) refl))
        (less_or k (i + 1));
  }

  -- which is at most as many ones as the words have bits.
  pub stored_le : (whole : List ℕ) (i : ℕ) → Stored whole i → get_or whole i 0 ≤ 64 * i
  stored_le whole i S = rw (S.each i (omega arith)) (ones_of_le i)

  -- All are the list.
  pub all_stored : (whole : List ℕ) → Stored whole 4 → whole ≡ whole_words marks
  unfolding whole_words
  all_stored whole S = ext_get_or 0 whole (whole_words marks) S.size (λ i l.
      let upto : i ≤ 4 = omega (arith, S.size) in
      S.each i upto ∙ sym (whole_at i upto))

  -- A bit is read as the lowest one of what is left of its word,
  pub bit_read : (p : ℕ) → p < 256 → marked marks p ≡ eqb (bit_and (get_or marks (p / 64) 0 / 2 ^ (p % 64)) 1) 1
  unfolding marked
  bit_read p l = rw (and_mask (get_or marks (p / 64) 0 / 2 ^ (p % 64)) 1, lt-ltb p 256 l) refl

  -- and past the last place there is none.
  pub none_past : (p : ℕ) → 256 ≤ p → marked marks p ≡ false
  unfolding marked
  none_past p l = rw (le-ltb p 256 l) refl

  -- A count below a place is that of the marks,
  pub counted : (p : ℕ) → count p (marked marks) ≡ ones_below marks (whole_words marks) p
  counted p = sym (marks_below p)

  -- by the two cases of a place.
  pub inside : (whole : List ℕ) (p : ℕ) → p < 256 → ones_below marks whole p ≡ get_or whole (p / 64) 0 + low_ones (get_or marks (p / 64) 0) (p % 64)
  unfolding ones_below
  inside whole p l = rw (lt-ltb p 256 l, ones_below) refl

  pub past : (whole : List ℕ) (p : ℕ) → 256 ≤ p → ones_below marks whole p ≡ get_or whole 4 0
  unfolding ones_below
  past whole p l = rw (le-ltb p 256 l, ones_below) refl
