-- The loops: what each has found and written on its way. Assumes nothing.
use Prim.Native.Nat.{ℕ, ◌+◌, ◌-◌, ◌≤◌, ◌<◌, min}
use mathlib.Core.Path.{◌≡◌, refl, ◌∙◌}
use mathlib.Core.Logic.{⊎_elim}
use mathlib.Core.List.{List}
use native.Mathlib.Omega.{arith}
use lib.ListN.{length, get_or, set, length-set}
use lib.Seq.{get_or-set_same, get_or-set_other, drop-set-lt}
use Rattle.words.specs.Tables.{letter}
use Rattle.words.proofs.Cases.{less_or}
use Rattle.classes.proofs.Through.{length_through}
use Rattle.lengths.specs.Internal.Steps.{letters_of, Writes, Passes, LeavesBy}
use Rattle.lengths.specs.declared.steps.Text.{Text}
use Rattle.lengths.proofs.Writing.{writes_none, writes_one}

-- A text has as many letters as bytes.
pub length_letters : (text : Text) → length (letters_of text) ≡ length text.bytes.now
length_letters text = length_through text.classes.now text.bytes.now

-- What holds of the numbers from a on and below k, and of k, holds of those below k + 1.
one_more : (P : ℕ → Type 0) (a k : ℕ) → ((p : ℕ) → a ≤ p → p < k → P p) → P k → (p : ℕ) → a ≤ p → p < k + 1 → P p
one_more P a k below at p from l = ⊎_elim (λ (h : p < k). below p from h) (λ (h : k ≤ p). let z : k ≡ p = omega arith in rw z at at) (less_or p k)

-- ---- Windows that miss at place 0

module _ (t : List ℕ) (x : ℕ) (before : List ℕ) (b : ℕ) where
  pub passed_none : b ≤ length t → Passes t x before before b b
  passed_none l =
      let z : b - b ≡ 0 = omega arith in
      record { from = omega arith; upto = l; missed = λ y a h. absurd (omega arith); zeros = rw z (writes_none (λ k. 0) before b) }

  pub passed_one : {s : List ℕ} {r : ℕ} → Passes t x before s b r → r < length t → r < length s → (x ≡ letter t r → ⊥)
      → Passes t x before (set s r 0) b (r + 1)
  passed_one {s} {r} P inside room differ =
      let at : b + (r - b) ≡ r = omega (arith, P.from) in
      let more : r - b + 1 ≡ r + 1 - b = omega (arith, P.from) in
      record {
        from = omega (arith, P.from);
        upto = omega arith;
        missed = one_more (λ y. x ≡ letter t y → ⊥) b r P.missed differ;
        zeros = rw (at, more) at (writes_one (λ k. 0) before b {s = s} {k = r - b} {v = 0} (omega arith) refl P.zeros);
      }

-- ---- A window left

module _ (table before : List ℕ) (b i end : ℕ) where
  -- The entries below k are written, and from 1 on none of the table's is i.
  pub record Left (s : List ℕ) (k : ℕ) : Type 0 where
    pub on : 1 ≤ k
    pub upto : k ≤ end
    pub passed : (j : ℕ) → 1 ≤ j → j < k → get_or table j 0 ≡ i → ⊥
    pub entries : Writes (λ k. min (get_or table k 0) i - k) before s b k

  module _ {s : List ℕ} {k : ℕ} (L : Left s k) where
    pub left_one : {v : ℕ} → k < end → b + k < length s → (get_or table k 0 ≡ i → ⊥) → v ≡ min (get_or table k 0) i - k → Left (set s (b + k) v) (k + 1)
    left_one l room other is = record {
      on = omega arith;
      upto = omega arith;
      passed = one_more (λ j. get_or table j 0 ≡ i → ⊥) 1 k L.passed other;
      entries = writes_one (λ k. min (get_or table k 0) i - k) before b room is L.entries;
    }

    pub left_all : (k < end → get_or table k 0 ≡ i) → LeavesBy table before s b i end k
    left_all found = record { on = L.on; upto = L.upto; passed = L.passed; found = found; entries = L.entries }

module _ (table before : List ℕ) (b i end : ℕ) where
  -- The loop begins with the entry of b stored.
  pub left_first : 1 ≤ end → b < length before → i ≤ get_or table 0 0 → Left table (set before b i) b i end (set before b i) 1
  left_first l room high =
      let at : b + 0 ≡ b = omega arith in
      record {
        on = omega arith;
        upto = l;
        passed = λ j a h. absurd (omega arith);
        entries = record {
          here = λ k h. let z : k ≡ 0 = omega arith in rw (z, at, get_or-set_same before b i 0 room) (omega arith);
          front = λ x h. refl;
          rest = refl;
          size = refl;
        };
      }

  -- And what it leaves is told of the list without that.
  pub since_first : {s : List ℕ} {k : ℕ} (v : ℕ) → LeavesBy table (set before b v) s b i end k → LeavesBy table before s b i end k
  since_first {s} {k} v L =
      let W = L.entries in
      record {
        on = L.on;
        upto = L.upto;
        passed = L.passed;
        found = L.found;
        entries = record {
          here = W.here;
          front = λ x h. W.front x h ∙ get_or-set_other before b x v 0 (λ z. omega arith);
          rest = W.rest ∙ drop-set-lt (b + k) before b v (omega (arith, L.on));
          size = W.size ∙ length-set before b v;
        };
      }

  -- Where the table's entry at 1 is i, there is no more to write.
  pub left_at_once : 1 ≤ end → b < length before → i ≤ get_or table 0 0 → get_or table 1 0 ≡ i → LeavesBy table before (set before b i) b i end 1
  left_at_once l room high e = since_first i (left_all table (set before b i) b i end (left_first l room high) (λ h. e))
