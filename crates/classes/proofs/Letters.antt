-- Letters that are put into a list, in the terms of the code. Assumes nothing.
use Prim.Native.Nat.{ℕ, ◌+◌, ◌≤◌, ◌<◌}
use mathlib.Core.Path.{◌≡◌, refl, sym, ap, ◌∙◌}
use mathlib.Core.List.{List, ◌++◌}
use native.Mathlib.Nat.{zero-add}
use native.Mathlib.Numerals.{add-one}
use native.Mathlib.Omega.{arith}
use lib.ListN.{length, take, drop, set, length-append, length-drop}
use lib.Seq.{paste, paste-suc, length-take-le, take_all, take_at}
use borrow.Author.Tests.{eq-eqb, ne_eqb, le-leb, lt-leb}
use Rattle.words.specs.Tables.{letter}
use Rattle.classes.specs.Classes.{class_count, class_of, through, letters_in}
use Rattle.classes.proofs.Through.{length_through, through_at}

module _ (w c lent : List ℕ) where
  -- ---- The lengths decide.

  pub no_room : length lent < length w → lent ≡ letters_in w c lent
  unfolding letters_in
  no_room l = rw (lt-leb (length w) (length lent) l, letters_in) refl

  module _ (room : length w ≤ length lent) where
    pub not_256 : (length c ≡ class_count → ⊥) → lent ≡ letters_in w c lent
    unfolding letters_in
    not_256 ne = rw (le-leb (length w) (length lent) room, ne_eqb (length c) class_count ne, letters_in) refl

    module _ (size : length c ≡ class_count) where
      pub letters_are : letters_in w c lent ≡ through c w ++ drop (length w) lent
      unfolding letters_in
      letters_are = rw (le-leb (length w) (length lent) room, eq-eqb (length c) class_count size, letters_in) refl

      -- A reader finds them first, in a list that is as long as it was.
      pub letters_read : {l : List ℕ} → l ≡ letters_in w c lent → (length l ≡ length lent) × (take (length w) l ≡ through c w)
      letters_read e = rw (e, letters_are) (
        length-append (through c w) (drop (length w) lent) ∙ omega (arith, length_through c w, length-drop (length w) lent),
        take_at (through c w) (drop (length w) lent) (length w) (length_through c w),
      )

  -- ---- They are put from the front on.

  -- The first i letters, and the rest of the list.
  abbrev pub PutTo : ℕ → List ℕ → Type 0
  PutTo i l = l ≡ paste lent 0 (through c w) i

  module _ (i : ℕ) {l : List ℕ} (P : PutTo i l) (room : length w ≤ length lent) where
    pub one_put : {v : ℕ} → i < length w → v ≡ class_of c (letter w i) → PutTo (i + 1) (set l i v)
    one_put {v} h is =
        let put = paste lent 0 (through c w) i in
        ap (λ (k : List ℕ). set k i v) P ∙ ap (set put i) (is ∙ sym (through_at c w i h)) ∙ ap (λ k. set put k (letter (through c w) i)) (sym (zero-add i))
        ∙ paste-suc lent 0 (through c w) i 0 (omega arith) (omega (arith, length_through c w)) ∙ ap (paste lent 0 (through c w)) (sym (add-one i))

    pub all_put : length c ≡ class_count → i ≡ length w → l ≡ letters_in w c lent
    all_put size end =
        P ∙ rw (end, take_all (length w) (through c w) (omega (arith, length_through c w)), zero-add) (sym (letters_are room size))

-- The letters of the first m bytes, which a reader finds first.
pub first_letters : (bytes classes lent : List ℕ) (m : ℕ) → m ≤ length bytes → m ≤ length lent → length classes ≡ class_count
    → {letters : List ℕ} → letters ≡ letters_in (take m bytes) classes lent
    → (length letters ≡ length lent) × (take m letters ≡ through classes (take m bytes))
first_letters bytes classes lent m upto room size e =
    let taken : length (take m bytes) ≡ m = length-take-le m bytes upto in
    let both = letters_read (take m bytes) classes lent (omega arith) size e in
    (both.0, rw taken at both.1)
