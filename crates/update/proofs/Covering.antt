-- The windows that cover a place, and the occurrences among them. Assumes nothing.
use Prim.Native.Nat.{ℕ, suc, ◌+◌, ◌-◌, ◌≤◌, ◌<◌, min}
use mathlib.Core.Path.{◌≡◌, refl, ap}
use mathlib.Core.Logic.{◌⊎◌, inl, inr, ⊎_elim}
use mathlib.Core.Bool.{Bool, true, not}
use mathlib.Core.List.{List}
use native.Mathlib.Omega.{arith}
use lib.Dec.{leb, ltb}
use lib.ListN.{length, get_or}
use borrow.Author.Tests.{leb-true, le-leb, ltb-true, lt-ltb}
use Rattle.words.proofs.Cases.{true_or_false, both_true, not_both}
use Rattle.lists.specs.Lists.{Listed, Ascending, moved}
use Rattle.lists.proofs.Entries.{listed_moved, moved_listed}
use Rattle.lists.proofs.Ascending.{ascending_moved, at_most, same_entries}
use Rattle.lists.proofs.Keeping.{kept_is, keeps, kept_ascends}
use Rattle.lists.proofs.Bounds.{Outside}
use Rattle.rules.specs.Occurs.{Occurs, occurrences}
use Rattle.rules.specs.Promise.{Lists}
use Rattle.rules.specs.declared.Ending.TheVariants.{Done}
use Rattle.rules.proofs.Occurs.{accounted_lists}
use Rattle.update.specs.Update.{covers, covering}
use Rattle.update.specs.Promise.{Covers}
use Rattle.update.proofs.Parts.{part, length_part, occurs_in_text, occurs_in_part}

-- ---- The test

module _ (m n place b : ℕ) where
  pub covers_of : Covers m n place b → covers m n place b ≡ true
  unfolding covers
  covers_of C = rw (le-leb b place C.from, lt-ltb place (b + m) C.upto, le-leb (b + m) n C.inside) refl

  pub covers_is : covers m n place b ≡ true → Covers m n place b
  unfolding covers
  covers_is e =
      let h = both_true (leb b place) _ e in
      let k = both_true (ltb place (b + m)) (leb (b + m) n) h.1 in
      record { from = leb-true b place h.0; upto = ltb-true place (b + m) k.0; inside = leb-true (b + m) n k.1 }

  pub covers_or : Covers m n place b ⊎ (Covers m n place b → ⊥)
  covers_or = ⊎_elim (λ e. inl (covers_is e)) (λ e. inr (λ C. not_both _ (covers_of C) e)) (true_or_false (covers m n place b))

  -- Whether it does not.
  pub apart_of : (Covers m n place b → ⊥) → not (covers m n place b) ≡ true
  apart_of none = ⊎_elim (λ e. absurd (none (covers_is e))) (λ e. ap not e) (true_or_false (covers m n place b))

  pub apart_is : not (covers m n place b) ≡ true → Covers m n place b → ⊥
  apart_is e C = not_both _ e (ap not (covers_of C))

-- Windows that cover one place are no more than m.
pub few_cover : (m n place : ℕ) (l : List ℕ) → Ascending l → ((b : ℕ) → Listed l b → Covers m n place b) → length l ≤ m
few_cover m n place l A all =
    omega (arith, at_most l A (suc place - m) (suc place) (omega arith) (λ i h. let C = all (get_or l i 0) (i, h, refl) in omega (arith, C.from, C.upto)))

-- ---- They follow each other, from the first on and below the one past the last

abbrev pub first_window : ℕ → ℕ → ℕ
first_window m place = suc place - m

abbrev pub past_window : ℕ → ℕ → ℕ → ℕ
past_window m n place = min (suc place) (suc n - m)

pub windows_order : (m n place : ℕ) → place < n → first_window m place ≤ past_window m n place
windows_order m n place h = omega arith

pub between_of : (m n place : ℕ) {b : ℕ} → Covers m n place b → (first_window m place ≤ b) × (b < past_window m n place)
between_of m n place C = (omega (arith, C.upto), omega (arith, C.from, C.inside))

pub between_is : (m n place : ℕ) {b : ℕ} → first_window m place ≤ b → b < past_window m n place → Covers m n place b
between_is m n place g h = record { from = omega arith; upto = omega arith; inside = omega arith }

pub outside : (m n place : ℕ) → Outside (λ x. not (covers m n place x)) (first_window m place) (past_window m n place)
outside m n place = record {
  before = λ x l. apart_of m n place x (λ C. omega (arith, (between_of m n place C).0));
  between = λ x g h. ap not (covers_of m n place x (between_is m n place g h));
  after = λ x g. apart_of m n place x (λ C. omega (arith, (between_of m n place C).1));
}

-- Past the text's end none does.
pub none_covers : (m n place b : ℕ) → n ≤ place → Covers m n place b → ⊥
none_covers m n place b h C = omega (arith, C.upto, C.inside)

-- ---- The occurrences among them

pub all_listed : (w t : List ℕ) → Lists w t Done (occurrences w t)
all_listed w t = accounted_lists w t Done

pub listed_occurs : (w t : List ℕ) {b : ℕ} → Listed (occurrences w t) b → Occurs w t b
listed_occurs w t (i, h, e) = rw e at ((all_listed w t).occur i h)

module _ (w t : List ℕ) (place : ℕ) where
  abbrev here : ℕ → Bool
  here = covers (length w) (length t) place

  pub covering_ascends : Ascending (covering w t place)
  unfolding covering
  covering_ascends = kept_ascends here (occurrences w t) (all_listed w t).ascend

  pub covering_lists : (b : ℕ) → Covers (length w) (length t) place b → Occurs w t b → Listed (covering w t place) b
  unfolding covering
  covering_lists b C O = keeps here (occurrences w t) ((all_listed w t).all b tt O) (covers_of _ _ _ _ C)

  pub covering_is : {b : ℕ} → Listed (covering w t place) b → Covers (length w) (length t) place b × Occurs w t b
  unfolding covering
  covering_is {b} h = let k = kept_is here (occurrences w t) h in (covers_is _ _ _ b k.1, listed_occurs w t k.0)

  -- They are the occurrences in the part of the text that the windows make up, moved by its start.
  module _ (some : 1 ≤ length w) (within : place < length t) where
    abbrev from : ℕ
    from = first_window (length w) place

    abbrev to : ℕ
    to = min (length t) (place + length w)

    abbrev around : List ℕ
    around = part from to t

    around_length : length around ≡ to - from
    around_length = length_part t from to (omega arith) (omega arith)

    pub covering_part : covering w t place ≡ moved from (occurrences w around)
    covering_part = same_entries (covering w t place) (moved from (occurrences w around)) covering_ascends
        (ascending_moved (occurrences w around) (all_listed w around).ascend from)
        (λ x h. into x (covering_is h))
        (λ x h. back x (moved_listed from (occurrences w around) h))
      where
        into : (x : ℕ) → Covers (length w) (length t) place x × Occurs w t x → Listed (moved from (occurrences w around)) x
        into x (C, O) =
            let z : from + (x - from) ≡ x = omega (arith, C.upto) in
            let P = occurs_in_part t from to (omega arith) (omega arith) w (x - from) (omega (arith, C.from, C.upto, C.inside)) (rw z O) in
            rw z at (listed_moved from (occurrences w around) ((all_listed w around).all (x - from) tt P))

        back : (x : ℕ) → (y : ℕ) × Listed (occurrences w around) y × (from + y ≡ x) → Listed (covering w t place) x
        back x (y, h, e) =
            let P = listed_occurs w around h in
            let O = rw e at (occurs_in_text t from to (omega arith) (omega arith) w y P) in
            covering_lists x record { from = omega (arith, P.inside, around_length); upto = omega (arith, P.inside, around_length); inside = O.inside } O
