-- What reading a directory answers, test by test, and when it is read. Assumes nothing.
use Prim.Native.Nat.{ℕ, ◌+◌, ◌-◌, ◌*◌, ◌≤◌, ◌<◌}
use mathlib.Core.Path.{◌≡◌, refl, sym, ap, ◌∙◌}
use mathlib.Core.Logic.{◌↔◌, ⊎_elim}
use mathlib.Core.Bool.{Bool, true, false, ◌&&◌}
use mathlib.Core.List.{List, [], ◌∷◌}
use native.Mathlib.Omega.{arith}
use lib.Dec.{leb, eqb}
use lib.ListN.{length, get_or, drop, length-drop}
use lib.Seq.{get_or-drop}
use borrow.Author.Tests.{le-leb, lt-leb, leb-true, eq-eqb, ne_eqb, eqb-true}
use Rattle.std.specs.Prelude.{Result, Ok, Err}
use Rattle.std.specs.List.{ends_with}
use Rattle.std.proofs.lemmas.Bool.Decides.{Decides-eqb}
use Rattle.std.proofs.lemmas.Slice.Eq.{slice_eq-Decides}
use Rattle.admission.specs.Admitted.{longest_text}
use Rattle.refusal.specs.Unless.{unless}
use Rattle.refusal.specs.declared.Refusal.{Refusal}
use Rattle.refusal.specs.declared.Refusal.TheVariants.{LongText, NoTrailer, FalseDirectory, RecordsApart}
use Rattle.words.specs.Tables.{letter}
use Rattle.words.proofs.Cases.{true_or_false, both_true, not_both}
use Rattle.directory.specs.Archive.{trailer_size, entry_size, most_records, directory_start, record_count, closes, touch, directory_of}
use Rattle.directory.specs.Promise.{IsArchive}
use Rattle.directory.specs.declared.Directory.{Directory}
use Rattle.directory.proofs.Touching.{touch_is, touch_of}

-- What the trailer tells.
abbrev told : List ℕ → Directory
told a = record { start = directory_start a; records = record_count a }

-- The directory fills the bytes from its start to the trailer.
abbrev fills : List ℕ → Bool
fills a = eqb (directory_start a + entry_size * record_count a + trailer_size) (length a)

-- ---- The tests in their order

-- What is left of them from each on.
abbrev from_9 : List ℕ → Result Directory Refusal
from_9 a = unless (touch a (directory_start a) (record_count a)) (Err RecordsApart) (Ok (told a))

abbrev from_8 : List ℕ → Result Directory Refusal
from_8 a = unless (leb (record_count a) most_records && fills a) (Err FalseDirectory) (from_9 a)

abbrev from_7 : List ℕ → Result Directory Refusal
from_7 a = unless (leb trailer_size (length a) && closes a) (Err NoTrailer) (from_8 a)

module _ (a : List ℕ) where
  pub long : longest_text < length a → directory_of a ≡ Err LongText
  unfolding directory_of
  long l = rw (lt-leb (length a) longest_text l, directory_of) refl

  module _ (fits : length a ≤ longest_text) where
    past_5 : directory_of a ≡ from_7 a
    unfolding directory_of
    past_5 = rw (le-leb (length a) longest_text fits, directory_of) refl

    pub short : length a < trailer_size → directory_of a ≡ Err NoTrailer
    short l = past_5 ∙ rw (lt-leb trailer_size (length a) l) refl

    module _ (trailer : trailer_size ≤ length a) where
      pub unclosed : closes a ≡ false → directory_of a ≡ Err NoTrailer
      unclosed e = past_5 ∙ rw (le-leb trailer_size (length a) trailer, e) refl

      module _ (closed : closes a ≡ true) where
        past_7 : directory_of a ≡ from_8 a
        past_7 = past_5 ∙ rw (le-leb trailer_size (length a) trailer, closed) refl

        pub many : most_records < record_count a → directory_of a ≡ Err FalseDirectory
        many l = past_7 ∙ rw (lt-leb (record_count a) most_records l) refl

        module _ (few : record_count a ≤ most_records) where
          pub elsewhere : (directory_start a + entry_size * record_count a + trailer_size ≡ length a → ⊥) → directory_of a ≡ Err FalseDirectory
          elsewhere differ = past_7 ∙ rw (le-leb (record_count a) most_records few, ne_eqb _ (length a) differ) refl

          module _ (exactly : directory_start a + entry_size * record_count a + trailer_size ≡ length a) where
            past_8 : directory_of a ≡ from_9 a
            past_8 = past_7 ∙ rw (le-leb (record_count a) most_records few, eq-eqb _ (length a) exactly) refl

            pub apart : touch a (directory_start a) (record_count a) ≡ false → directory_of a ≡ Err RecordsApart
            apart e = past_8 ∙ rw e refl

            pub whole : touch a (directory_start a) (record_count a) ≡ true → directory_of a ≡ Ok (told a)
            whole e = past_8 ∙ rw e refl

-- ---- The closing bytes

four : (l : List ℕ) → length l ≡ 4 → l ≡ get_or l 0 0 ∷ get_or l 1 0 ∷ get_or l 2 0 ∷ get_or l 3 0 ∷ []
four [] e = absurd (omega arith)
four (x ∷ []) e = absurd (omega arith)
four (x ∷ y ∷ []) e = absurd (omega arith)
four (x ∷ y ∷ z ∷ []) e = absurd (omega arith)
four (x ∷ y ∷ z ∷ u ∷ []) e = refl
four (x ∷ y ∷ z ∷ u ∷ v ∷ l) e = absurd (omega arith)

-- What closes an archive.
abbrev closing : List ℕ
closing = 0x52 ∷ 0x45 ∷ 0x45 ∷ 0x4C ∷ []

module _ (a : List ℕ) (room : 4 ≤ length a) where
  abbrev ending : List ℕ
  ending = drop (length a - 4) a

  -- The letters of the last four bytes, as the test reads them.
  at_end : (i k : ℕ) → i + k ≡ 4 → get_or ending i 0 ≡ letter a (length a - k)
  at_end i k e = let z : length a - 4 + i ≡ length a - k = omega arith in get_or-drop (length a - 4) a i 0 ∙ ap (letter a) z

  closing_is : closes a ≡ true → ending ≡ closing
  unfolding closes
  closing_is e =
      let one = both_true (eqb (letter a (length a - 4)) 0x52) _ e in
      let two = both_true (eqb (letter a (length a - 3)) 0x45) _ one.1 in
      let three = both_true (eqb (letter a (length a - 2)) 0x45) _ two.1 in
      four ending (length-drop (length a - 4) a ∙ omega arith)
      ∙ rw (
        at_end 0 4 refl,
        at_end 1 3 refl,
        at_end 2 2 refl,
        at_end 3 1 refl,
        eqb-true (letter a (length a - 4)) 0x52 one.0,
        eqb-true (letter a (length a - 3)) 0x45 two.0,
        eqb-true (letter a (length a - 2)) 0x45 three.0,
        eqb-true (letter a (length a - 1)) 0x4C three.1,
      ) refl

  closing_of : ending ≡ closing → closes a ≡ true
  unfolding closes
  closing_of e =
      let at : (i k : ℕ) → i + k ≡ 4 → letter a (length a - k) ≡ get_or closing i 0 = λ i k h. sym (at_end i k h) ∙ ap (λ l. get_or l i 0) e in
      rw (at 0 4 refl, at 1 3 refl, at 2 2 refl, at 3 1 refl) refl

  -- As it is tested: whether the bytes end so.
  pub closes_told : (r : Bool) → r ≡ ends_with eqb a closing → r ≡ closes a
  closes_told r e =
      let D = slice_eq-Decides Decides-eqb closing ending r e in
      ⊎_elim
      (λ (c : closes a ≡ true). D.1 (sym (closing_is c)) ∙ sym c)
      (λ (c : closes a ≡ false). ⊎_elim
      (λ (t : r ≡ true). absurd (not_both (closes a) (closing_of (sym (D.0 t))) c))
      (λ (f : r ≡ false). f ∙ sym c)
      (true_or_false r))
      (true_or_false (closes a))

-- ---- When it is read

all_pass : (x y z t : Bool) {d d' : Directory}
    → unless x (Err LongText) (unless y (Err NoTrailer) (unless z (Err FalseDirectory) (unless t (Err RecordsApart) (Ok d)))) ≡ Ok d'
    → (x ≡ true) × (y ≡ true) × (z ≡ true) × (t ≡ true) × (d' ≡ d)
all_pass true true true true e = (refl, refl, refl, refl, cc)
all_pass false y z t e = absurd (let z : ◌≡◌ {A = ℕ} 0 1 = cc in omega arith)
all_pass true false z t e = absurd (let z : ◌≡◌ {A = ℕ} 0 1 = cc in omega arith)
all_pass true true false t e = absurd (let z : ◌≡◌ {A = ℕ} 0 1 = cc in omega arith)
all_pass true true true false e = absurd (let z : ◌≡◌ {A = ℕ} 0 1 = cc in omega arith)

module _ (a : List ℕ) (d : Directory) where
  pub read_is : directory_of a ≡ Ok d → IsArchive a d
  unfolding directory_of directory_start record_count
  read_is e =
      let h =
      all_pass (leb (length a) longest_text) (leb trailer_size (length a) && closes a) (leb (record_count a) most_records && fills a)
      (touch a (directory_start a) (record_count a)) e in
      let closed = both_true (leb trailer_size (length a)) _ h.1 in
      let room = both_true (leb (record_count a) most_records) _ h.2 in
      let T = touch_is a (directory_start a) (record_count a) h.3 in
      let trailer = leb-true trailer_size (length a) closed.0 in
      rw h.4 record {
        fits = leb-true (length a) longest_text h.0;
        trailer = trailer;
        closing = closing_is a (omega arith) closed.1;
        start = refl;
        records = refl;
        few = leb-true (record_count a) most_records room.0;
        exactly = eqb-true _ _ room.1;
        touching = T.0;
        last = T.1;
      }

  pub read_of : IsArchive a d → directory_of a ≡ Ok d
  unfolding directory_start record_count
  read_of A =
      let here : told a ≡ d = λ i. record { start = sym A.start i; records = sym A.records i } in
      whole a A.fits A.trailer (closing_of a (omega (arith, A.trailer)) A.closing) (omega (arith, A.few, A.records))
      (omega (arith, A.exactly, A.start, A.records)) (rw (← A.start, ← A.records) (touch_of a d.start d.records A.touching A.last))
      ∙ ap Ok here

-- What `read_directory` answers means what it promises.
pub read_means : (a : List ℕ) {r : Result Directory Refusal} → r ≡ directory_of a → (d : Directory) → (r ≡ Ok d) ↔ IsArchive a d
read_means a e = rw e (λ d. (read_is a d, read_of a d))

-- Its tests, one by one.
pub ruleset tests = (long, short, unclosed, many, elsewhere, apart, whole)
