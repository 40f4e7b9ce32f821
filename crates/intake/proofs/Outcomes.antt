-- Which bytes preparation takes, test by test. Assumes nothing.
use Prim.Native.Nat.{ℕ, ◌+◌, ◌-◌, ◌≤◌, ◌<◌}
use Rattle.std.specs.Prelude.{Err, IsOk}
use Rattle.refusal.proofs.Tests.{passed_iff}
use mathlib.Core.Path.{◌≡◌, refl, ap, sym, ◌∙◌}
use mathlib.Core.Logic.{◌↔◌, ⊎_elim}
use mathlib.Core.Bool.{Bool, true, false, not, cond}
use mathlib.Core.List.{List}
use native.Mathlib.Omega.{arith}
use lib.Dec.{eqb, ltb}
use lib.ListN.{length, take, drop, length-drop, get_or-eq_default}
use lib.Seq.{take_all, get_or-drop}
use borrow.Author.Tests.{eq-eqb, ne_eqb, lt-ltb, le-ltb, eqb-true, eqb-false, ltb-false}
use Rattle.words.specs.Tables.{letter}
use Rattle.words.specs.Holds.{holds}
use Rattle.words.proofs.Cases.{less_or}
use Rattle.words.proofs.Holding.{lacks_iff}
use Rattle.classes.specs.Classes.{class_count, class_of, identity}
use Rattle.classes.proofs.Through.{class_entry}
use Rattle.classes.proofs.Identity.{length_identity, zero_unshared}
use Rattle.refusal.specs.declared.Refusal.{Refusal}
use Rattle.refusal.specs.Tests.{Tested, passed}
use Rattle.refusal.specs.declared.Refusal.TheVariants.{NoPattern, LongPattern, ShortScratch, ZeroInPattern, ClassesNot256, ZeroClassShared}
use Rattle.intake.specs.Sizes.{longest_pattern, scratch_size}
use Rattle.intake.specs.Outcomes.{scratch_tested, classes_tested, bytes_tested, outcome_of, Preparable, Usable}

-- The classes after the first, as code cuts them out.
pub after_first : (c : List ℕ) {t : Bool} → t ≡ holds (letter c 0) (take (length c - 1) (drop 1 c)) → holds (letter c 0) (drop 1 c) ≡ t
after_first c e = sym (e ∙ ap (holds (letter c 0)) (take_all (length c - 1) (drop 1 c) (omega (arith, length-drop 1 c))))

-- ---- The tests in their order

module _ (w c : List ℕ) (n : ℕ) where
  pub no_pattern : length w ≡ 0 → outcome_of w c n ≡ Err NoPattern
  unfolding outcome_of
  no_pattern e = rw (eq-eqb (length w) 0 e) refl

  pub long_pattern : longest_pattern < length w → outcome_of w c n ≡ Err LongPattern
  unfolding outcome_of
  long_pattern l = rw (ne_eqb (length w) 0 (λ e. omega arith), lt-ltb longest_pattern (length w) l) refl

  module _ (some : 1 ≤ length w) (short : length w ≤ longest_pattern) where
    pub zero_in_pattern : holds 0 w ≡ true → outcome_of w c n ≡ Err ZeroInPattern
    unfolding outcome_of
    zero_in_pattern e = rw (ne_eqb (length w) 0 (λ e. omega arith), le-ltb longest_pattern (length w) short, e) refl

    module _ (clean : holds 0 w ≡ false) where
      -- The bytes pass, and the classes are tested.
      bytes_pass : (o : Tested) → bytes_tested w o ≡ o
      unfolding bytes_tested
      bytes_pass o = rw (ne_eqb (length w) 0 (λ e. omega arith), le-ltb longest_pattern (length w) short, clean) refl

      pub classes_not_256 : (length c ≡ class_count → ⊥) → outcome_of w c n ≡ Err ClassesNot256
      unfolding outcome_of
      classes_not_256 ne = bytes_pass _ ∙ rw (ne_eqb (length c) class_count ne) refl

      module _ (size : length c ≡ class_count) where
        pub zero_class_shared : holds (letter c 0) (drop 1 c) ≡ true → outcome_of w c n ≡ Err ZeroClassShared
        unfolding outcome_of
        zero_class_shared e = bytes_pass _ ∙ rw (eq-eqb (length c) class_count size, e) refl

        module _ (alone : holds (letter c 0) (drop 1 c) ≡ false) where
          pub short_scratch : n < scratch_size → outcome_of w c n ≡ Err ShortScratch
          unfolding outcome_of
          short_scratch l = bytes_pass _ ∙ rw (eq-eqb (length c) class_count size, alone, lt-ltb n scratch_size l) refl

          pub all_pass : scratch_size ≤ n → outcome_of w c n ≡ passed
          unfolding outcome_of
          all_pass l = bytes_pass _ ∙ rw (eq-eqb (length c) class_count size, alone, le-ltb n scratch_size l) refl

-- ---- In plain terms

-- A test that is passed on the way to Ok does not hold.
untold : (t : Bool) (why : Refusal) (o : Tested) → cond t (Err why) o ≡ passed → (t ≡ false) × (o ≡ passed)
untold true why o e = absurd (let z : ◌≡◌ {A = ℕ} 0 1 = cc in omega arith)
untold false why o e = (refl, e)

-- The class of 0 is no other value's, as the test has it and in plain terms.
module _ (c : List ℕ) (size : length c ≡ class_count) where
  alone_is : holds (letter c 0) (drop 1 c) ≡ false → (v : ℕ) → 1 ≤ v → class_of c v ≡ class_of c 0 → ⊥
  alone_is e v some same =
      let first : class_of c 0 ≡ letter c 0 = class_entry c 0 (omega arith) in
      ⊎_elim
      (λ (l : v < class_count).
      let here : 1 + (v - 1) ≡ v = omega arith in
      (lacks_iff (letter c 0) (drop 1 c)).0 e (v - 1) (omega (arith, length-drop 1 c))
      (get_or-drop 1 c (v - 1) 0 ∙ rw here (sym (class_entry c v (omega arith)) ∙ same ∙ first)))
      (λ (l : class_count ≤ v). omega (arith, same, first, get_or-eq_default c (v + letter c 0) {n = v} (omega arith)))
      (less_or v class_count)

  alone_of : ((v : ℕ) → 1 ≤ v → class_of c v ≡ class_of c 0 → ⊥) → holds (letter c 0) (drop 1 c) ≡ false
  alone_of alone = (lacks_iff (letter c 0) (drop 1 c)).1 (λ p l e.
      let here : 1 + p < length c = omega (arith, length-drop 1 c) in
      alone (1 + p) (omega arith) (class_entry c (1 + p) here ∙ sym (get_or-drop 1 c p 0) ∙ e ∙ sym (class_entry c 0 (omega arith))))

module _ (w c : List ℕ) (n : ℕ) where
  -- What `outcome_of` promises of who passes.
  abbrev pub Taken : Type 0
  Taken = Preparable w × Usable c × (scratch_size ≤ n)

  pub ready_is : outcome_of w c n ≡ passed → Taken
  unfolding outcome_of
  ready_is e =
      let one = untold (eqb (length w) 0) NoPattern _ e in
      let two = untold (ltb longest_pattern (length w)) LongPattern _ one.1 in
      let ten = untold (holds 0 w) ZeroInPattern _ two.1 in
      let fourteen = untold (not (eqb (length c) class_count)) ClassesNot256 _ ten.1 in
      let fifteen = untold (holds (letter c 0) (drop 1 c)) ZeroClassShared _ fourteen.1 in
      let three = untold (ltb n scratch_size) ShortScratch _ fifteen.1 in
      let size = eqb-true (length c) class_count (not-false _ fourteen.0) in (
        record {
          some = omega (arith, eqb-false (length w) 0 one.0);
          short = ltb-false longest_pattern (length w) two.0;
          no_zero = (lacks_iff 0 w).0 ten.0;
        },
        record { size = size; zero_alone = alone_is c size fifteen.0 },
        ltb-false n scratch_size three.0,
      )
    where
      not-false : (t : Bool) → not t ≡ false → t ≡ true
      not-false true e = refl
      not-false false e = sym e

  pub ready_of : Preparable w → Usable c → scratch_size ≤ n → outcome_of w c n ≡ passed
  ready_of P U l =
      all_pass w c n P.some P.short ((lacks_iff 0 w).1 P.no_zero) U.size (alone_of c U.size U.zero_alone) l

  pub ready_iff : (outcome_of w c n ≡ passed) ↔ Taken
  ready_iff = (ready_is, λ h. ready_of h.0 h.1 h.2)

  -- What `outcome_of` ensures of its answer r.
  pub answers : {r : Tested} → r ≡ outcome_of w c n → (r ≡ outcome_of w c n) × (IsOk r ↔ Taken)
  answers {r} e = (e, (λ k. ready_is (sym e ∙ (passed_iff r).1 k), λ h. (passed_iff r).0 (e ∙ ready_iff.1 h)))

-- ---- The classes that give each value itself are not refused.

pub identity_passes : (o : Tested) → classes_tested identity o ≡ o
unfolding classes_tested
identity_passes o = rw (eq-eqb (length identity) class_count length_identity, zero_unshared) refl

pub identity_usable : Usable identity
identity_usable = record { size = length_identity; zero_alone = alone_is identity length_identity zero_unshared }

pub plain_outcome : (w : List ℕ) (n : ℕ) → outcome_of w identity n ≡ bytes_tested w (scratch_tested n passed)
unfolding outcome_of
plain_outcome w n = ap (bytes_tested w) (identity_passes (scratch_tested n passed))
