-- Who is let in, test by test. Assumes nothing.
use Prim.Native.Nat.{ℕ, ◌≤◌, ◌<◌}
use mathlib.Core.Path.{◌≡◌, refl, sym, ap, ◌∙◌}
use mathlib.Core.Bool.{Bool, true, false}
use native.Mathlib.Omega.{arith}
use lib.Dec.{leb}
use borrow.Author.Tests.{le-leb, lt-leb, leb-true}
use Rattle.std.specs.Prelude.{Ok, Err}
use Rattle.checked.specs.Check.{is_prepared}
use Rattle.pattern.specs.declared.Pattern.{Pattern}
use Rattle.checked.proofs.Checked.{is_prepared_lem}
use Rattle.refusal.specs.Tests.{Tested, passed}
use Rattle.refusal.specs.Unless.{unless}
use Rattle.refusal.specs.declared.Refusal.{Refusal}
use Rattle.refusal.specs.declared.Refusal.TheVariants.{FalsePattern, LongText}
use Rattle.admission.specs.Admitted.{longest_text, judged, admitted, also_judged, IsAdmitted}

-- ---- The tests in their order

module _ {prepared : Bool} (n : ℕ) where
  pub false_pattern : prepared ≡ false → judged prepared n ≡ Err FalsePattern
  unfolding judged
  false_pattern e = rw (e, judged) refl

  module _ (passes : prepared ≡ true) where
    pub long_text : longest_text < n → judged prepared n ≡ Err LongText
    unfolding judged
    long_text l = rw (passes, lt-leb n longest_text l, judged) refl

    pub lets_in : n ≤ longest_text → judged prepared n ≡ passed
    unfolding judged
    lets_in l = rw (passes, le-leb n longest_text l, judged) refl

-- Both tests pass where nothing is refused.
both_pass : (a b : Bool) → unless a (Err FalsePattern) (unless b (Err LongText) passed) ≡ passed → (a ≡ true) × (b ≡ true)
both_pass true true e = (refl, refl)
both_pass true false e = absurd (let z : ◌≡◌ {A = ℕ} 0 1 = cc in omega arith)
both_pass false b e = absurd (let z : ◌≡◌ {A = ℕ} 0 1 = cc in omega arith)

judged_is : (prepared : Bool) (n : ℕ) → judged prepared n ≡ passed → (prepared ≡ true) × (n ≤ longest_text)
unfolding judged
judged_is prepared n e = let h = both_pass prepared (leb n longest_text) e in (h.0, leb-true n longest_text h.1)

-- ---- One test more

module _ {a : Tested} (passes : Bool) (why : Refusal) where
  pub refused_before : {first : Refusal} → a ≡ Err first → also_judged a passes why ≡ Err first
  unfolding also_judged
  refused_before e = rw (e, also_judged) refl

  pub refused_then : a ≡ passed → passes ≡ false → also_judged a passes why ≡ Err why
  unfolding also_judged
  refused_then e f = rw (e, f, also_judged) refl

  pub lets_in_then : a ≡ passed → passes ≡ true → also_judged a passes why ≡ passed
  unfolding also_judged
  lets_in_then e f = rw (e, f, also_judged) refl

-- Who passes gets the answer of the tests before.
pub as_before : (a : Tested) {passes : Bool} (why : Refusal) → passes ≡ true → also_judged a passes why ≡ a
as_before (Ok tt) {passes} why e = lets_in_then passes why refl e
as_before (Err first) {passes} why e = refused_before passes why refl

-- Who is let in passes all.
pub passes_all : (a : Tested) (passes : Bool) (why : Refusal) → also_judged a passes why ≡ passed → (a ≡ passed) × (passes ≡ true)
unfolding also_judged
passes_all (Ok tt) true why e = (refl, refl)
passes_all (Ok tt) false why e = absurd (let z : ◌≡◌ {A = ℕ} 0 1 = cc in omega arith)
passes_all (Err first) passes why e = absurd (let z : ◌≡◌ {A = ℕ} 0 1 = cc in omega arith)

-- ---- A pattern at the door

module _ (p : Pattern) (n : ℕ) where
  -- The door is told what `is_prepared` answers.
  pub at_the_door : {a : Tested} {r : Bool} → a ≡ judged r n → r ≡ is_prepared p → admitted p n ≡ a
  unfolding admitted
  at_the_door e q = ap (λ b. judged b n) (sym q) ∙ sym e

  pub admitted_is : admitted p n ≡ passed → IsAdmitted p n
  unfolding admitted
  admitted_is e = let h = judged_is (is_prepared p) n e in record { prepared = (is_prepared_lem p).0 h.0; fits = h.1 }

  pub admitted_of : IsAdmitted p n → admitted p n ≡ passed
  unfolding admitted
  admitted_of I = lets_in n ((is_prepared_lem p).1 I.prepared) I.fits
