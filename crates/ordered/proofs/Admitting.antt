-- Who is let in to a search in a custom order, test by test. Assumes nothing.
use Prim.Native.Nat.{ℕ}
use mathlib.Core.Path.{◌≡◌, refl, sym, ap, ◌∙◌}
use mathlib.Core.Bool.{Bool, true, false}
use mathlib.Core.List.{List}
use native.Mathlib.Omega.{arith}
use lib.Dec.{leb}
use borrow.Author.Tests.{leb-true}
use Rattle.admission.specs.Admitted.{longest_text, IsAdmitted}
use Rattle.admission.specs.Admitted as door
use Rattle.std.specs.Prelude.{Err}
use Rattle.refusal.specs.Tests.{Tested, passed}
use Rattle.checked.specs.Check.{is_prepared}
use Rattle.checked.proofs.Checked.{is_prepared_lem}
use Rattle.custom.specs.Order.{Arrangement, arranged}
use Rattle.custom.proofs.Arrangements.{arranged_is}
use Rattle.pattern.specs.declared.Pattern.{Pattern}
use Rattle.refusal.specs.Unless.{unless}
use Rattle.refusal.specs.declared.Refusal.TheVariants.{FalsePattern, FalseOrder, LongText}
use Rattle.ordered.specs.Answer.{judged, admitted_in}

-- ---- The tests in their order

module _ {prepared : Bool} (m : ℕ) (order : List ℕ) (n : ℕ) where
  pub false_pattern : prepared ≡ false → judged prepared m order n ≡ Err FalsePattern
  unfolding judged
  false_pattern e = rw (e, judged) refl

  module _ (passes : prepared ≡ true) where
    pub false_order : arranged m order ≡ false → judged prepared m order n ≡ Err FalseOrder
    unfolding judged
    false_order e = rw (passes, e, judged) refl

    -- The last test is the last that `admit` makes.
    pub as_admitted : arranged m order ≡ true → judged prepared m order n ≡ door.judged true n
    unfolding judged door.judged
    as_admitted e = rw (passes, e, judged) refl

-- All three pass where nothing is refused.
all_pass : (a b c : Bool) → unless a (Err FalsePattern) (unless b (Err FalseOrder) (unless c (Err LongText) passed)) ≡ passed
    → (a ≡ true) × (b ≡ true) × (c ≡ true)
all_pass true true true e = (refl, refl, refl)
all_pass true true false e = absurd (let z : ◌≡◌ {A = ℕ} 0 1 = cc in omega arith)
all_pass true false c e = absurd (let z : ◌≡◌ {A = ℕ} 0 1 = cc in omega arith)
all_pass false b c e = absurd (let z : ◌≡◌ {A = ℕ} 0 1 = cc in omega arith)

-- ---- A pattern and an order at the door

module _ (order : List ℕ) (p : Pattern) (n : ℕ) where
  -- The door is told what `is_prepared` answers.
  pub at_the_door : {a : Tested} {r : Bool} → a ≡ judged r p.len order n → r ≡ is_prepared p → admitted_in order p n ≡ a
  unfolding admitted_in
  at_the_door e q = ap (λ b. judged b p.len order n) (sym q) ∙ sym e

  pub admitted_is : admitted_in order p n ≡ passed → IsAdmitted p n × Arrangement p.len order
  unfolding admitted_in judged
  admitted_is e =
      let h = all_pass (is_prepared p) (arranged p.len order) (leb n longest_text) e in
      (record { prepared = (is_prepared_lem p).0 h.0; fits = leb-true n longest_text h.2 }, (arranged_is p.len order).0 h.1)
