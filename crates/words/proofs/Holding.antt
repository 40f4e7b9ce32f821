-- The test for a letter, looked for from the front. Assumes nothing.
use Prim.Native.Nat.{ℕ, zero, suc, ◌+◌, ◌≤◌, ◌<◌}
use mathlib.Core.Path.{◌≡◌, refl, sym, ◌∙◌}
use mathlib.Core.Logic.{◌↔◌}
use mathlib.Core.Bool.{Bool, true, false, ◌||◌, or_assoc, or-false}
use mathlib.Core.List.{List, [], ◌∷◌}
use native.Mathlib.Omega.{arith}
use native.Mathlib.Numerals.{add-one}
use lib.Dec.{eqb}
use lib.ListN.{length, get_or, drop, drop_of_length-le}
use lib.Seq.{drop-cons}
use borrow.Author.Tests.{eqb-false, ne_eqb}
use Rattle.words.specs.Holds.{holds, Lacks}
use Rattle.words.proofs.Cases.{not_both}

neither : (a b : Bool) → (a || b) ≡ false → (a ≡ false) × (b ≡ false)
neither true b e = absurd (not_both true refl e)
neither false b e = (refl, e)

-- ---- What the test means

module _ (z : ℕ) where
  lacks_is : (w : List ℕ) → holds z w ≡ false → Lacks z w
  unfolding holds
  lacks_is [] e p l = absurd (omega arith)
  lacks_is (x ∷ w) e zero l = eqb-false x z (neither (eqb x z) (holds z w) e).0
  lacks_is (x ∷ w) e (suc p) l = lacks_is w (neither (eqb x z) (holds z w) e).1 p (omega arith)

  lacks_of : (w : List ℕ) → Lacks z w → holds z w ≡ false
  unfolding holds
  lacks_of [] L = refl
  lacks_of (x ∷ w) L = rw (ne_eqb x z (L 0 (omega arith))) (lacks_of w (λ p l. L (suc p) (omega arith)))

  pub lacks_iff : (w : List ℕ) → (holds z w ≡ false) ↔ Lacks z w
  lacks_iff w = (lacks_is w, lacks_of w)

-- ---- A loop that looks for it

-- The letters before i were looked at, with the answer t; the rest decides.
pub record Looked (z : ℕ) (w : List ℕ) (i : ℕ) (t : Bool) : Type 0 where
  pub rest : (t || holds z (drop i w)) ≡ holds z w

pub none_looked : (z : ℕ) (w : List ℕ) → Looked z w 0 false
none_looked z w = record { rest = refl }

module _ {z : ℕ} {w : List ℕ} {i : ℕ} {t : Bool} (L : Looked z w i t) where
  pub one_looked : i < length w → Looked z w (i + 1) (t || eqb (get_or w i 0) z)
  unfolding holds
  one_looked l = record { rest = rw (add-one i) (or_assoc t (eqb (get_or w i 0) z) (holds z (drop (suc i) w)) ∙ (rw (drop-cons w i 0 l) at L.rest)) }

  -- All were looked at: the answer is the test's, and means what it means.
  pub all_looked : length w ≤ i → (t ≡ holds z w) × ((t ≡ false) ↔ Lacks z w)
  unfolding holds
  all_looked l =
      let test : t ≡ holds z w = sym (or-false t) ∙ (rw (drop_of_length-le w l) at L.rest) in
      (test, rw test (lacks_iff z w))
