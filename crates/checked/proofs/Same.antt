-- same_list and same_pattern decide equality, and how a loop tests for it. Assumes nothing.
use Prim.Native.Nat.{ℕ, suc, ◌+◌, ◌≤◌, ◌<◌}
use mathlib.Core.Path.{◌≡◌, refl, sym, ap, ◌∙◌}
use mathlib.Core.Logic.{◌↔◌, ⊎_elim}
use mathlib.Core.Bool.{Bool, true, false, ◌&&◌, and_assoc, and-true}
use mathlib.Core.List.{List, [], ◌∷◌}
use native.Mathlib.Numerals.{add-one}
use lib.Dec.{eqb}
use lib.Pointwise.{pointwise}
use lib.ListN.{length, get_or, drop, drop_of_length-le}
use lib.Seq.{drop-cons}
use borrow.Author.Tests.{eq-eqb, eqb-true}
use Rattle.words.proofs.Cases.{true_or_false, both_true, not_both}
use Rattle.checked.specs.Check.{same_list, same_tables, same_pattern}
use Rattle.pattern.specs.declared.Pattern.{Pattern}

-- ---- Lists

same_is : (a b : List ℕ) → same_list a b ≡ true → a ≡ b
unfolding same_list
same_is [] [] e = refl
same_is [] (y ∷ t) e = absurd (not_both false e refl)
same_is (x ∷ s) [] e = absurd (not_both false e refl)
same_is (x ∷ s) (y ∷ t) e =
    let h = both_true (eqb x y) (same_list s t) e in
    rw (eqb-true x y h.0, same_is s t h.1) refl

same_self : (a : List ℕ) → same_list a a ≡ true
unfolding same_list
same_self [] = refl
same_self (x ∷ s) = rw (eq-eqb x x refl) (same_self s)

pub other_lengths : (a b : List ℕ) → (length a ≡ length b → ⊥) → false ≡ same_list a b
other_lengths a b n = ⊎_elim (λ e. absurd (n (ap length (same_is a b e)))) (λ e. sym e) (true_or_false (same_list a b))

-- As any entries are compared that have an equality of their own.
pub pointwise_is : (a b : List ℕ) → pointwise eqb a b ≡ same_list a b
unfolding same_list
pointwise_is [] [] = refl
pointwise_is [] (y ∷ t) = refl
pointwise_is (x ∷ s) [] = refl
pointwise_is (x ∷ s) (y ∷ t) = ap (λ r. eqb x y && r) (pointwise_is s t)

-- The entries below i were compared, with the answer t; the rest decides.
pub record Compared {A : Type 0} (E : A → A → Bool) (a b : List A) (i : ℕ) (t : Bool) : Type 0 where
  pub rest : (t && pointwise E (drop i a) (drop i b)) ≡ pointwise E a b

pub none_compared : {A : Type 0} (E : A → A → Bool) (a b : List A) → Compared E a b 0 true
none_compared E a b = record { rest = refl }

module _ {A : Type 0} {E : A → A → Bool} {a b : List A} {i : ℕ} {t : Bool} (C : Compared E a b i t) where
  pub one_more : {x y : A} → i < length a → i < length b → x ≡ get_or a i x → y ≡ get_or b i y → Compared E a b (i + 1) (t && E x y)
  one_more {x} {y} l m e f =
      let rest = pointwise E (drop (suc i) a) (drop (suc i) b) in
      let left : drop i a ≡ x ∷ drop (suc i) a = drop-cons a i x l ∙ ap (λ z. z ∷ drop (suc i) a) (sym e) in
      let right : drop i b ≡ y ∷ drop (suc i) b = drop-cons b i y m ∙ ap (λ z. z ∷ drop (suc i) b) (sym f) in
      record { rest = rw (add-one i) (and_assoc t (E x y) rest ∙ (rw (left, right) at C.rest)) }

  pub all_compared : length a ≤ i → length b ≤ i → t ≡ pointwise E a b
  all_compared l m = sym (and-true t) ∙ (rw (drop_of_length-le a l, drop_of_length-le b m) at C.rest)

-- ---- Patterns

pattern_self : (a : Pattern) → same_pattern a a ≡ true
unfolding same_pattern same_tables
pattern_self a = simp (eq-eqb a.len a.len refl, eq-eqb a.noholes a.noholes refl, same_self)

pattern_is : (a b : Pattern) → same_pattern a b ≡ true → a ≡ b
unfolding same_pattern same_tables
pattern_is a b e =
    let classes = both_true (same_list a.classes b.classes) _ e in
    let len = both_true (eqb a.len b.len) _ classes.1 in
    let noholes = both_true (eqb a.noholes b.noholes) _ len.1 in
    let bytes = both_true (same_list a.bytes b.bytes) _ noholes.1 in
    let order = both_true (same_list a.order b.order) _ bytes.1 in
    let shift = both_true (same_list a.shift b.shift) _ order.1 in
    let next = both_true (same_list a.next b.next) _ shift.1 in
    λ i. record {
      len = eqb-true a.len b.len len.0 i;
      noholes = eqb-true a.noholes b.noholes noholes.0 i;
      bytes = same_is a.bytes b.bytes bytes.0 i;
      classes = same_is a.classes b.classes classes.0 i;
      order = same_is a.order b.order order.0 i;
      shift = same_is a.shift b.shift shift.0 i;
      next = same_is a.next b.next next.0 i;
      marks = same_is a.marks b.marks next.1 i;
    }

pub same_pattern_lem : (a b : Pattern) → (same_pattern a b ≡ true) ↔ (a ≡ b)
same_pattern_lem a b = (pattern_is a b, λ e. rw e (pattern_self b))

-- With the same classes, the others decide.
pub tables_decide : (a b : Pattern) → b.classes ≡ a.classes → same_tables a b ≡ same_pattern a b
unfolding same_pattern
tables_decide a b e = rw (e, same_self a.classes) refl
