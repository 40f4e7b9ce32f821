-- The entries that pass a test. Assumes nothing.
use Prim.Native.Nat.{ℕ, ◌+◌}
use mathlib.Core.Path.{◌≡◌, refl, ap, ◌∙◌}
use mathlib.Core.Logic.{⊎_elim}
use mathlib.Core.Bool.{Bool, true, false, not}
use mathlib.Core.List.{List, [], ◌∷◌}
use native.Mathlib.Omega.{arith}
use lib.ListN.{length}
use Rattle.words.proofs.Cases.{true_or_false, not_both}
use Rattle.lists.specs.Lists.{Listed, Ascending, keep}
use Rattle.lists.proofs.Entries.{listed_first, listed_later, first_or_later}
use Rattle.lists.proofs.Ascending.{later_ascends, first_below, ascending_cons}

module _ (q : ℕ → Bool) where
  pub keep_none : keep q [] ≡ []
  unfolding keep
  keep_none = refl

  module _ (x : ℕ) (l : List ℕ) where
    pub keep_hit : q x ≡ true → keep q (x ∷ l) ≡ x ∷ keep q l
    unfolding keep
    keep_hit e = rw (e, keep) refl

    pub keep_miss : q x ≡ false → keep q (x ∷ l) ≡ keep q l
    unfolding keep
    keep_miss e = rw (e, keep) refl

  -- They are entries, and pass.
  pub kept_is : (l : List ℕ) {x : ℕ} → Listed (keep q l) x → Listed l x × (q x ≡ true)
  kept_is [] h = absurd (omega (arith, (rw keep_none at h).1))
  kept_is (y ∷ l) {x} h = ⊎_elim
      (λ e. ⊎_elim
      (λ (z : x ≡ y). rw z (listed_first y l, e))
      (λ g. let k = kept_is l g in (listed_later y l k.0, k.1))
      (first_or_later y (keep q l) (rw (keep_hit y l e) at h)))
      (λ e. let k = kept_is l (rw (keep_miss y l e) at h) in (listed_later y l k.0, k.1))
      (true_or_false (q y))

  -- Those that pass are kept.
  pub keeps : (l : List ℕ) {x : ℕ} → Listed l x → q x ≡ true → Listed (keep q l) x
  keeps [] h e = absurd (omega (arith, h.1))
  keeps (y ∷ l) {x} h e = ⊎_elim
      (λ f. rw (keep_hit y l f) (⊎_elim
      (λ (z : x ≡ y). rw z (listed_first y (keep q l)))
      (λ g. listed_later y (keep q l) (keeps l g e))
      (first_or_later y l h)))
      (λ f. rw (keep_miss y l f) (⊎_elim
      (λ (z : x ≡ y). absurd (not_both (q y) (rw z at e) f))
      (λ g. keeps l g e)
      (first_or_later y l h)))
      (true_or_false (q y))

  pub kept_ascends : (l : List ℕ) → Ascending l → Ascending (keep q l)
  kept_ascends [] A = rw keep_none A
  kept_ascends (x ∷ l) A = ⊎_elim
      (λ e. rw (keep_hit x l e) (ascending_cons x (keep q l) (λ y h. first_below x l A (kept_is l h).0) (kept_ascends l (later_ascends x l A))))
      (λ e. rw (keep_miss x l e) (kept_ascends l (later_ascends x l A)))
      (true_or_false (q x))

  -- Where all pass, all are kept.
  pub keeps_all : (l : List ℕ) → ((x : ℕ) → q x ≡ true) → keep q l ≡ l
  keeps_all [] all = keep_none
  keeps_all (x ∷ l) all = keep_hit x l (all x) ∙ ap (λ (r : List ℕ). x ∷ r) (keeps_all l all)

-- Each entry passes or not.
pub length_kept : (q : ℕ → Bool) (l : List ℕ) → length (keep q l) + length (keep (λ x. not (q x)) l) ≡ length l
length_kept q [] = rw (keep_none q, keep_none (λ x. not (q x))) refl
length_kept q (x ∷ l) = ⊎_elim
    (λ e. rw (keep_hit q x l e, keep_miss (λ x. not (q x)) x l (ap not e)) (omega (arith, length_kept q l)))
    (λ e. rw (keep_miss q x l e, keep_hit (λ x. not (q x)) x l (ap not e)) (omega (arith, length_kept q l)))
    (true_or_false (q x))
