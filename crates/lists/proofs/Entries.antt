-- The entries of a list, of its parts, and of two lists in one. Assumes nothing.
use Prim.Native.Nat.{ℕ, zero, suc, ◌+◌, ◌-◌, ◌≤◌, ◌<◌}
use mathlib.Core.Path.{◌≡◌, refl, sym, ap, ◌∙◌}
use mathlib.Core.Logic.{◌⊎◌, inl, inr, ⊎_elim}
use mathlib.Core.List.{List, ◌∷◌, ◌++◌}
use native.Mathlib.Omega.{arith}
use lib.ListN.{length, get_or, length-append, length-map, get_or-append}
use lib.Seq.{get_or-append-add}
use Rattle.words.proofs.Cases.{less_or}
use Rattle.words.proofs.Entries.{map_at}
use Rattle.lists.specs.Lists.{Listed, moved}

-- ---- The first and the later ones

pub listed_first : (x : ℕ) (l : List ℕ) → Listed (x ∷ l) x
listed_first x l = (0, omega arith, refl)

pub listed_later : (y : ℕ) (l : List ℕ) {x : ℕ} → Listed l x → Listed (y ∷ l) x
listed_later y l (i, h, e) = (suc i, omega arith, e)

pub first_or_later : (y : ℕ) (l : List ℕ) {x : ℕ} → Listed (y ∷ l) x → (x ≡ y) ⊎ Listed l x
first_or_later y l (zero, h, e) = inl (sym e)
first_or_later y l (suc i, h, e) = inr (i, omega arith, e)

-- ---- Two lists in one

module _ (a b : List ℕ) {x : ℕ} where
  pub listed_left : Listed a x → Listed (a ++ b) x
  listed_left (i, l, e) = (i, omega (arith, length-append a b), get_or-append a b 0 i l ∙ e)

  pub listed_right : Listed b x → Listed (a ++ b) x
  listed_right (i, l, e) = (length a + i, omega (arith, length-append a b), get_or-append-add a b i 0 ∙ e)

  pub listed_cases : Listed (a ++ b) x → Listed a x ⊎ Listed b x
  listed_cases (i, l, e) = ⊎_elim
      (λ (h : i < length a). inl (i, h, sym (get_or-append a b 0 i h) ∙ e))
      (λ (h : length a ≤ i).
      let z : length a + (i - length a) ≡ i = omega arith in
      inr (i - length a, omega (arith, length-append a b), sym (get_or-append-add a b (i - length a) 0) ∙ ap (λ (k : ℕ). get_or (a ++ b) k 0) z ∙ e))
      (less_or i (length a))

-- ---- Every entry moved by a number

module _ (start : ℕ) (l : List ℕ) where
  pub moved_at : (i : ℕ) → i < length l → get_or (moved start l) i 0 ≡ start + get_or l i 0
  moved_at i h = map_at (λ (x : ℕ). start + x) l i h

  pub listed_moved : {x : ℕ} → Listed l x → Listed (moved start l) (start + x)
  listed_moved (i, h, e) = (i, omega (arith, length-map l (λ (x : ℕ). start + x)), moved_at i h ∙ ap (λ (x : ℕ). start + x) e)

  pub moved_listed : {x : ℕ} → Listed (moved start l) x → (y : ℕ) × Listed l y × (start + y ≡ x)
  moved_listed (i, h, e) =
      let g : i < length l = omega (arith, length-map l (λ (x : ℕ). start + x)) in
      (get_or l i 0, (i, g, refl), sym (moved_at i g) ∙ e)
