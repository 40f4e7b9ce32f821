-- A function's values as a list: what stands at each index, a list by its entries, and one that begins with them. Assumes nothing.
use Prim.Native.Nat.{ℕ, zero, suc, ◌≤◌, ◌<◌}
use mathlib.Core.Path.{◌≡◌, refl, sym, ap, ◌∙◌}
use mathlib.Core.Logic.{⊎_elim}
use mathlib.Core.List.{List, [], ◌∷◌, ◌++◌}
use native.Mathlib.Omega.{arith}
use lib.ListN.{length, get_or, take, drop, length-append, length-drop, take-append-drop, get_or-append}
use lib.Seq.{get_or-append_seam, ext_get_or, length-take-le, get_or-take}
use Rattle.words.specs.Numbers.{tabulate}
use Rattle.words.proofs.Cases.{less_or}

pub length_tabulate : (n : ℕ) (f : ℕ → ℕ) → length (tabulate n f) ≡ n
unfolding tabulate
length_tabulate zero f = refl
length_tabulate (suc n) f = length-append (tabulate n f) (f n ∷ []) ∙ omega (arith, length_tabulate n f)

pub tabulate_at : (n : ℕ) (f : ℕ → ℕ) (i : ℕ) → i < n → get_or (tabulate n f) i 0 ≡ f i
unfolding tabulate
tabulate_at zero f i l = absurd (omega arith)
tabulate_at (suc n) f i l = ⊎_elim
    (λ (a : i < n). get_or-append (tabulate n f) (f n ∷ []) 0 i (omega (arith, length_tabulate n f)) ∙ tabulate_at n f i a)
    (λ (a : n ≤ i).
    let z : i ≡ length (tabulate n f) = omega (arith, length_tabulate n f) in
    let y : i ≡ n = omega arith in
    rw z (get_or-append_seam (tabulate n f) (f n) [] 0) ∙ ap f (sym y))
    (less_or i n)

pub by_entries : (n : ℕ) (f : ℕ → ℕ) (l : List ℕ) → length l ≡ n → ((i : ℕ) → i < n → get_or l i 0 ≡ f i) → l ≡ tabulate n f
by_entries n f l size at =
    ext_get_or 0 l (tabulate n f) (size ∙ sym (length_tabulate n f)) (λ i b. let h : i < n = omega arith in at i h ∙ sym (tabulate_at n f i h))

pub entries_all : (l : List ℕ) → tabulate (length l) (λ i. get_or l i 0) ≡ l
entries_all l = sym (by_entries (length l) (λ i. get_or l i 0) l refl (λ i h. refl))

-- ---- A list that begins with them

module _ (n : ℕ) (f : ℕ → ℕ) (s : List ℕ) where
  -- By its entries and what follows them.
  pub begins_with : (t : List ℕ) → n ≤ length t → ((i : ℕ) → i < n → get_or t i 0 ≡ f i) → drop n t ≡ drop n s → t ≡ tabulate n f ++ drop n s
  begins_with t room at rest =
      let front : take n t ≡ tabulate n f = by_entries n f (take n t) (length-take-le n t room) (λ i l. get_or-take n t i 0 l ∙ at i l) in
      sym (take-append-drop n t) ∙ rw (front, rest) refl

  -- Its entries,
  pub begin_at : (i : ℕ) → i < n → get_or (tabulate n f ++ drop n s) i 0 ≡ f i
  begin_at i l = get_or-append (tabulate n f) (drop n s) 0 i (omega (arith, length_tabulate n f)) ∙ tabulate_at n f i l

  -- and its length.
  pub begin_length : n ≤ length s → length (tabulate n f ++ drop n s) ≡ length s
  begin_length room = length-append (tabulate n f) (drop n s) ∙ omega (arith, length_tabulate n f, length-drop n s)
