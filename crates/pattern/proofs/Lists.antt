-- Lists that are filled, from the front or in any order; and what stands at an index. Assumes nothing.
use Prim.Native.Nat.{ℕ, suc, ◌+◌, ◌-◌, ◌≤◌, ◌<◌, min}
use mathlib.Core.Path.{◌≡◌, refl, sym, ◌∙◌}
use mathlib.Core.Logic.{⊎_elim}
use mathlib.Core.List.{List, [], ◌∷◌, ◌++◌, append_assoc, append-nil}
use native.Mathlib.Omega.{arith}
use native.Mathlib.Numerals.{add-one}
use lib.ListN.{length, get_or, take, set, replicate, length-append, length-replicate, get_or-replicate, get_or-append}
use lib.Seq.{set-append_seam, take-append_seam, take_all, take-length, get_or-append-add, ext_get_or}
use Rattle.words.specs.Numbers.{tabulate}
use Rattle.words.proofs.Cases.{less_or}
use Rattle.words.proofs.Tabulate.{length_tabulate, tabulate_at}
use Rattle.pattern.specs.Lists.{padded}

-- Of a number past the end, all of the list is taken.
pub take_least : (n : ℕ) (l : List ℕ) → take (min n (length l)) l ≡ take n l
take_least n l = ⊎_elim
    (λ (a : n < length l). let e : min n (length l) ≡ n = omega arith in rw e refl)
    (λ (a : length l ≤ n). let e : min n (length l) ≡ length l = omega arith in rw e (take-length l ∙ sym (take_all n l a)))
    (less_or n (length l))

-- ---- Filled from the front

-- A store in place of the first zero after a list.
store_padded : (n : ℕ) (l : List ℕ) (v : ℕ) → length l < n → set (padded n l) (length l) v ≡ padded n (l ++ (v ∷ []))
unfolding padded
store_padded n l v h =
    let zeros : List ℕ = replicate (n - length (l ++ (v ∷ []))) 0 in
    let e : n - length l ≡ suc (n - length (l ++ (v ∷ []))) = omega (arith, length-append l (v ∷ [])) in
    rw e (set-append_seam l 0 zeros v ∙ sym (append_assoc l (v ∷ []) zeros))

-- A store of the next value of f.
pub next_stored : (n : ℕ) (f : ℕ → ℕ) {l : List ℕ} (i j v : ℕ)
    → l ≡ padded n (tabulate i f) → j ≡ i + 1 → i < n → v ≡ f i → set l i v ≡ padded n (tabulate j f)
unfolding tabulate
next_stored n f i j v e s h q =
    let k : length (tabulate i f) ≡ i = length_tabulate i f in
    rw (e, s, add-one i, q) (rw k at (store_padded n (tabulate i f) (f i) (rw k h)))

-- ---- What stands at an index

pub length_padded : (n : ℕ) (l : List ℕ) → length l ≤ n → length (padded n l) ≡ n
unfolding padded
length_padded n l h = length-append l (replicate (n - length l) 0) ∙ omega (arith, length-replicate {A = ℕ} (n - length l) 0)

pub padded_first : (n : ℕ) (l : List ℕ) → take (length l) (padded n l) ≡ l
unfolding padded
padded_first n l = take-append_seam l (replicate (n - length l) 0)

-- A full list needs no zeros.
pub padded_full : (n : ℕ) (l : List ℕ) → length l ≡ n → padded n l ≡ l
unfolding padded
padded_full n l size = let none : n - length l ≡ 0 = omega arith in rw none (append-nil l)

pub padded_at : (n : ℕ) (l : List ℕ) (i : ℕ) → i < length l → get_or (padded n l) i 0 ≡ get_or l i 0
unfolding padded
padded_at n l i h = get_or-append l (replicate (n - length l) 0) 0 i h

pub padded_tabulate_at : (k n : ℕ) (f : ℕ → ℕ) (i : ℕ) → i < n → get_or (padded k (tabulate n f)) i 0 ≡ f i
padded_tabulate_at k n f i l = padded_at k (tabulate n f) i (omega (arith, length_tabulate n f)) ∙ tabulate_at n f i l

-- ---- Filled in any order

-- Zeros follow the list.
padded_past : (n : ℕ) (l : List ℕ) (i : ℕ) → length l ≤ i → i < n → get_or (padded n l) i 0 ≡ 0
unfolding padded
padded_past n l i past h =
    let e : length l + (i - length l) ≡ i = omega arith in
    rw e at (get_or-append-add l (replicate (n - length l) 0) (i - length l) 0) ∙ get_or-replicate (n - length l) (i - length l) 0 0 (omega arith)

-- k entries, f at those below n and 0 at the others: that is the table of f's first n values.
pub padded_by_entries : (k n : ℕ) (f : ℕ → ℕ) (l : List ℕ) → n ≤ k → length l ≡ k
    → ((i : ℕ) → i < n → get_or l i 0 ≡ f i) → ((i : ℕ) → n ≤ i → i < k → get_or l i 0 ≡ 0) → l ≡ padded k (tabulate n f)
padded_by_entries k n f l h size front past =
    ext_get_or 0 l (padded k (tabulate n f)) (size ∙ sym (length_padded k (tabulate n f) (omega (arith, length_tabulate n f)))) (λ i b. ⊎_elim
    (λ (a : i < n). front i a ∙ sym (padded_tabulate_at k n f i a))
    (λ (a : n ≤ i). past i a (omega arith) ∙ sym (padded_past k (tabulate n f) i (omega (arith, length_tabulate n f)) (omega arith)))
    (less_or i n))
