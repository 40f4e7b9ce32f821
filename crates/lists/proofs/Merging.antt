-- Numbers put into a list where they belong. Assumes nothing.
use Prim.Native.Nat.{ℕ, suc, ◌+◌, ◌≤◌, ◌<◌}
use mathlib.Core.Path.{◌≡◌, refl, ap, ◌∙◌}
use mathlib.Core.Logic.{◌⊎◌, inl, inr, ⊎_elim}
use mathlib.Core.List.{List, [], ◌∷◌, ◌++◌}
use borrow.Author.Tests.{lt-ltb, le-ltb}
use native.Mathlib.Omega.{arith}
use lib.ListN.{length}
use Rattle.words.proofs.Cases.{less_or}
use Rattle.lists.specs.Lists.{Listed, Ascending, insert, merged}
use Rattle.lists.proofs.Entries.{listed_first, listed_later, first_or_later, listed_cases}
use Rattle.lists.proofs.Ascending.{later_ascends, first_below, ascending_cons}

-- ---- One number

module _ (x y : ℕ) (l : List ℕ) where
  insert_here : x < y → insert x (y ∷ l) ≡ x ∷ y ∷ l
  unfolding insert
  insert_here h = rw (lt-ltb x y h, insert) refl

  insert_later : y ≤ x → insert x (y ∷ l) ≡ y ∷ insert x l
  unfolding insert
  insert_later h = rw (le-ltb x y h, insert) refl

insert_alone : (x : ℕ) → insert x [] ≡ x ∷ []
unfolding insert
insert_alone x = refl

inserts : (x : ℕ) (l : List ℕ) → Listed (insert x l) x
inserts x [] = rw (insert_alone x) (listed_first x [])
inserts x (y ∷ l) = ⊎_elim
    (λ (h : x < y). rw (insert_here x y l h) (listed_first x (y ∷ l)))
    (λ (h : y ≤ x). rw (insert_later x y l h) (listed_later y (insert x l) (inserts x l)))
    (less_or x y)

inserts_beside : (x : ℕ) (l : List ℕ) {z : ℕ} → Listed l z → Listed (insert x l) z
inserts_beside x [] h = absurd (omega (arith, h.1))
inserts_beside x (y ∷ l) {z} h = ⊎_elim
    (λ (g : x < y). rw (insert_here x y l g) (listed_later x (y ∷ l) h))
    (λ (g : y ≤ x). rw (insert_later x y l g) (⊎_elim
    (λ (e : z ≡ y). rw e (listed_first y (insert x l)))
    (λ k. listed_later y (insert x l) (inserts_beside x l k))
    (first_or_later y l h)))
    (less_or x y)

inserted_is : (x : ℕ) (l : List ℕ) {z : ℕ} → Listed (insert x l) z → (z ≡ x) ⊎ Listed l z
inserted_is x [] h = first_or_later x [] (rw (insert_alone x) at h)
inserted_is x (y ∷ l) {z} h = ⊎_elim
    (λ (g : x < y). first_or_later x (y ∷ l) (rw (insert_here x y l g) at h))
    (λ (g : y ≤ x). ⊎_elim
    (λ (e : z ≡ y). inr (rw e (listed_first y l)))
    (λ k. ⊎_elim (λ e. inl e) (λ i. inr (listed_later y l i)) (inserted_is x l k))
    (first_or_later y (insert x l) (rw (insert_later x y l g) at h)))
    (less_or x y)

length_insert : (x : ℕ) (l : List ℕ) → length (insert x l) ≡ suc (length l)
length_insert x [] = ap length (insert_alone x)
length_insert x (y ∷ l) = ⊎_elim
    (λ (h : x < y). ap length (insert_here x y l h))
    (λ (h : y ≤ x). ap length (insert_later x y l h) ∙ ap suc (length_insert x l))
    (less_or x y)

insert_ascends : (x : ℕ) (l : List ℕ) → Ascending l → (Listed l x → ⊥) → Ascending (insert x l)
insert_ascends x [] A new = rw (insert_alone x) (ascending_cons x [] (λ y h. absurd (omega (arith, h.1))) A)
insert_ascends x (y ∷ l) A new = ⊎_elim
    (λ (h : x < y). rw (insert_here x y l h) (ascending_cons x (y ∷ l) (λ z g. ⊎_elim
    (λ (e : z ≡ y). omega arith)
    (λ k. omega (arith, first_below y l A k))
    (first_or_later y l g)) A))
    (λ (h : y ≤ x). rw (insert_later x y l h) (ascending_cons y (insert x l) (λ z g. ⊎_elim
    (λ (e : z ≡ x). ⊎_elim
    (λ (k : y < x). omega arith)
    (λ (k : x ≤ y). absurd (new (rw (same h k) (listed_first y l))))
    (less_or y x))
    (λ k. first_below y l A k)
    (inserted_is x l g)) (insert_ascends x l (later_ascends y l A) (λ k. new (listed_later y l k)))))
    (less_or x y)
  where
    same : y ≤ x → x ≤ y → x ≡ y
    same h k = omega arith

-- ---- Each number of a list

merged_empty : (l : List ℕ) → merged [] l ≡ l
unfolding merged
merged_empty l = refl

merged_more : (x : ℕ) (new l : List ℕ) → merged (x ∷ new) l ≡ insert x (merged new l)
unfolding merged
merged_more x new l = refl

pub merges_new : (new l : List ℕ) {x : ℕ} → Listed new x → Listed (merged new l) x
merges_new [] l h = absurd (omega (arith, h.1))
merges_new (y ∷ new) l {x} h = rw (merged_more y new l) (⊎_elim
    (λ (e : x ≡ y). rw e (inserts y (merged new l)))
    (λ k. inserts_beside y (merged new l) (merges_new new l k))
    (first_or_later y new h))

pub merges_old : (new l : List ℕ) {x : ℕ} → Listed l x → Listed (merged new l) x
merges_old [] l h = rw (merged_empty l) h
merges_old (y ∷ new) l h = rw (merged_more y new l) (inserts_beside y (merged new l) (merges_old new l h))

pub merged_is : (new l : List ℕ) {x : ℕ} → Listed (merged new l) x → Listed new x ⊎ Listed l x
merged_is [] l h = inr (rw (merged_empty l) at h)
merged_is (y ∷ new) l {x} h = ⊎_elim
    (λ (e : x ≡ y). inl (rw e (listed_first y new)))
    (λ k. ⊎_elim (λ i. inl (listed_later y new i)) (λ i. inr i) (merged_is new l k))
    (inserted_is y (merged new l) (rw (merged_more y new l) at h))

pub length_merged : (new l : List ℕ) → length (merged new l) ≡ length new + length l
length_merged [] l = omega (arith, ap length (merged_empty l))
length_merged (x ∷ new) l = omega (arith, ap length (merged_more x new l), length_insert x (merged new l), length_merged new l)

pub merged_ascends : (new l : List ℕ) → Ascending new → Ascending l → ((x : ℕ) → Listed new x → Listed l x → ⊥) → Ascending (merged new l)
merged_ascends [] l A B apart = rw (merged_empty l) B
merged_ascends (x ∷ new) l A B apart = rw (merged_more x new l) (insert_ascends x (merged new l)
    (merged_ascends new l (later_ascends x new A) B (λ y h g. apart y (listed_later x new h) g))
    (λ h. ⊎_elim (λ g. absurd (omega (arith, first_below x new A g))) (λ g. apart x (listed_first x new) g) (merged_is new l h)))

-- No number changes nothing.
pub merged_none : (new l : List ℕ) → ((x : ℕ) → Listed new x → ⊥) → merged new l ≡ l
merged_none [] l none = merged_empty l
merged_none (x ∷ new) l none = absurd (none x (listed_first x new))

-- ---- Where they stand

-- Between the entries that are less and those that are greater.
insert_between : (x : ℕ) (a b : List ℕ) → ((y : ℕ) → Listed a y → y < x) → ((y : ℕ) → Listed b y → x < y) → insert x (a ++ b) ≡ a ++ (x ∷ b)
insert_between x [] [] less greater = insert_alone x
insert_between x [] (y ∷ b) less greater = insert_here x y b (greater y (listed_first y b))
insert_between x (y ∷ a) b less greater =
    insert_later x y (a ++ b) (omega (arith, less y (listed_first y a)))
    ∙ ap (λ (r : List ℕ). y ∷ r) (insert_between x a b (λ z h. less z (listed_later y a h)) greater)

-- Numbers that ascend, between the entries that are less than all of them and those that are greater.
pub merged_between : (new a b : List ℕ) → Ascending new → ((x y : ℕ) → Listed new x → Listed a y → y < x)
    → ((x y : ℕ) → Listed new x → Listed b y → x < y) → merged new (a ++ b) ≡ a ++ (new ++ b)
merged_between [] a b A less greater = merged_empty (a ++ b)
merged_between (x ∷ new) a b A less greater =
    merged_more x new (a ++ b) ∙ ap (insert x) (merged_between new a b (later_ascends x new A) (λ y z h g. less y z (listed_later x new h) g) (λ y z h g. greater y z (listed_later x new h) g))
    ∙ insert_between x a (new ++ b) (λ y h. less x y (listed_first x new) h)
    (λ y h. ⊎_elim (λ g. first_below x new A g) (λ g. greater x y (listed_first x new) g) (listed_cases new b h))
