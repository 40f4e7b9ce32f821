-- Lists that ascend, and the test of it. Assumes nothing.
use Prim.Native.Nat.{ℕ, zero, suc, ◌+◌, ◌-◌, ◌≤◌, ◌<◌, max}
use mathlib.Core.Path.{◌≡◌, refl, sym, ◌∙◌}
use mathlib.Core.Logic.{⊎_elim, ◌↔◌}
use mathlib.Core.Bool.{Bool, true, ◌&&◌, and_comm}
use mathlib.Core.List.{List, [], ◌∷◌, ◌++◌}
use native.Mathlib.Omega.{arith}
use lib.Dec.{ltb, leb}
use lib.ListN.{length, get_or, take, drop, length-drop, length-map}
use lib.Seq.{get_or-take, get_or-drop, length-take-le}
use borrow.Author.Tests.{ltb-true, lt-ltb, le-leb, leb-true}
use Rattle.words.specs.Numbers.{every}
use Rattle.words.proofs.Cases.{less_or, both_true}
use Rattle.words.proofs.Numbers.{every_of, every_is}
use Rattle.lists.specs.Lists.{Listed, Ascending, ascends, in_order, moved}
use Rattle.lists.proofs.Entries.{listed_first, listed_later, first_or_later, listed_cases, moved_at}

-- ---- The first and the later ones

pub later_ascends : (x : ℕ) (l : List ℕ) → Ascending (x ∷ l) → Ascending l
later_ascends x l A i j h g = A (suc i) (suc j) (omega arith) (omega arith)

pub first_below : (x : ℕ) (l : List ℕ) {y : ℕ} → Ascending (x ∷ l) → Listed l y → x < y
first_below x l A (i, h, e) = omega (arith, A 0 (suc i) (omega arith) (omega arith), e)

pub ascending_cons : (x : ℕ) (l : List ℕ) → ((y : ℕ) → Listed l y → x < y) → Ascending l → Ascending (x ∷ l)
ascending_cons x l first A i zero h g = absurd (omega arith)
ascending_cons x l first A zero (suc j) h g = first _ (j, omega arith, refl)
ascending_cons x l first A (suc i) (suc j) h g = A i j (omega arith) (omega arith)

-- ---- Two lists in one

pub ascending_append : (a b : List ℕ) → Ascending a → Ascending b → ((x y : ℕ) → Listed a x → Listed b y → x < y) → Ascending (a ++ b)
ascending_append [] b A B cross = B
ascending_append (x ∷ a) b A B cross =
    ascending_cons x (a ++ b) (λ y h. ⊎_elim (λ g. first_below x a A g) (λ g. cross x y (listed_first x a) g) (listed_cases a b h))
    (ascending_append a b (later_ascends x a A) B (λ y z h g. cross y z (listed_later x a h) g))

-- ---- Parts of a list

module _ (l : List ℕ) (A : Ascending l) where
  pub ascending_take : (k : ℕ) → k ≤ length l → Ascending (take k l)
  ascending_take k g i j h m =
      let n : j < k = omega (arith, length-take-le k l g) in
      rw (get_or-take k l i 0 (omega arith), get_or-take k l j 0 n) (A i j h (omega arith))

  pub ascending_drop : (k : ℕ) → k ≤ length l → Ascending (drop k l)
  ascending_drop k g i j h m =
      rw (get_or-drop k l i 0, get_or-drop k l j 0) (A (k + i) (k + j) (omega arith) (omega (arith, length-drop k l)))

  pub ascending_moved : (start : ℕ) → Ascending (moved start l)
  ascending_moved start i j h g =
      let k : j < length l = omega (arith, length-map l (λ (x : ℕ). start + x)) in
      rw (moved_at start l i (omega arith), moved_at start l j k) (omega (arith, A i j h k))

  -- Entries d places apart differ by d at least.
  apart_by : (i d : ℕ) → i + d < length l → get_or l i 0 + d ≤ get_or l (i + d) 0
  apart_by i zero h = let e : i + 0 ≡ i = omega arith in rw e (omega arith)
  apart_by i (suc d) h =
      let e : i + suc d ≡ suc (i + d) = omega arith in
      rw e (omega (arith, apart_by i d (omega arith), A (i + d) (suc (i + d)) (omega arith) (omega arith)))

  -- So there are no more of them than numbers from a on and below b.
  pub at_most : (a b : ℕ) → a ≤ b → ((i : ℕ) → i < length l → (a ≤ get_or l i 0) × (get_or l i 0 < b)) → length l ≤ b - a
  at_most a b g between = ⊎_elim
      (λ (h : 0 < length l).
      let e : 0 + (length l - 1) ≡ length l - 1 = omega arith in
      omega (arith, (between 0 h).0, (between (length l - 1) (omega arith)).1, rw e at (apart_by 0 (length l - 1) (omega arith))))
      (λ (h : length l ≤ 0). omega arith)
      (less_or 0 (length l))

-- ---- Two lists that ascend and have the same entries are one

-- An entry after the first is one of the other list after its first.
later_in : (x y : ℕ) (a b : List ℕ) → x ≡ y → Ascending (x ∷ a) → ((z : ℕ) → Listed (x ∷ a) z → Listed (y ∷ b) z) → (z : ℕ) → Listed a z → Listed b z
later_in x y a b same A into z h = ⊎_elim
    (λ (e : z ≡ y). absurd (omega (arith, first_below x a A h)))
    (λ g. g)
    (first_or_later y b (into z (listed_later x a h)))

first_least : (y : ℕ) (l : List ℕ) {x : ℕ} → Ascending (y ∷ l) → Listed (y ∷ l) x → y ≤ x
first_least y l {x} A h = ⊎_elim (λ (e : x ≡ y). omega arith) (λ g. omega (arith, first_below y l A g)) (first_or_later y l h)

pub same_entries : (a b : List ℕ) → Ascending a → Ascending b → ((x : ℕ) → Listed a x → Listed b x) → ((x : ℕ) → Listed b x → Listed a x) → a ≡ b
same_entries [] [] A B f g = refl
same_entries [] (y ∷ b) A B f g = absurd (omega (arith, (g y (listed_first y b)).1))
same_entries (x ∷ a) [] A B f g = absurd (omega (arith, (f x (listed_first x a)).1))
same_entries (x ∷ a) (y ∷ b) A B f g =
    let e : x ≡ y = omega (arith, first_least y b B (f x (listed_first x a)), first_least x a A (g y (listed_first y b))) in
    let d : a ≡ b = same_entries a b (later_ascends x a A) (later_ascends y b B) (later_in x y a b e A f) (later_in y x b a (sym e) B g) in
    cc

-- ---- The test

module _ (l : List ℕ) where
  -- Entry i is below the next.
  abbrev pub rises : ℕ → Bool
  rises i = ltb (get_or l i 0) (get_or l (suc i) 0)

  pub ascends_of : ((i : ℕ) → suc i < length l → get_or l i 0 < get_or l (suc i) 0) → ascends l ≡ true
  unfolding ascends
  ascends_of h = every_of (length l - 1) rises (λ i g. lt-ltb _ _ (h i (omega arith)))

  ascends_is : ascends l ≡ true → Ascending l
  unfolding ascends
  ascends_is e i j h g = let z : i + suc (j - suc i) ≡ j = omega arith in rw z at (far (j - suc i) (omega arith))
    where
      near : (i : ℕ) → suc i < length l → get_or l i 0 < get_or l (suc i) 0
      near i g = ltb-true _ _ (every_is (length l - 1) rises e i (omega arith))

      far : (d : ℕ) → i + suc d < length l → get_or l i 0 < get_or l (i + suc d) 0
      far zero g = let z : i + 1 ≡ suc i = omega arith in rw z (near i (omega arith))
      far (suc d) g = let z : i + suc (suc d) ≡ suc (i + suc d) = omega arith in rw z (omega (arith, far d (omega arith), near (i + suc d) (omega arith)))

-- ---- The entries in use

module _ (list : List ℕ) (used : ℕ) where
  pub in_order_is : in_order list used ≡ true → (used ≤ length list) × Ascending (take used list)
  in_order_is e = let h = both_true (leb used (length list)) (ascends (take used list)) e in (leb-true used (length list) h.0, ascends_is (take used list) h.1)

  module _ (fits : used ≤ length list) where
    used_length : length (take used list) ≡ used
    used_length = length-take-le used list fits

    pub in_order_of : ((i : ℕ) → suc i < used → get_or list i 0 < get_or list (suc i) 0) → in_order list used ≡ true
    in_order_of rises = rw (le-leb used (length list) fits) (ascends_of (take used list) (λ i h.
        let g : suc i < used = omega (arith, used_length) in
        rw (get_or-take used list i 0 (omega arith), get_or-take used list (suc i) 0 g) (rises i g)))

  -- What `in_order` ensures of its answer r.
  pub answers : {r : Bool} → r ≡ in_order list used → (r ≡ in_order list used) × ((r ≡ true) ↔ ((used ≤ length list) × Ascending (take used list)))
  answers e = (
    e,
    rw e (
      in_order_is,
      λ h. in_order_of h.0 (λ i g.
          let A = h.1 i (suc i) (omega arith) (omega (arith, used_length h.0)) in
          rw (get_or-take used list i 0 (omega arith), get_or-take used list (suc i) 0 g) at A),
    ),
  )

-- ---- The test by code, pair by pair

every_same : (n : ℕ) (q t : ℕ → Bool) → ((i : ℕ) → i < n → q i ≡ t i) → every n q ≡ every n t
unfolding every
every_same zero q t h = refl
every_same (suc n) q t h = rw (h n (omega arith), every_same n q t (λ i l. h i (omega arith))) refl

-- One entry alone ascends.
pub none_tested : (list : List ℕ) → true ≡ every (1 - 1) (rises list)
unfolding every
none_tested list = refl

-- The first i entries are tested, and entry i is.
pub pair_tested : (list : List ℕ) (i : ℕ) (rising : Bool) → 1 ≤ i → rising ≡ every (i - 1) (rises list)
    → (rising && ltb (get_or list (i - 1) 0) (get_or list i 0)) ≡ every (i + 1 - 1) (rises list)
unfolding every
pair_tested list i rising positive e =
    let on : i + 1 - 1 ≡ suc (i - 1) = omega arith in
    let next : suc (i - 1) ≡ i = omega arith in
    rw (e, on, next) (and_comm (every (i - 1) (rises list)) (ltb (get_or list (i - 1) 0) (get_or list i 0)))

-- Where all in use are tested, it is the answer.
pub all_tested : (list : List ℕ) (used i : ℕ) (rising : Bool) → used ≤ length list → 1 ≤ i → i ≤ max 1 used → used ≤ i
    → rising ≡ every (i - 1) (rises list) → rising ≡ in_order list used
unfolding ascends
all_tested list used i rising fits positive upto past e =
    let size : length (take used list) ≡ used = length-take-le used list fits in
    let last : i - 1 ≡ used - 1 = omega arith in
    rw (le-leb used (length list) fits, size, sym last) (e ∙ every_same (i - 1) (rises list) (rises (take used list))
    (λ k l. let later : suc k < used = omega arith in
    rw (get_or-take used list k 0 (omega arith), get_or-take used list (suc k) 0 later) refl))
