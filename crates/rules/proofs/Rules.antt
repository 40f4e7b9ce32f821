-- One law for each rule, which rule applies, and what a turn does to the whole search. Assumes nothing.
use Prim.Native.Nat.{ℕ, suc, ◌+◌, ◌-◌, ◌≤◌, ◌<◌}
use mathlib.Core.Path.{◌≡◌, refl, sym, ◌∙◌}
use mathlib.Core.Logic.{◌⊎◌, inl, inr, ⊎_elim}
use mathlib.Core.Bool.{true, false, or-true}
use native.Mathlib.Omega.{arith}
use native.Mathlib.Nat.{mul-le-mul_right}
use lib.Dec.{leb, eqb}
use lib.ListN.{length}
use borrow.Author.Tests.{lt-ltb, le-ltb, le-leb, lt-leb, eq-eqb, ne_eqb, eqb-true, eqb-false}
use Rattle.words.proofs.Cases.{less_or, true_or_false}
use Rattle.rules.specs.Rules.{Plan, Source, State, start, Turn, stop, go, established, edge_after, leave, listed, agree, compared, matched, missed, occurrence, comparison, turn, left, rest, search}
use Rattle.rules.specs.Internal.Passing.{Established, Due}
use Rattle.rules.specs.declared.Ending.{Ending}
use Rattle.rules.specs.declared.Ending.TheVariants.{Done, Spent, Full}
use Rattle.rules.proofs.Turns.{Falls, Keeps, all_turns, goes_on, ends, at_end}

module _ (plan : Plan) where
  established_or_due : (b i e : ℕ) → Established plan b i e ⊎ Due plan b i e
  established_or_due b i e = ⊎_elim
      (λ (l : i < plan.m). ⊎_elim
      (λ (k : b + plan.place i < e). inl (inr k))
      (λ (k : e ≤ b + plan.place i). inr record { rank = l; beyond = k })
      (less_or (b + plan.place i) e))
      (λ (l : plan.m ≤ i). inl (inl l))
      (less_or i plan.m)

  pub edge_kept : (i b e : ℕ) → i < plan.edge_from → edge_after plan i b e ≡ e
  unfolding edge_after
  edge_kept i b e l = rw (lt-ltb i plan.edge_from l, edge_after) refl

  pub edge_moved : (i b e : ℕ) → plan.edge_from ≤ i → edge_after plan i b e ≡ b + plan.m
  unfolding edge_after
  edge_moved i b e l = rw (le-ltb i plan.edge_from l, edge_after) refl

  established_test : (s : State) → Established plan s.window s.rank s.edge → established plan s ≡ true
  unfolding established
  established_test s (inl l) = rw (le-leb plan.m s.rank l) refl
  established_test s (inr l) = rw (lt-ltb (s.window + plan.place s.rank) s.edge l) (or-true (leb plan.m s.rank))

  due_test : (s : State) → Due plan s.window s.rank s.edge → established plan s ≡ false
  unfolding established
  due_test s d = rw (lt-leb plan.m s.rank d.rank, le-ltb (s.window + plan.place s.rank) s.edge d.beyond) refl

-- ---- One law for each rule

module _ (plan : Plan) (source : Source) (cap size : ℕ) where
  module _ (s : State) where
    pub turn_done : source.n < s.window + plan.m → turn plan source cap size s ≡ stop Done
    unfolding turn
    turn_done l = rw (lt-leb (s.window + plan.m) source.n l, turn) refl

    module _ (fits : s.window + plan.m ≤ source.n) where
      -- Rule 1.
      module _ (k : Established plan s.window s.rank s.edge) where
        known : turn plan source cap size s ≡ occurrence plan size s
        unfolding turn
        known = rw (le-leb (s.window + plan.m) source.n fits, established_test plan s k, turn) refl

        pub turn_full : size ≤ length s.found → turn plan source cap size s ≡ stop (Full s.window)
        unfolding occurrence
        turn_full l = known ∙ rw (le-ltb (length s.found) size l, occurrence) refl

        pub turn_listed : length s.found < size → turn plan source cap size s ≡ go (listed plan s)
        unfolding occurrence
        turn_listed l = known ∙ rw (lt-ltb (length s.found) size l, occurrence) refl

      -- Rule 2.
      module _ (d : Due plan s.window s.rank s.edge) where
        unknown : turn plan source cap size s ≡ comparison plan source cap s
        unfolding turn
        unknown = rw (le-leb (s.window + plan.m) source.n fits, due_test plan s d, turn) refl

        pub turn_spent : length s.made ≡ cap → turn plan source cap size s ≡ stop (Spent s.window)
        unfolding comparison
        turn_spent e = unknown ∙ rw (eq-eqb (length s.made) cap e, comparison) refl

        module _ (more : length s.made ≡ cap → ⊥) where
          pub turn_matched : source.agree s.window (plan.place s.rank) (length s.made) ≡ true
              → turn plan source cap size s ≡ go (matched plan s)
          unfolding comparison agree
          turn_matched q = unknown ∙ rw (ne_eqb (length s.made) cap more, q, comparison) refl

          pub turn_missed : source.agree s.window (plan.place s.rank) (length s.made) ≡ false
              → turn plan source cap size s ≡ go (missed plan s)
          unfolding comparison agree
          turn_missed q = unknown ∙ rw (ne_eqb (length s.made) cap more, q, comparison) refl

  -- ---- Which rule applies

  pub data Rule (s : State) : Turn → Type 0 where
    past : source.n < s.window + plan.m → Rule s (stop Done)
    fills : s.window + plan.m ≤ source.n → Established plan s.window s.rank s.edge → size ≤ length s.found
        → Rule s (stop (Full s.window))
    lists : s.window + plan.m ≤ source.n → Established plan s.window s.rank s.edge → length s.found < size
        → Rule s (go (listed plan s))
    spends : s.window + plan.m ≤ source.n → Due plan s.window s.rank s.edge → length s.made ≡ cap
        → Rule s (stop (Spent s.window))
    matches : s.window + plan.m ≤ source.n → Due plan s.window s.rank s.edge → (length s.made ≡ cap → ⊥)
        → source.agree s.window (plan.place s.rank) (length s.made) ≡ true → Rule s (go (matched plan s))
    misses : s.window + plan.m ≤ source.n → Due plan s.window s.rank s.edge → (length s.made ≡ cap → ⊥)
        → source.agree s.window (plan.place s.rank) (length s.made) ≡ false → Rule s (go (missed plan s))

  pub rule : (s : State) → Rule s (turn plan source cap size s)
  rule s = ⊎_elim
      (λ (l : source.n < s.window + plan.m). rw (turn_done s l) (past l))
      (λ (fits : s.window + plan.m ≤ source.n). ⊎_elim
      (λ (k : Established plan s.window s.rank s.edge). ⊎_elim
      (λ (l : length s.found < size). rw (turn_listed s fits k l) (lists fits k l))
      (λ (l : size ≤ length s.found). rw (turn_full s fits k l) (fills fits k l))
      (less_or (length s.found) size))
      (λ (d : Due plan s.window s.rank s.edge). ⊎_elim
      (λ (e : eqb (length s.made) cap ≡ true).
      let c = eqb-true (length s.made) cap e in
      rw (turn_spent s fits d c) (spends fits d c))
      (λ (e : eqb (length s.made) cap ≡ false).
      let c = eqb-false (length s.made) cap e in
      ⊎_elim
      (λ q. rw (turn_matched s fits d c q) (matches fits d c q))
      (λ q. rw (turn_missed s fits d c q) (misses fits d c q))
      (true_or_false (source.agree s.window (plan.place s.rank) (length s.made))))
      (true_or_false (eqb (length s.made) cap)))
      (established_or_due plan s.window s.rank s.edge))
      (less_or source.n (s.window + plan.m))

-- ---- The turns that are left

-- A later window leaves fewer turns.
pub fewer : (m n b k i j : ℕ) → b + m ≤ n → 1 ≤ k → left m n (b + k) j < left m n b i
fewer m n b k i j l h =
    let d : suc (suc n - (b + k)) ≤ suc n - b = omega arith in
    omega (arith, mul-le-mul_right (suc m) d)

-- They do not grow from rank 0 of a window to a later one.
pub no_more : (m n b i b' i' : ℕ) → i ≡ 0 → b ≤ b' → left m n b' i' ≤ left m n b i
no_more m n b i b' i' first l =
    let d : suc n - b' ≤ suc n - b = omega arith in
    omega (arith, mul-le-mul_right (suc m) d)

-- A plan whose shifts move the window on.
abbrev pub Moving : Plan → Type 0
Moving plan = (i : ℕ) → i ≤ plan.m → 1 ≤ plan.shift i

module _ (plan : Plan) (source : Source) (moving : Moving plan) (cap size : ℕ) where
  abbrev left_at : State → ℕ
  left_at s = left plan.m source.n s.window s.rank

  falls : (s : State) → Falls left_at (left_at s) (turn plan source cap size s)
  unfolding matched compared missed listed leave
  falls s = at (turn plan source cap size s) (rule plan source cap size s)
    where
      at : (T : Turn) → Rule plan source cap size s T → Falls left_at (left_at s) T
      at _ (past l) = tt
      at _ (fills fits k l) = tt
      at _ (lists fits k l) = fewer plan.m source.n s.window (plan.shift plan.m) s.rank _ fits (moving plan.m (omega arith))
      at _ (spends fits d e) = tt
      at _ (matches fits d e q) = omega (arith, d.rank)
      at _ (misses fits d e q) =
          fewer plan.m source.n s.window (plan.shift s.rank) s.rank _ fits (moving s.rank (omega (arith, d.rank)))

  rest_is : (s : State) → rest plan source cap size s ≡ all_turns (turn plan source cap size) left_at falls s
  unfolding rest all_turns
  rest_is s = refl

  -- What a turn does to the rest of the search.
  pub rest_goes_on : (s r : State) → turn plan source cap size s ≡ go r → rest plan source cap size s ≡ rest plan source cap size r
  rest_goes_on s r e = rest_is s ∙ goes_on (turn plan source cap size) left_at falls s r e ∙ sym (rest_is r)

  pub rest_ends : (s : State) (x : Ending) → turn plan source cap size s ≡ stop x → rest plan source cap size s ≡ record { ending = x; last = s }
  rest_ends s x e = rest_is s ∙ ends (turn plan source cap size) left_at falls s x e

  -- What every turn keeps from a state on holds at the end.
  pub rest_keeps : (P : State → Type 0) (Q : Ending → State → Type 0) → ((s : State) → P s → Keeps P Q s (turn plan source cap size s))
      → (s : State) → P s → Q (rest plan source cap size s).ending (rest plan source cap size s).last
  rest_keeps P Q keeps s p = rw (rest_is s) (at_end (turn plan source cap size) left_at falls P Q keeps s p)

  pub search_keeps : (P : State → Type 0) (Q : Ending → State → Type 0) → ((s : State) → P s → Keeps P Q s (turn plan source cap size s))
      → P start → Q (search plan source cap size).ending (search plan source cap size).last
  unfolding search
  search_keeps P Q keeps p = rest_keeps P Q keeps start p

  -- The turns never run out: the search ends in a state whose turn ends it, and as that turn says.
  pub search_stops : turn plan source cap size (search plan source cap size).last ≡ stop (search plan source cap size).ending
  search_stops = search_keeps (λ s. Unit {0}) (λ e s. turn plan source cap size s ≡ stop e) (λ s p. at s (turn plan source cap size s) refl) tt
    where
      at : (s : State) (T : Turn) → turn plan source cap size s ≡ T → Keeps (λ s. Unit {0}) (λ e s. turn plan source cap size s ≡ stop e) s T
      at s (stop e) q = q
      at s (go r) q = tt
