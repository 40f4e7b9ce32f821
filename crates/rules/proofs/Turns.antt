-- A search as turns, where some number falls with each turn that goes on: what one turn does to the whole. Assumes nothing.
use Prim.Native.Nat.{ℕ, zero, suc, ◌<◌}
use mathlib.Core.Path.{◌≡◌, refl}
use native.Mathlib.Omega.{arith}
use Rattle.rules.specs.Rules.{State, Turn, stop, go, End, turns}
use Rattle.rules.specs.declared.Ending.{Ending}

-- A turn that goes on makes the number fall below n.
abbrev pub Falls : (State → ℕ) → ℕ → Turn → Type 0
Falls left n (stop e) = Unit {0}
Falls left n (go r) = left r < n

-- A turn ends in Q, or goes on in P.
abbrev pub Keeps : (State → Type 0) → (Ending → State → Type 0) → State → Turn → Type 0
Keeps P Q s (stop e) = Q e s
Keeps P Q s (go r) = P r

module _ (turn : State → Turn) (left : State → ℕ) (falls : (s : State) → Falls left (left s) (turn s)) where
  -- All turns from a state.
  unfoldable pub all_turns : State → End
  all_turns s = turns turn (suc (left s)) s

  -- More turns than are left change nothing.
  spare : (f g : ℕ) (s : State) → left s < f → left s < g → turns turn f s ≡ turns turn g s
  unfolding turns
  spare zero g s a b = absurd (omega arith)
  spare (suc f) zero s a b = absurd (omega arith)
  spare (suc f) (suc g) s a b = at (turn s) (falls s) (spare f g)
    where
      at : (T : Turn) → Falls left (left s) T → ((r : State) → left r < f → left r < g → turns turn f r ≡ turns turn g r)
          → ◌≡◌ {A = End} (elim T [ stop e ↦ record { ending = e; last = s } | go r ↦ turns turn f r ])
          (elim T [ stop e ↦ record { ending = e; last = s } | go r ↦ turns turn g r ])
      at (stop e) l h = refl
      at (go r) l h = h r (omega arith) (omega arith)

  -- A turn that goes on changes nothing of what all turns come to.
  pub goes_on : (s r : State) → turn s ≡ go r → all_turns s ≡ all_turns r
  unfolding all_turns turns
  goes_on s r e = at (turn s) e (falls s)
    where
      at : (T : Turn) → T ≡ go r → Falls left (left s) T
          → ◌≡◌ {A = End} (elim T [ stop e ↦ record { ending = e; last = s } | go r ↦ turns turn (left s) r ]) (turns turn (suc (left r)) r)
      at (stop e) p l = cc
      at (go q) p l = let z : q ≡ r = cc in rw z (spare (left s) (suc (left r)) r (rw z at l) (omega arith))

  pub ends : (s : State) (x : Ending) → turn s ≡ stop x → all_turns s ≡ record { ending = x; last = s }
  unfolding all_turns turns
  ends s x e = at (turn s) e
    where
      at : (T : Turn) → T ≡ stop x
          → ◌≡◌ {A = End} (elim T [ stop e ↦ record { ending = e; last = s } | go r ↦ turns turn (left s) r ]) record { ending = x; last = s }
      at (stop y) p = cc
      at (go q) p = cc

  -- What every turn keeps holds at the end.
  module _ (P : State → Type 0) (Q : Ending → State → Type 0) (keeps : (s : State) → P s → Keeps P Q s (turn s)) where
    kept : (f : ℕ) (s : State) → left s < f → P s → Q (turns turn f s).ending (turns turn f s).last
    unfolding turns
    kept zero s a p = absurd (omega arith)
    kept (suc f) s a p = at (turn s) (falls s) (keeps s p) (kept f)
      where
        at : (T : Turn) → Falls left (left s) T → Keeps P Q s T
            → ((r : State) → left r < f → P r → Q (turns turn f r).ending (turns turn f r).last)
            → (let E : End = elim T [ stop e ↦ record { ending = e; last = s } | go r ↦ turns turn f r ] in Q E.ending E.last)
        at (stop e) l k h = k
        at (go r) l k h = h r (omega arith) k

    pub at_end : (s : State) → P s → Q (all_turns s).ending (all_turns s).last
    unfolding all_turns
    at_end s p = kept (suc (left s)) s (omega arith) p
