-- What a store leaves of the entries elsewhere. Assumes nothing.
use Prim.Native.Nat.{ℕ, ◌+◌, ◌-◌, ◌≤◌, ◌<◌}
use mathlib.Core.Path.{◌≡◌, refl, sym, ap, ◌∙◌}
use mathlib.Core.Logic.{⊎_elim}
use mathlib.Core.List.{List}
use native.Mathlib.Omega.{arith}
use lib.Dec.{eqb}
use lib.ListN.{length, get_or, set, drop, length-set}
use lib.Seq.{get_or-set_same, get_or-set_other, drop-set-lt, drop-drop}
use borrow.Author.Tests.{eqb-true, eqb-false}
use Rattle.words.specs.Tables.{hmax}
use Rattle.words.proofs.Cases.{true_or_false}
use Rattle.hmax.specs.Table.{HasHmax}
use Rattle.hmax.specs.Internal.Steps.{Room}

-- ---- What stores among the first n entries keep: the rest, and the length

pub record KeptFrom (n : ℕ) (before after : List ℕ) : Type 0 where
  pub rest : drop n after ≡ drop n before
  pub size : length after ≡ length before

module _ {n : ℕ} where
  pub kept_same : (s : List ℕ) → KeptFrom n s s
  kept_same s = record { rest = refl; size = refl }

  pub kept_both : {a b c : List ℕ} → KeptFrom n a b → KeptFrom n b c → KeptFrom n a c
  kept_both K L = record { rest = L.rest ∙ K.rest; size = L.size ∙ K.size }

  pub kept_later : {m : ℕ} {a b : List ℕ} → n ≤ m → KeptFrom n a b → KeptFrom m a b
  kept_later {m} {a} {b} l K =
      let sum : n + (m - n) ≡ m = omega arith in
      record { rest = rw sum at (sym (drop-drop (m - n) n b) ∙ ap (drop (m - n)) K.rest ∙ drop-drop (m - n) n a); size = K.size }

-- ---- A store of v at entry i

module _ (s : List ℕ) (i v : ℕ) where
  -- Entry j has P then, if v has it where j is i, and the entry had it where j is another.
  pub after_store :
      (P : ℕ → Type 0) (j : ℕ) → i < length s → (j ≡ i → P v) → ((j ≡ i → ⊥) → P (get_or s j 0)) → P (get_or (set s i v) j 0)
  after_store P j l here there = ⊎_elim
      (λ e. let same = eqb-true j i e in rw (same, get_or-set_same s i v 0 l) (here same))
      (λ e. let other = eqb-false j i e in rw (get_or-set_other s i j v 0 other) (there other))
      (true_or_false (eqb j i))

  pub kept_store : {n : ℕ} {before : List ℕ} → i < n → KeptFrom n before s → KeptFrom n before (set s i v)
  kept_store {n} l K = record { rest = drop-set-lt n s i v l ∙ K.rest; size = length-set s i v ∙ K.size }

  -- A store past the table of hmax keeps it,
  pub hmax_kept : (w : List ℕ) (n : ℕ) → n ≤ i → HasHmax w s n → HasHmax w (set s i v) n
  hmax_kept w n l H k h = get_or-set_other s i k v 0 (λ e. omega arith) ∙ H k h

  -- and one at its end makes it longer.
  pub hmax_store : (w : List ℕ) → i < length s → v ≡ hmax w i → HasHmax w s i → HasHmax w (set s i v) (i + 1)
  hmax_store w l e H k h = after_store (λ x. x ≡ hmax w k) k l (λ same. e ∙ ap (hmax w) (sym same)) (λ other. H k (omega arith))

-- A table with the entries below k, into which that of k is stored: there is room, and the table is longer.
pub next_stored : (w lent s : List ℕ) (k v : ℕ) {n : ℕ} → Room w lent → KeptFrom n lent s → k ≤ length w → v ≡ hmax w k → HasHmax w s k
    → Room w (set s k v) × HasHmax w (set s k v) (k + 1)
next_stored w lent s k v R K inside e H =
    let size = K.size in
    let room = R.entries in (
      record { some = R.some; entries = simp length-set (omega arith); small = R.small },
      hmax_store s k v w (omega arith) e H,
    )
