-- What stands at a place of a list, and past its end. Assumes nothing.
use Prim.Native.Nat.{ℕ, zero, suc, ◌≤◌, ◌<◌}
use mathlib.Core.Path.{◌≡◌, refl}
use mathlib.Core.List.{List, [], ◌∷◌, map}
use native.Mathlib.Omega.{arith}
use lib.ListN.{length, get_or}
use Rattle.words.specs.Tables.{letter}

-- At a place of a list, what stands past its end does not matter.
pub any_default : (l : List ℕ) (i d e : ℕ) → i < length l → get_or l i d ≡ get_or l i e
any_default [] i d e l = absurd (omega arith)
any_default (x ∷ s) zero d e l = refl
any_default (x ∷ s) (suc i) d e l = any_default s i d e (omega arith)

-- Where every entry is replaced by another.
pub map_at : (f : ℕ → ℕ) (w : List ℕ) (p : ℕ) → p < length w → get_or (map f w) p 0 ≡ f (get_or w p 0)
map_at f [] p l = absurd (omega arith)
map_at f (x ∷ w) zero l = refl
map_at f (x ∷ w) (suc p) l = map_at f w p (omega arith)

-- Past its end a list has 0.
pub past_end : (l : List ℕ) (x : ℕ) → length l ≤ x → letter l x ≡ 0
past_end [] x h = refl
past_end (y ∷ l) zero h = absurd (omega arith)
past_end (y ∷ l) (suc x) h = past_end l x (omega arith)
