-- The classes that give each value itself: through them bytes are read as they stand. Assumes nothing.
use Prim.Native.Nat.{ℕ, ◌+◌, ◌%◌, ◌≤◌, ◌<◌}
use mathlib.Core.Path.{◌≡◌, refl, ◌∙◌}
use mathlib.Core.Logic.{⊎_elim}
use mathlib.Core.Bool.{false}
use mathlib.Core.List.{List, [], ◌∷◌, map}
use native.Mathlib.Omega.{arith}
use lib.ListN.{length, get_or, drop, length-drop, get_or-eq_default}
use lib.Seq.{get_or-drop}
use Rattle.words.specs.Tables.{letter}
use Rattle.words.specs.Holds.{holds}
use Rattle.words.proofs.Cases.{less_or}
use Rattle.words.proofs.Tabulate.{length_tabulate, tabulate_at, by_entries}
use Rattle.words.proofs.Holding.{lacks_iff}
use Rattle.classes.specs.Classes.{class_count, class_of, through, identity_in, identity}
use Rattle.classes.proofs.Through.{class_entry}

-- ---- A list that is filled so

pub filled : (n : ℕ) (l : List ℕ) → length l ≡ n → ((v : ℕ) → v < n → get_or l v 0 ≡ v % class_count) → l ≡ identity_in n
unfolding identity_in
filled n l size at = by_entries n (λ v. v % class_count) l size at

-- ---- The 256 classes

pub length_identity : length identity ≡ class_count
unfolding identity identity_in
length_identity = length_tabulate class_count (λ v. v % class_count)

entry : (v : ℕ) → v < class_count → letter identity v ≡ v
unfolding identity identity_in
entry v l = tabulate_at class_count (λ v. v % class_count) v l ∙ omega arith

pub class_identity : (v : ℕ) → class_of identity v ≡ v
class_identity v = ⊎_elim
    (λ (l : v < class_count). class_entry identity v (omega (arith, length_identity)) ∙ entry v l)
    (λ (l : class_count ≤ v). get_or-eq_default identity _ (omega (arith, length_identity)) ∙ omega (arith, entry 0 (omega arith)))
    (less_or v class_count)

map_same : (f : ℕ → ℕ) → ((v : ℕ) → f v ≡ v) → (w : List ℕ) → map f w ≡ w
map_same f same [] = refl
map_same f same (x ∷ w) = rw (same x, map_same f same w) refl

-- Every list is read as it stands.
pub through_identity : (w : List ℕ) → through identity w ≡ w
unfolding through
through_identity w = map_same (class_of identity) class_identity w

-- No other value has the class of 0.
pub zero_unshared : holds (letter identity 0) (drop 1 identity) ≡ false
zero_unshared = (lacks_iff (letter identity 0) (drop 1 identity)).1 (λ p l e.
    let here : 1 + p < class_count = omega (arith, length-drop 1 identity, length_identity) in
    omega (arith, e, get_or-drop 1 identity p 0, entry (1 + p) here, entry 0 (omega arith)))
