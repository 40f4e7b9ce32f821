-- Bytes read through classes: what stands at a place, and of how many. Assumes nothing.
use Prim.Native.Nat.{ℕ, ◌<◌}
use mathlib.Core.Path.{◌≡◌, sym, ap, ◌∙◌}
use mathlib.Core.List.{List}
use lib.ListN.{length, get_or, length-map}
use Rattle.words.specs.Tables.{letter}
use Rattle.words.proofs.Entries.{any_default, map_at}
use Rattle.classes.specs.Classes.{class_of, through}

-- The class of a value that has an entry is that entry.
pub class_entry : (c : List ℕ) (v : ℕ) → v < length c → class_of c v ≡ get_or c v 0
class_entry c v l = any_default c v _ 0 l

-- As code reads the class of x, at v.
pub class_read : (c : List ℕ) {v x : ℕ} → v < length c → v ≡ x → get_or c v 0 ≡ class_of c x
class_read c {v} l is = sym (class_entry c v l) ∙ ap (class_of c) is

module _ (c : List ℕ) where
  pub length_through : (w : List ℕ) → length (through c w) ≡ length w
  unfolding through
  length_through w = length-map w (class_of c)

  pub through_at : (w : List ℕ) (p : ℕ) → p < length w → letter (through c w) p ≡ class_of c (letter w p)
  unfolding through
  through_at w p l = map_at (class_of c) w p l
