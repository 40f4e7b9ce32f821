-- A table of a custom order's shifts in lent memory.
use Rattle.std.specs.Prelude.{ℕ, suc, Bool, true, false, ◌&&◌, List, ◌++◌, ltb, leb, length, drop}
use Rattle.words.specs.Numbers.{tabulate}
use Rattle.custom.specs.Order.{arranged}
use Rattle.custom.specs.Custom.{custom_shift}

-- How many places a byte can name.
abbrev pub named_places : ℕ
named_places = 256

-- There is a letter; the order is an arrangement of the places of w, each of which a byte can name; and n entries have room for a shift of each
-- rank from 0 to m.
unfoldable pub fits : List ℕ → List ℕ → ℕ → Bool
unfolding arranged
fits w order n = leb 1 (length w) && (leb (length w) named_places && (ltb (length w) n && arranged (length w) order))

-- What a lent table s then holds: the shift of rank i at entry i, and after them what was lent. Where it does not fit, all is as it was lent.
unfoldable pub shifts_after : List ℕ → List ℕ → List ℕ → List ℕ
unfolding fits tabulate custom_shift
shifts_after w order s = elim (fits w order (length s)) [
  | true ↦ tabulate (suc (length w)) (custom_shift w order) ++ drop (suc (length w)) s
  | false ↦ s
]
