-- Calls made one after the other, each with what the ones before left.
use Rattle.std.specs.Prelude.{ℕ, ◌+◌, List, [], ◌∷◌, ◌++◌, take, drop}

-- What a call leaves: its rows, how many positions it wrote, the list that was lent to it, and the scratch.
pub record Left : Type 0 where
  pub rows : List ℕ
  pub written : ℕ
  pub list : List ℕ
  pub scratch : List ℕ

-- A call with a pattern's bytes, a list and a scratch.
abbrev pub Call : Type 0
Call = List ℕ → List ℕ → List ℕ → Left

-- Both of two: the rows follow each other, and the second was lent the part of the list that the first left free.
unfoldable pub then : Left → Left → Left
then one rest = record {
  rows = one.rows ++ rest.rows;
  written = one.written + rest.written;
  list = take one.written one.list ++ rest.list;
  scratch = rest.scratch;
}

-- One call for each pattern. The next is lent what is left free of the list, and the scratch as it was left.
unfoldable pub in_turn : Call → List (List ℕ) → List ℕ → List ℕ → Left
unfolding then
in_turn call [] list scratch = record { rows = []; written = 0; list = list; scratch = scratch }
in_turn call (w ∷ ws) list scratch =
    let one : Left = call w list scratch in then one (in_turn call ws (drop one.written one.list) one.scratch)
