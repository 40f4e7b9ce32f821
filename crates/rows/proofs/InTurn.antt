-- Calls made in turn, one more at a time. Assumes nothing.
use Prim.Native.Nat.{ℕ, ◌+◌, ◌*◌, ◌≤◌}
use mathlib.Core.Path.{◌≡◌, refl, sym, ap, ◌∙◌}
use mathlib.Core.List.{List, [], ◌∷◌, ◌++◌, append_assoc, append-nil}
use native.Mathlib.Nat.{add-zero, zero-add, add_assoc, mul-zero, mul-suc}
use native.Mathlib.Omega.{arith}
use lib.ListN.{length, take, drop, length-append, length-drop, take-append-drop}
use lib.Seq.{length-take-le, take-append-add, drop-append-add}
use Rattle.rows.specs.InTurn.{Left, Call, then, in_turn}

-- ---- Calls

-- Every call leaves so many numbers of rows, and a list and a scratch as long as those that were lent.
pub record Lawful (call : Call) (size : ℕ) : Type 0 where
  pub rows_size : (w l s : List ℕ) → length (call w l s).rows ≡ size
  pub list_size : (w l s : List ℕ) → length (call w l s).list ≡ length l
  pub scratch_size : (w l s : List ℕ) → length (call w l s).scratch ≡ length s
  pub written_upto : (w l s : List ℕ) → (call w l s).written ≤ length l

-- Two calls that leave the same leave the same in turn.
pub same_in_turn : {call other : Call} → ((w l s : List ℕ) → call w l s ≡ other w l s) → (ws : List (List ℕ)) (l s : List ℕ)
    → in_turn call ws l s ≡ in_turn other ws l s
unfolding in_turn
same_in_turn same [] l s = refl
same_in_turn {call} {other} same (w ∷ ws) l s =
    rw (same w l s) (ap (then (other w l s)) (same_in_turn same ws (drop (other w l s).written (other w l s).list) (other w l s).scratch))

-- The rows of calls in turn.
pub length_rows : {call : Call} {size : ℕ} → Lawful call size → (ws : List (List ℕ)) (l s : List ℕ)
    → length (in_turn call ws l s).rows ≡ size * length ws
unfolding in_turn then
length_rows {size = size} L [] l s = sym (mul-zero size)
length_rows {call} {size} L (w ∷ ws) l s =
    let one : Left = call w l s in
    length-append one.rows _
    ∙ omega (arith, L.rows_size w l s, length_rows L ws (drop one.written one.list) one.scratch, mul-suc size (length ws))

-- ---- What several calls left, and one more

-- The free part of the list.
abbrev pub free : Left → List ℕ
free d = drop d.written d.list

module _ (d one : Left) (inside : d.written ≤ length d.list) where
  front : length (take d.written d.list) ≡ d.written
  front = length-take-le d.written d.list inside

  then_free : free (then d one) ≡ free one
  unfolding then
  then_free = rw front at (drop-append-add (take d.written d.list) one.list one.written)

  then_again : (rest : Left) → then (then d one) rest ≡ then d (then one rest)
  unfolding then
  then_again rest =
      let taken : take (d.written + one.written) (take d.written d.list ++ one.list) ≡ take d.written d.list ++ take one.written one.list =
      rw front at (take-append-add (take d.written d.list) one.list one.written) in
      rw (taken, append_assoc d.rows, append_assoc (take d.written d.list), add_assoc) refl

-- The calls for the first patterns left d: with those for the patterns that remain, they are all.
pub record Went (call : Call) (all : List (List ℕ)) (list₀ scratch₀ : List ℕ) (remain : List (List ℕ)) (d : Left) : Type 0 where
  pub used_upto : d.written ≤ length d.list
  pub list_size : length d.list ≡ length list₀
  pub scratch_size : length d.scratch ≡ length scratch₀
  pub with_rest : then d (in_turn call remain (free d) d.scratch) ≡ in_turn call all list₀ scratch₀

-- None is made yet.
abbrev pub none : List ℕ → List ℕ → Left
none list scratch = record { rows = []; written = 0; list = list; scratch = scratch }

pub went_none : {call : Call} (all : List (List ℕ)) (list scratch : List ℕ) → Went call all list scratch all (none list scratch)
unfolding then
went_none {call} all list scratch = record {
  used_upto = omega arith;
  list_size = refl;
  scratch_size = refl;
  with_rest = rw (zero-add (in_turn call all list scratch).written) refl;
}

-- One more.
module _ {call : Call} {size : ℕ} (lawful : Lawful call size) {all : List (List ℕ)} {list₀ scratch₀ : List ℕ} {w : List ℕ} {ws : List (List ℕ)} {d : Left}
    (G : Went call all list₀ scratch₀ (w ∷ ws) d) where
  abbrev one : Left
  one = call w (free d) d.scratch

  pub written_inside : d.written + one.written ≤ length d.list
  written_inside = omega (arith, lawful.written_upto w (free d) d.scratch, length-drop d.written d.list, G.used_upto)

  size_now : length (take d.written d.list ++ one.list) ≡ length d.list
  size_now =
      length-append (take d.written d.list) one.list
      ∙ omega (
        arith,
        length-take-le d.written d.list G.used_upto,
        lawful.list_size w (free d) d.scratch,
        length-drop d.written d.list,
        G.used_upto,
      )

  turn : in_turn call (w ∷ ws) (free d) d.scratch ≡ then one (in_turn call ws (free one) one.scratch)
  unfolding in_turn
  turn = refl

  pub went_one : Went call all list₀ scratch₀ ws (then d one)
  unfolding then
  went_one = record {
    used_upto = omega (arith, size_now, written_inside);
    list_size = size_now ∙ G.list_size;
    scratch_size = lawful.scratch_size w (free d) d.scratch ∙ G.scratch_size;
    with_rest =
        rw (then_free d one G.used_upto) (then_again d one G.used_upto (in_turn call ws (free one) one.scratch) ∙ ap (then d) (sym turn) ∙ G.with_rest);
  }

-- None remains.
pub went_all : {call : Call} {all : List (List ℕ)} {list₀ scratch₀ : List ℕ} {d : Left} → Went call all list₀ scratch₀ [] d
    → d ≡ in_turn call all list₀ scratch₀
unfolding in_turn then
went_all {d = d} G = sym (rw (append-nil, add-zero, take-append-drop) refl) ∙ G.with_rest
