-- A table of shifts as it is filled, and what a lent one then holds. Assumes nothing.
use Prim.Native.Nat.{ℕ, suc, ◌+◌, ◌≤◌, ◌<◌}
use mathlib.Core.Path.{◌≡◌, refl}
use mathlib.Core.Bool.{false}
use mathlib.Core.List.{List, ◌++◌}
use native.Mathlib.Numerals.{add-one}
use native.Mathlib.Omega.{arith}
use lib.ListN.{length, get_or, drop}
use borrow.Author.Tests.{le-leb, lt-leb, lt-ltb, le-ltb}
use Rattle.words.specs.Numbers.{tabulate}
use Rattle.words.proofs.Tabulate.{by_entries, begin_at, begin_length}
use Rattle.custom.specs.Order.{Arrangement, arranged}
use Rattle.custom.specs.Custom.{custom_shift}
use Rattle.custom.specs.Table.{named_places, fits, shifts_after}
use Rattle.custom.specs.Internal.{Lent}
use Rattle.custom.proofs.Arrangements.{arranged_is}
use Rattle.custom.proofs.Shifts.{shift_moves}

module _ (w order : List ℕ) where
  -- A shift fits into an entry.
  pub shift_small : Lent w order → (i : ℕ) → custom_shift w order i < 65536
  shift_small L i = omega (arith, L.short, (shift_moves w order i L.some).upto)

  -- The entries that are filled, and those after them.
  pub all_filled : (before entries : List ℕ) → length entries ≡ suc (length w)
      → ((j : ℕ) → j < suc (length w) → get_or entries j 0 ≡ custom_shift w order j)
      → entries ++ drop (length w + 1) before ≡ tabulate (suc (length w)) (custom_shift w order) ++ drop (suc (length w)) before
  all_filled before entries size at = rw (add-one, by_entries (suc (length w)) (custom_shift w order) entries size at) refl

-- ---- A table that is lent

module _ (w order s : List ℕ) where
  unfit : fits w order (length s) ≡ false → s ≡ shifts_after w order s
  unfolding shifts_after
  unfit e = rw (e, shifts_after) refl

  pub no_letter : length w < 1 → s ≡ shifts_after w order s
  unfolding fits
  no_letter l = unfit (rw (lt-leb 1 (length w) l) refl)

  module _ (some : 1 ≤ length w) where
    pub too_many : named_places < length w → s ≡ shifts_after w order s
    unfolding fits
    too_many l = unfit (rw (le-leb 1 (length w) some, lt-leb (length w) named_places l) refl)

    module _ (short : length w ≤ named_places) where
      pub no_room : length s ≤ length w → s ≡ shifts_after w order s
      unfolding fits
      no_room l = unfit (rw (le-leb 1 (length w) some, le-leb (length w) named_places short, le-ltb (length w) (length s) l) refl)

      module _ (room : length w < length s) where
        pub not_arranged : arranged (length w) order ≡ false → s ≡ shifts_after w order s
        unfolding fits
        not_arranged e = unfit (rw (le-leb 1 (length w) some, le-leb (length w) named_places short, lt-ltb (length w) (length s) room, e) refl)

        pub table_fits : Arrangement (length w) order → shifts_after w order s ≡ tabulate (suc (length w)) (custom_shift w order) ++ drop (suc (length w)) s
        unfolding fits shifts_after
        table_fits A = rw (le-leb 1 (length w) some, le-leb (length w) named_places short, lt-ltb (length w) (length s) room, (arranged_is (length w) order).1 A, fits, shifts_after) refl

        -- What a reader finds there.
        module _ (A : Arrangement (length w) order) {t : List ℕ} (after : t ≡ shifts_after w order s) where
          pub shifts_at : (i : ℕ) → i ≤ length w → get_or t i 0 ≡ custom_shift w order i
          shifts_at i l = rw (after, table_fits A) (begin_at (suc (length w)) (custom_shift w order) s i (omega arith))

          pub shifts_length : length t ≡ length s
          shifts_length = rw (after, table_fits A) (begin_length (suc (length w)) (custom_shift w order) s (omega arith))

-- A table does not fit for one of four reasons, or is filled.
pub ruleset table_cases = (no_letter, too_many, no_room, not_arranged, table_fits)
