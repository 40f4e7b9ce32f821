-- What a lent table then holds, and at what cost. Assumes nothing.
use Prim.Native.Nat.{ℕ, suc, ◌≤◌, ◌<◌}
use mathlib.Core.Path.{◌≡◌, refl, sym, ◌∙◌}
use mathlib.Core.Bool.{true, false}
use mathlib.Core.List.{List, ◌++◌}
use native.Mathlib.Omega.{arith}
use lib.ListN.{length, drop}
use lib.Seq.{drop_at}
use borrow.Author.Tests.{le-leb, lt-leb, lt-ltb, le-ltb}
use Rattle.words.specs.Numbers.{tabulate}
use Rattle.words.specs.Tables.{hmax}
use Rattle.words.proofs.Tabulate.{length_tabulate, begins_with, begin_at, begin_length}
use Rattle.hmax.specs.FastMethod.{comparisons, FewCompared}
use Rattle.hmax.specs.Table.{entry_bound, fits, table_after, compared_for, HasHmax}
use Rattle.hmax.specs.Internal.Steps.{Room, Fills}
use Rattle.hmax.proofs.Stores.{KeptFrom}
use Rattle.hmax.proofs.FastRun.{comparisons_few, none_few}

-- What `fill_hmax` ensures: the table that it leaves, its answer, and that this is few.
abbrev pub Ensured : List ℕ → List ℕ → List ℕ → ℕ → Type 0
Ensured w s t r = (t ≡ table_after w s) × ((r ≡ compared_for w (length s)) × FewCompared (length w) r)

module _ (w s : List ℕ) where
  -- ---- Where the table fits

  module _ (room : Room w s) where
    fitting : fits w (length s) ≡ true
    unfolding fits
    fitting =
        rw (le-leb 1 (length w) room.some, lt-ltb (length w) (length s) room.entries, lt-ltb (length w) entry_bound room.small) refl

    after_fitting : table_after w s ≡ tabulate (suc (length w)) (hmax w) ++ drop (suc (length w)) s
    unfolding table_after
    after_fitting = rw (fitting, table_after) refl

    compared_fitting : compared_for w (length s) ≡ comparisons w
    unfolding compared_for
    compared_fitting = rw (fitting, compared_for) refl

    -- A table by its entries and what follows them.
    whole : (t : List ℕ) → length t ≡ length s → HasHmax w t (suc (length w)) → drop (suc (length w)) t ≡ drop (suc (length w)) s → t ≡ table_after w s
    whole t size known rest = begins_with (suc (length w)) (hmax w) s t (omega (arith, room.entries)) known rest ∙ sym after_fitting

    pub filled : {t : List ℕ} {r : ℕ} → length t ≡ length s → Fills w s t r → Ensured w s t r
    filled size F =
        let steps = F.steps in
        (whole _ size F.table.known F.table.rest, (steps ∙ sym compared_fitting, rw steps (comparisons_few w)))

    -- So the entries are hmax,
    pub after_known : {t : List ℕ} → t ≡ table_after w s → HasHmax w t (suc (length w))
    after_known e k l = rw (e, after_fitting) (begin_at (suc (length w)) (hmax w) s k l)

    -- and the others are kept.
    pub after_kept : {t : List ℕ} → t ≡ table_after w s → KeptFrom (suc (length w)) s t
    after_kept e =
        let n = suc (length w) in
        rw (e, after_fitting) record {
          rest = drop_at (tabulate n (hmax w)) (drop n s) n (length_tabulate n (hmax w));
          size = begin_length n (hmax w) s room.entries;
        }

    pub after_compared : {r : ℕ} → r ≡ compared_for w (length s) → r ≡ comparisons w
    after_compared e = e ∙ compared_fitting

  -- ---- Where it does not

  unfit : fits w (length s) ≡ false → Ensured w s s 0
  unfolding table_after compared_for
  unfit e = rw (e, table_after, compared_for) (refl, (refl, none_few (length w)))

  pub no_letter : length w < 1 → Ensured w s s 0
  unfolding fits
  no_letter l = unfit (rw (lt-leb 1 (length w) l) refl)

  pub too_few : 1 ≤ length w → length s ≤ length w → Ensured w s s 0
  unfolding fits
  too_few some l = unfit (rw (le-leb 1 (length w) some, le-ltb (length w) (length s) l) refl)

  pub too_long : 1 ≤ length w → length w < length s → entry_bound ≤ length w → Ensured w s s 0
  unfolding fits
  too_long some h l = unfit (rw (le-leb 1 (length w) some, lt-ltb (length w) (length s) h, le-ltb (length w) entry_bound l) refl)
