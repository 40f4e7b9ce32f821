-- The record that is looked for: what is answered, and where it lies. Assumes nothing.
use Prim.Native.Nat.{ℕ, ◌+◌, ◌-◌, ◌≤◌, ◌<◌}
use mathlib.Core.Path.{◌≡◌, refl, sym}
use mathlib.Core.Logic.{⊎_elim}
use mathlib.Core.List.{List}
use native.Mathlib.Omega.{arith}
use lib.ListN.{length, drop, length-drop}
use lib.Seq.{length-take-le}
use borrow.Author.Tests.{lt-ltb, le-ltb}
use Rattle.std.specs.Prelude.{Option, Some, None, IfSome, Result, Ok, Err, IfOk}
use Rattle.refusal.specs.declared.Refusal.{Refusal}
use Rattle.words.proofs.Cases.{less_or}
use Rattle.directory.specs.Archive.{directory_start, start_of, length_of, end_of, directory_of, bounds_of, record_of, bounds_by}
use Rattle.directory.specs.Promise.{Lies}
use Rattle.directory.specs.declared.Bounds.{Bounds}
use Rattle.directory.specs.declared.Directory.{Directory}
use Rattle.directory.proofs.Touching.{ends_by}
use Rattle.directory.proofs.Reading.{read_is}

module _ (a : List ℕ) (r : ℕ) where
  -- ---- What is answered

  pub refused : {why : Refusal} → directory_of a ≡ Err why → bounds_by a r ≡ Err why
  unfolding bounds_by
  refused e = rw (e, bounds_by) refl

  module _ {d : Directory} (e : directory_of a ≡ Ok d) where
    pub none : d.records ≤ r → bounds_by a r ≡ Ok None
    unfolding bounds_by
    none l = rw (e, le-ltb r d.records l, bounds_by) refl

    pub found : r < d.records → bounds_by a r ≡ Ok (Some (bounds_of a r))
    unfolding bounds_by
    found l = rw (e, lt-ltb r d.records l, bounds_by) refl

    -- ---- Where it lies

    -- Its end is not past the directory.
    within : r < d.records → end_of a (directory_start a) r ≤ directory_start a
    unfolding directory_start
    within l =
        let A = read_is a d e in
        rw (← A.start) (omega (arith, ends_by a d.start d.records r A.touching l, A.last))

    lies : r < d.records → Lies a r (bounds_of a r)
    unfolding bounds_of record_of end_of
    lies l =
        let A = read_is a d e in
        let start = start_of a (directory_start a) r in
        let len = length_of a (directory_start a) r in
        let upto : start + len ≤ length a = unfold end_of directory_start in omega (arith, within l, A.start, A.exactly) in
        let size : start + len - start ≡ len = omega arith in
        record {
          from = omega arith;
          upto = upto;
          bytes = rw size refl;
          fits = omega (arith, length-take-le len (drop start a) (omega (arith, length-drop start a, upto)), upto, A.fits);
        }

  -- What `find_record` answers lies as it promises.
  pub where_it_lies : {b : Result (Option Bounds) Refusal} → b ≡ bounds_by a r → IfOk b (λ o. IfSome o (Lies a r))
  where_it_lies e = rw e (at (directory_of a) refl)
    where
      at : (o : Result Directory Refusal) → directory_of a ≡ o → IfOk (bounds_by a r) (λ o. IfSome o (Lies a r))
      at (Ok d) h = ⊎_elim
          (λ (l : r < d.records). rw (found h l) (lies h l))
          (λ (l : d.records ≤ r). rw (none h l) tt)
          (less_or r d.records)
      at (Err why) h = rw (refused h) tt

  -- The bounds that are found.
  pub lies_at : {b : Bounds} → bounds_by a r ≡ Ok (Some b) → Lies a r b
  lies_at e = where_it_lies (sym e)

-- What is answered where no record is found.
pub ruleset missing = (refused, none)
