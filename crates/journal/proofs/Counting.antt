-- A scan in Colussi's order by code that counts its comparisons up: `ScansByRank`, which counts down what is left of the cap, with the count and
-- the entry of the comparison that comes next. Assumes nothing.
use Prim.Native.Nat.{ℕ, ◌+◌, ◌-◌, ◌*◌, ◌≤◌, ◌<◌}
use mathlib.Core.Path.{◌≡◌, refl, sym, ap}
use mathlib.Core.Bool.{Bool, true, false, cond}
use mathlib.Core.List.{List}
use native.Mathlib.Omega.{arith}
use lib.ListN.{length, get_or, take, set}
use Rattle.words.specs.Tables.{hole}
use Rattle.columns.specs.Ended.{ended_with}
use Rattle.rules.specs.Rules.{Source, Compared, search}
use Rattle.rules.specs.Colussi.{colussi_plan}
use Rattle.rules.specs.Internal.Passing.{Established}
use Rattle.rules.specs.Report.{report_of, Reported}
use Rattle.rules.specs.declared.Ending.{Ending}
use Rattle.rules.specs.declared.Ending.TheVariants.{Done, Spent, Full}
use Rattle.rules.specs.declared.Report.{Report}
use Rattle.rules.proofs.Scans.{Scans, scans_as}
use Rattle.search.specs.Internal.ColussiScan.{LentOrder, LentMoves, edge_after_rank}
use Rattle.search.proofs.LentTables.{place_is, word_length}
use Rattle.search.proofs.ColussiScan.{ScansByRank, by_rank_start, ranges, due, scan_done, scan_spent, scan_matched, scan_missed, scan_full, scan_listed}
use Rattle.journal.proofs.Recording.{EntryIs, next_entry}

pub record Counts (letters : List ℕ) (m d : ℕ) (source : Source) (cap : ℕ) (before after : List ℕ) (b i e c h k : ℕ) : Type 0 where
  pub within : c ≤ cap
  pub by_rank : ScansByRank letters m d source cap before after b i e (cap - c) h k

pub counts_start : (letters : List ℕ) (m d : ℕ) (source : Source) (cap : ℕ) (before : List ℕ)
    → Counts letters m d source cap before before 0 0 0 0 0 0
counts_start letters m d source cap before =
    let none : cap - 0 ≡ cap = omega arith in
    record { within = omega arith; by_rank = rw none (by_rank_start letters m d source cap before) }

module _ (letters order : List ℕ) (m d : ℕ) (T : LentOrder letters order m d) {source : Source} {cap : ℕ} {before after : List ℕ} {b i e c h k : ℕ}
    (F : Counts letters m d source cap before after b i e c h k) where
  is : cap - (cap - c) ≡ c
  is = omega (arith, F.within)

  pub counted : Scans (hole (take m letters)) (colussi_plan (take m letters)) source cap before after b i e c (h + (i - d)) k
  counted = scans_as F.by_rank.scans (sym is) refl

  -- All comparisons of the search.
  abbrev all : List Compared
  all = (search (colussi_plan (take m letters)) source cap (length before)).last.made

  -- Its report is this.
  abbrev pub Ends : Ending → Type 0
  Ends x = Reported (take m letters) (search (colussi_plan (take m letters)) source cap (length before)) before after
      (ended_with x c (c - (h + (i - d))) (h + (i - d)) k)

  -- Then all comparisons are made.
  pub all_made : (x : Ending) → Ends x → length all ≡ c
  unfolding report_of
  all_made x R = sym (ap (λ (r : Report). r.count) R.report)

  pub count_done : source.n < b + m → Ends Done
  count_done l = rw is at (scan_done letters order m d T F.by_rank l)

  module _ (fits : b + m ≤ source.n) where
    -- A comparison is due at rank i, whose place is read off as o.
    module _ (o : ℕ) (rank : i < m) (read : o ≡ get_or order i 0) (beyond : e ≤ b + o) where
      pub count_spent : c ≡ cap → Ends (Spent b)
      count_spent l = rw is at (scan_spent letters order m d T F.by_rank fits o rank read beyond (omega arith))

      module _ (more : c ≡ cap → ⊥) where
        left : cap - c ≡ 0 → ⊥
        left z = more (omega (arith, F.within))

        one_less : cap - c - 1 ≡ cap - (c + 1)
        one_less = omega arith

        -- Entry c tells the position and the answer.
        pub count_entry : (a : Bool) → source.agree b o c ≡ a → EntryIs all c (2 * (b + o) + cond a 1 0)
        count_entry a answer =
            let at_place = place_is letters order m d T i o rank read in
            rw at_place (next_entry (ranges letters order m d T).moving counted (omega (arith, word_length letters order m d T))
            (due letters order m d T F.by_rank fits o rank read beyond) more a (rw at_place at answer))

        pub count_matched : source.agree b o c ≡ true → Counts letters m d source cap before after b (i + 1) e (c + 1) h k
        count_matched answer = record {
          within = omega (arith, F.within);
          by_rank = rw one_less at (scan_matched letters order m d T F.by_rank fits o rank read beyond left (rw is answer));
        }

        -- The window is left by the entries of the tables, with so many holes more.
        pub count_missed : source.agree b o c ≡ false → {shifts nexts : List ℕ} → LentMoves letters shifts nexts m
            → {b' i' e' holes : ℕ} → b' ≡ b + get_or shifts i 0 → i' ≡ get_or nexts i 0 → e' ≡ edge_after_rank m d b i e → holes ≡ i + 1 - d
            → Counts letters m d source cap before after b' i' e' (c + 1) (h + holes) k
        count_missed answer M at_b at_i at-e adds = record {
          within = omega (arith, F.within);
          by_rank = rw one_less at (scan_missed letters order m d T F.by_rank fits o rank read beyond left (rw is answer) M at_b at_i at-e adds);
        }

    -- The pattern occurs.
    module _ (occurs : Established (colussi_plan (take m letters)) b i e) where
      pub count_full : k ≡ length after → Ends (Full b)
      count_full l = rw is at (scan_full letters order m d T F.by_rank fits occurs l)

      pub count_listed : (k ≡ length after → ⊥) → {shifts nexts : List ℕ} → LentMoves letters shifts nexts m
          → {v b' i' holes : ℕ} → v ≡ b → b' ≡ b + get_or shifts m 0 → i' ≡ get_or nexts m 0 → holes ≡ i - d
          → Counts letters m d source cap before (set after k v) b' i' (b + m) c (h + holes) (k + 1)
      count_listed l M stored at_b at_i adds =
          record { within = F.within; by_rank = scan_listed letters order m d T F.by_rank fits occurs l M stored at_b at_i adds }
