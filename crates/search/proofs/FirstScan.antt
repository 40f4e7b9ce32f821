-- The scan up to the first occurrence, in the terms of its code: that of the whole text, without a list and never spent. Assumes nothing.
use Prim.Native.Nat.{ℕ, ◌+◌, ◌-◌, ◌≤◌, ◌<◌}
use mathlib.Core.Path.{◌≡◌, sym, ap, ◌∙◌}
use mathlib.Core.List.{List, []}
use native.Mathlib.Omega.{arith}
use lib.ListN.{length, get_or, take}
use Rattle.columns.specs.Ended.{ended_with}
use Rattle.rules.specs.Rules.{text_source, no_cap, search}
use Rattle.rules.specs.Colussi.{colussi_plan, colussi}
use Rattle.rules.specs.Stopped.{stopped}
use Rattle.rules.specs.Internal.Passing.{Established}
use Rattle.rules.specs.Report.{report_of, Reported}
use Rattle.rules.specs.declared.Ending.{Ending}
use Rattle.rules.specs.declared.Ending.TheVariants.{Done, Full}
use Rattle.rules.specs.declared.Report.{Report}
use Rattle.rules.proofs.Uncapped.{never_spent, uncapped}
use Rattle.search.specs.Stop.{stop_of}
use Rattle.search.specs.Internal.RankZero.{Ahead}
use Rattle.search.specs.Internal.ColussiScan.{LentOrder, LentMoves, edge_after_rank}
use Rattle.search.specs.declared.Stop.{Stop}
use Rattle.search.proofs.LentTables.{word_some, in_window}
use Rattle.search.proofs.ColussiScan.{ScansByRank, by_rank_start, done_at_once, reports_colussi, text_agrees, text_differs, scan_done, scan_ahead, scan_spent, scan_matched, scan_missed, scan_full}

-- The scan stands at rank i of window b, with so much left of the largest cap. How many holes were compared is not asked.
pub record ScansUpTo (letters : List ℕ) (m d : ℕ) (text : List ℕ) (b i e left : ℕ) : Type 0 where
  pub holes : ℕ
  pub by_rank : ScansByRank letters m d (text_source (take m letters) text) no_cap [] [] b i e left holes 0

pub upto_start : (letters : List ℕ) (m d : ℕ) (text : List ℕ) → ScansUpTo letters m d text 0 0 0 no_cap
upto_start letters m d text = record { holes = 0; by_rank = by_rank_start letters m d (text_source (take m letters) text) no_cap [] }

stop_in : Report → Stop
stop_in r = record { ending = r.ending; count = r.count }

module _ (letters order : List ℕ) (m d : ℕ) (T : LentOrder letters order m d) (text : List ℕ) (short : length text < 4294967296) where
  -- The search comes to a stop, at its end or in some window, with a count.
  abbrev Stops : Ending → ℕ → Type 0
  Stops x count = ◌≡◌ {A = Stop} record { ending = x; count = count } (stop_of (stopped (take m letters) text))

  stops : {x : Ending} {count u v : ℕ}
      → Reported (take m letters) (search (colussi_plan (take m letters)) (text_source (take m letters) text) no_cap 0) [] [] (ended_with x count u v 0)
      → Stops x count
  unfolding report_of stop_of stop_in colussi
  stops R = ap stop_in R.report ∙ ap stop_of (uncapped (take m letters) text (word_some letters order m d T) no_cap (omega arith))

  pub stops_at_once : length text < m → Stops Done 0
  stops_at_once l = stops (done_at_once letters order m d T (text_source (take m letters) text) no_cap [] l)

  module _ {b i e left : ℕ} (F : ScansUpTo letters m d text b i e left) where
    pub stops_done : length text < b + m → Stops Done (no_cap - left)
    stops_done l = stops (scan_done letters order m d T F.by_rank l)

    pub upto_ahead : {x o last b' i' left' : ℕ} → Ahead text x o last b left b' i' left' → last + m ≡ length text
        → i ≡ 0 → 0 < d → o ≡ get_or order 0 0 → x ≡ get_or letters o 0 → ScansUpTo letters m d text b' i' e left'
    upto_ahead A ends first any read is = record { holes = F.holes; by_rank = scan_ahead letters order m d T text F.by_rank A ends first any read is }

    module _ (fits : b + m ≤ length text) where
      pub stops_full : Established (colussi_plan (take m letters)) b i e → Stops (Full b) (no_cap - left)
      stops_full occurs = stops (scan_full letters order m d T F.by_rank fits occurs (omega arith))

      -- A comparison is due at rank i, whose place is read off as o.
      module _ (o : ℕ) (rank : i < m) (read : o ≡ get_or order i 0) (beyond : e ≤ b + o) where
        -- So something is left of the cap.
        pub unspent : left ≡ 0 → ⊥
        unfolding report_of
        unspent z = never_spent (take m letters) text (word_some letters order m d T) no_cap 0 (omega arith) b
            (ap (λ (r : Report). r.ending)
            (sym (reports_colussi (take m letters) text no_cap (scan_spent letters order m d T F.by_rank fits o rank read beyond z)).report))

        place : o < m
        place = in_window letters order m d T i o rank read

        pub upto_matched : get_or letters o 0 ≡ get_or text (b + o) 0 → ScansUpTo letters m d text b (i + 1) e (left - 1)
        upto_matched q = record {
          holes = F.holes;
          by_rank = scan_matched letters order m d T F.by_rank fits o rank read beyond unspent (text_agrees letters order m d T text b o place q);
        }

        pub upto_missed : (get_or letters o 0 ≡ get_or text (b + o) 0 → ⊥) → {shifts nexts : List ℕ} → LentMoves letters shifts nexts m
            → {b' i' e' more : ℕ} → b' ≡ b + get_or shifts i 0 → i' ≡ get_or nexts i 0 → e' ≡ edge_after_rank m d b i e → more ≡ i + 1 - d
            → ScansUpTo letters m d text b' i' e' (left - 1)
        upto_missed q M {more = more} at_b at_i at-e adds = record {
          holes = F.holes + more;
          by_rank = scan_missed letters order m d T F.by_rank fits o rank read beyond unspent (text_differs letters order m d T text b o place q)
              M at_b at_i at-e adds;
        }
