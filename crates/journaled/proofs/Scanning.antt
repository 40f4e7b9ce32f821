-- The scan that writes a journal, in the terms of its code: it counts as it goes, and the entries below the count are written. Assumes nothing.
use Prim.Native.Nat.{ℕ, ◌+◌, ◌-◌, ◌*◌, ◌≤◌, ◌<◌}
use mathlib.Core.Path.{◌≡◌, refl, ap, ◌∙◌}
use mathlib.Core.Bool.{Bool, true, false}
use mathlib.Core.List.{List}
use native.Mathlib.Omega.{arith}
use lib.Dec.{eqb}
use lib.ListN.{length, get_or, take, set}
use lib.Seq.{get_or-take}
use Rattle.words.specs.Tables.{letter}
use Rattle.columns.specs.Ended.{ended_with}
use Rattle.journal.specs.Journal.{written}
use Rattle.journal.proofs.Recording.{Records, records_start, records_more, records_all}
use Rattle.journal.proofs.Counting.{Counts, counts_start, Ends, all_made, count_entry, count_matched, count_missed, count_listed, counted}
use Rattle.rules.specs.Rules.{text_source, search}
use Rattle.rules.specs.Colussi.{colussi_plan, colussi}
use Rattle.rules.specs.Internal.Passing.{Established}
use Rattle.rules.specs.Report.{Reported}
use Rattle.rules.specs.declared.Ending.{Ending}
use Rattle.search.specs.Internal.ColussiScan.{LentOrder, LentMoves, edge_after_rank}
use Rattle.rules.proofs.Scans.{rank_upto, column_upto}
use Rattle.search.proofs.LentTables.{in_window, word_length, noholes_upto}
use Rattle.search.proofs.ColussiScan.{reports_colussi}

pub record Journals (letters : List ℕ) (m d : ℕ) (text : List ℕ) (cap : ℕ) (before after lent journal : List ℕ) (b i e c h k : ℕ) : Type 0 where
  pub counts : Counts letters m d (text_source (take m letters) text) cap before after b i e c h k
  pub records : Records (search (colussi_plan (take m letters)) (text_source (take m letters) text) cap (length before)).last.made lent journal c

pub journals_start : (letters : List ℕ) (m d : ℕ) (text : List ℕ) (cap : ℕ) (before lent : List ℕ)
    → Journals letters m d text cap before before lent lent 0 0 0 0 0 0
journals_start letters m d text cap before lent = record { counts = counts_start letters m d _ cap before; records = records_start _ lent }

module _ (letters order : List ℕ) (m d : ℕ) (T : LentOrder letters order m d) {text : List ℕ} {cap : ℕ} {before after lent journal : List ℕ}
    {b i e c h k : ℕ} (F : Journals letters m d text cap before after lent journal b i e c h k) where
  -- The rank is a rank, and comparisons at holes are not more than all comparisons.
  pub bounds : (m ≤ 256) × (d ≤ m) × (m ≤ length letters) × (i ≤ m) × (h + (i - d) ≤ c) × (c ≤ cap) × (length journal ≡ length lent)
  bounds = (
    T.short,
    noholes_upto letters order m d T,
    T.length_letters,
    omega (arith, rank_upto F.counts.by_rank.scans, word_length letters order m d T),
    column_upto (counted letters order m d T F.counts),
    F.counts.within,
    F.records.size,
  )

  -- The search ends here: its report, and its journal.
  pub journals_end : (x : Ending) → Ends letters order m d T F.counts x
      → Reported (take m letters) (colussi (take m letters) text cap (length before)) before after (ended_with x c (c - (h + (i - d))) (h + (i - d)) k)
      × (journal ≡ written (colussi (take m letters) text cap (length before)).last.made lent)
  unfolding colussi
  journals_end x R = (reports_colussi (take m letters) text cap R, records_all F.records (all_made letters order m d T F.counts x R))

  module _ (fits : b + m ≤ length text) where
    -- A comparison is made at rank i, whose place is read off as o, and its entry is stored as v.
    module _ (o : ℕ) (rank : i < m) (read : o ≡ get_or order i 0) (beyond : e ≤ b + o) (more : c ≡ cap → ⊥) (room : c < length journal) where
      answers : (a : Bool) → eqb (get_or letters o 0) (letter text (b + o)) ≡ a → eqb (letter (take m letters) o) (letter text (b + o)) ≡ a
      answers a q = ap (λ x. eqb x (letter text (b + o))) (get_or-take m letters o 0 (in_window letters order m d T i o rank read)) ∙ q

      pub journals_matched : eqb (get_or letters o 0) (letter text (b + o)) ≡ true → {v : ℕ} → v ≡ 2 * (b + o) + 1
          → Journals letters m d text cap before after lent (set journal c v) b (i + 1) e (c + 1) h k
      journals_matched q stored = record {
        counts = count_matched letters order m d T F.counts fits o rank read beyond more (answers true q);
        records = rw stored
            (records_more F.records (count_entry letters order m d T F.counts fits o rank read beyond more true (answers true q)) room);
      }

      pub journals_missed : eqb (get_or letters o 0) (letter text (b + o)) ≡ false → {v : ℕ} → v ≡ 2 * (b + o)
          → {shifts nexts : List ℕ} → LentMoves letters shifts nexts m
          → {b' i' e' h' : ℕ} → b' ≡ b + get_or shifts i 0 → i' ≡ get_or nexts i 0 → e' ≡ edge_after_rank m d b i e → h' ≡ h + (i + 1 - d)
          → Journals letters m d text cap before after lent (set journal c v) b' i' e' (c + 1) h' k
      journals_missed q {v} stored M at_b at_i at-e adds =
          let even : v ≡ 2 * (b + o) + 0 = omega arith in
          record {
            counts = rw adds (count_missed letters order m d T F.counts fits o rank read beyond more (answers false q) M at_b at_i at-e refl);
            records = rw even
                (records_more F.records (count_entry letters order m d T F.counts fits o rank read beyond more false (answers false q)) room);
          }

    pub journals_listed : Established (colussi_plan (take m letters)) b i e → (k ≡ length after → ⊥)
        → {shifts nexts : List ℕ} → LentMoves letters shifts nexts m
        → {v b' i' : ℕ} → v ≡ b → b' ≡ b + get_or shifts m 0 → i' ≡ get_or nexts m 0
        → Journals letters m d text cap before (set after k v) lent journal b' i' (b + m) c (h + (i - d)) (k + 1)
    journals_listed occurs l M stored at_b at_i =
        record { counts = count_listed letters order m d T F.counts fits occurs l M stored at_b at_i refl; records = F.records }
