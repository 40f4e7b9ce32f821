-- A pass over a journal, in the terms of its code: it counts as it goes, and the entries below the count are those of the replay. Assumes nothing.
use Prim.Native.Nat.{ℕ, ◌+◌, ◌-◌, ◌/◌, ◌%◌, ◌≤◌, ◌<◌}
use mathlib.Core.Path.{◌≡◌, refl, sym, ap, ◌∙◌}
use mathlib.Core.Logic.{⊎_elim}
use mathlib.Core.Bool.{Bool, true, false}
use mathlib.Core.List.{List}
use native.Mathlib.Omega.{arith}
use Rattle.std.specs.Prelude.{◌≢◌, Option, Some, None, MatchOption}
use lib.Dec.{eqb}
use lib.ListN.{length, get_or, take, set}
use borrow.Author.Tests.{eqb-true, eqb-false, eq-eqb, ne_eqb}
use Rattle.words.specs.Numbers.{tabulate}
use Rattle.words.proofs.Cases.{true_or_false}
use Rattle.words.proofs.Tabulate.{length_tabulate}
use Rattle.columns.specs.Ended.{ended_with}
use Rattle.journal.specs.Journal.{journal_of}
use Rattle.journal.specs.Replay.{journal_source, replayed, accepted}
use Rattle.journal.proofs.Entries.{half, known_by}
use Rattle.journal.proofs.Replaying.{accepted_is, accepted_of}
use Rattle.journal.proofs.Recording.{Begins, begins_start, begins_more, read_whole, entries_remain}
use Rattle.journal.proofs.Counting.{Counts, counts_start, Ends, all_made, count_done, count_entry, count_matched, count_missed, count_listed, counted}
use Rattle.rules.specs.Rules.{Compared, search}
use Rattle.rules.specs.Colussi.{colussi_plan}
use Rattle.rules.specs.Internal.Passing.{Established}
use Rattle.rules.specs.Report.{report_of, filled}
use Rattle.rules.specs.declared.Ending.{Ending}
use Rattle.rules.specs.declared.Ending.TheVariants.{Done}
use Rattle.rules.specs.declared.Report.{Report}
use Rattle.search.specs.Internal.ColussiScan.{LentOrder, LentMoves, edge_after_rank}
use Rattle.rules.proofs.Scans.{rank_upto, column_upto}
use Rattle.search.proofs.LentTables.{word_some, word_length, noholes_upto}
use Rattle.replay.specs.Internal.{Accepting, Followed}

-- The replay goes by this state, with a list of the size that it is to have. That is the lent one, if it has this size.
pub record Replays (letters : List ℕ) (m d n size : ℕ) (journal before after : List ℕ) (b i e c h k : ℕ) : Type 0 where
  pub first : List ℕ
  pub list : List ℕ
  pub sized : length first ≡ size
  pub lent : length before ≡ size → (first ≡ before) × (list ≡ after)
  pub counts : Counts letters m d (journal_source n journal) (length journal) first list b i e c h k
  pub begins : Begins (search (colussi_plan (take m letters)) (journal_source n journal) (length journal) (length first)).last.made journal c

pub replays_start : (letters : List ℕ) (m d n size : ℕ) (journal before : List ℕ) → Replays letters m d n size journal before before 0 0 0 0 0 0
replays_start letters m d n size journal before = ⊎_elim
    (λ yes. begin before (eqb-true (length before) size yes) (λ _. refl))
    (λ no. begin (tabulate size (λ _. 0)) (length_tabulate size (λ _. 0)) (λ e. absurd (eqb-false (length before) size no e)))
    (true_or_false (eqb (length before) size))
  where
    begin : (first : List ℕ) → length first ≡ size → (length before ≡ size → first ≡ before) → Replays letters m d n size journal before before 0 0 0 0 0 0
    begin first sized is = record {
      first = first;
      list = first;
      sized = sized;
      lent = λ e. (is e, is e);
      counts = counts_start letters m d _ _ first;
      begins = begins_start _ journal;
    }

-- The same of whatever pattern the tables are. So no letter is asked for.
abbrev pub ReplaysFor : List ℕ → List ℕ → List ℕ → ℕ → ℕ → ℕ → ℕ → List ℕ → List ℕ → List ℕ → ℕ → ℕ → ℕ → ℕ → ℕ → ℕ → Type 0
ReplaysFor order shifts nexts m d n size journal before after b i e c h k = (letters : List ℕ) → LentOrder letters order m d
    → LentMoves letters shifts nexts m → Replays letters m d n size journal before after b i e c h k

module _ (letters order : List ℕ) (m d : ℕ) (T : LentOrder letters order m d) {n size : ℕ} {journal before after : List ℕ} {b i e c h k : ℕ}
    (F : Replays letters m d n size journal before after b i e c h k) where
  abbrev w : List ℕ
  w = take m letters

  list_size : length F.list ≡ size
  list_size = F.counts.by_rank.scans.follows.size ∙ F.sized

  -- The list that the replay is to have is full where k is its size.
  pub full_at : k ≡ size → k ≡ length F.list
  full_at e = e ∙ sym list_size

  -- The rank is a rank, and comparisons at holes are not more than all comparisons.
  pub bounds : (m ≤ 256) × (d ≤ m) × (i ≤ m) × (h + (i - d) ≤ c) × (c ≤ length journal)
  bounds = (
    T.short,
    noholes_upto letters order m d T,
    omega (arith, rank_upto F.counts.by_rank.scans, word_length letters order m d T),
    column_upto (counted letters order m d T F.counts),
    F.counts.within,
  )

  -- The replay, with a list of its size.
  sized_replay : search (colussi_plan w) (journal_source n journal) (length journal) (length F.first) ≡ replayed w n journal size
  unfolding replayed
  sized_replay = ap (λ k. search (colussi_plan w) (journal_source n journal) (length journal) k) F.sized

  abbrev all : List Compared
  all = (search (colussi_plan w) (journal_source n journal) (length journal) (length F.first)).last.made

  same_made : journal_of all ≡ journal_of (replayed w n journal size).last.made
  same_made = ap (λ s. journal_of s.last.made) sized_replay

  accepts : journal_of all ≡ journal → accepted w n journal size ≡ true
  accepts is = accepted_of w (word_some letters order m d T) n journal size (sym same_made ∙ is)

  refuses : (journal_of all ≡ journal → ⊥) → accepted w n journal size ≡ false
  refuses not = ⊎_elim
      (λ yes. absurd (not (same_made ∙ accepted_is w (word_some letters order m d T) n journal size yes)))
      (λ no. no)
      (true_or_false (accepted w n journal size))

  -- ---- The pass ends here

  module _ (x : Ending) (R : Ends letters order m d T F.counts x) where
    made : length all ≡ c
    made = all_made letters order m d T F.counts x R

    pub whole_read : c ≡ length journal → Accepting w n size journal before after (ended_with x c (c - (h + (i - d))) (h + (i - d)) k)
    whole_read whole = record {
      accepts = accepts (read_whole F.begins made whole);
      reported = R.report ∙ ap (report_of w) sized_replay;
      list = λ e.
          let L = F.lent e in
          sym L.1 ∙ R.list ∙ ap (λ s. filled s F.first) sized_replay ∙ ap (filled (replayed w n journal size)) L.0;
    }

    some_remain : (c ≡ length journal → ⊥) → accepted w n journal size ≡ false
    some_remain not = refuses (entries_remain F.begins made (omega (arith, F.counts.within)))

    -- The report is told, unless entries remain.
    pub replays_end : (answer : Option Report)
        → MatchOption answer (c ≢ length journal) (λ r. (c ≡ length journal) × (r ≡ ended_with x c (c - (h + (i - d))) (h + (i - d)) k))
        → Followed w n size journal before after answer
    replays_end None remain = some_remain remain
    replays_end (Some r) read = rw read.1 (whole_read read.0)

  module _ (fits : b + m ≤ n) where
    -- A comparison is due at rank i, whose place is read off as o, and the journal has an entry for it.
    module _ (o : ℕ) (rank : i < m) (read : o ≡ get_or order i 0) (beyond : e ≤ b + o) (room : c < length journal) where
      more : c ≡ length journal → ⊥
      more z = omega arith

      -- An entry of another place is not the replay's.
      pub another_place : (get_or journal c 0 / 2 ≡ b + o → ⊥) → accepted w n journal size ≡ false
      another_place other = refuses λ is.
          let E = count_entry letters order m d T F.counts fits o rank read beyond more (eqb (get_or journal c 0 % 2) 1) refl in
          other (ap (λ v. v / 2) (sym (ap (λ l. get_or l c 0) is) ∙ E.is) ∙ half (b + o) (eqb (get_or journal c 0 % 2) 1))

      module _ (place : get_or journal c 0 / 2 ≡ b + o) where
        -- The next entry is read.
        reads : (a : Bool) → eqb (get_or journal c 0 % 2) 1 ≡ a → Begins all journal (c + 1)
        reads a answer = begins_more (count_entry letters order m d T F.counts fits o rank read beyond more a answer) F.begins room
            (known_by (get_or journal c 0) (b + o) a place answer)

        pub replays_matched : get_or journal c 0 % 2 ≡ 1 → Replays letters m d n size journal before after b (i + 1) e (c + 1) h k
        replays_matched q = record {
          first = F.first;
          list = F.list;
          sized = F.sized;
          lent = F.lent;
          counts = count_matched letters order m d T F.counts fits o rank read beyond more (eq-eqb _ _ q);
          begins = reads true (eq-eqb _ _ q);
        }

        pub replays_missed : (get_or journal c 0 % 2 ≡ 1 → ⊥) → {shifts nexts : List ℕ} → LentMoves letters shifts nexts m
            → {b' i' e' h' : ℕ} → b' ≡ b + get_or shifts i 0 → i' ≡ get_or nexts i 0 → e' ≡ edge_after_rank m d b i e → h' ≡ h + (i + 1 - d)
            → Replays letters m d n size journal before after b' i' e' (c + 1) h' k
        replays_missed q M at_b at_i at-e adds = record {
          first = F.first;
          list = F.list;
          sized = F.sized;
          lent = F.lent;
          counts = rw adds (count_missed letters order m d T F.counts fits o rank read beyond more (ne_eqb _ _ q) M at_b at_i at-e refl);
          begins = reads false (ne_eqb _ _ q);
        }

    pub replays_listed : Established (colussi_plan w) b i e → (k ≡ size → ⊥) → {shifts nexts : List ℕ} → LentMoves letters shifts nexts m
        → {v b' i' : ℕ} → v ≡ b → b' ≡ b + get_or shifts m 0 → i' ≡ get_or nexts m 0
        → Replays letters m d n size journal before (set after k v) b' i' (b + m) c (h + (i - d)) (k + 1)
    replays_listed occurs l M {v} stored at_b at_i = record {
      first = F.first;
      list = set F.list k v;
      sized = F.sized;
      lent = λ e. ((F.lent e).0, ap (λ x. set x k v) (F.lent e).1);
      counts = count_listed letters order m d T F.counts fits occurs (λ z. l (z ∙ list_size)) M stored at_b at_i refl;
      begins = F.begins;
    }

-- A text without a window: the pass is done before it begins, and accepts the journal without an entry.
pub at_once : (letters order : List ℕ) (m d : ℕ) → LentOrder letters order m d → (n size : ℕ) (journal before : List ℕ) → n < m
    → (answer : Option Report)
    → MatchOption answer (0 ≢ length journal) (λ r. (0 ≡ length journal) × (r ≡ ended_with Done 0 0 0 0))
    → Followed (take m letters) n size journal before before answer
at_once letters order m d T n size journal before l answer read =
    let F = replays_start letters m d n size journal before in
    let none : 0 + (0 - d) ≡ 0 = omega arith in
    replays_end letters order m d T F Done (count_done letters order m d T F.counts (omega arith)) answer (rw none read)
