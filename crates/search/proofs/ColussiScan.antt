-- A scan in Colussi's order, in the terms of its code, whoever answers the comparisons. Assumes nothing.
use Prim.Native.Nat.{ℕ, suc, ◌+◌, ◌-◌, ◌≤◌, ◌<◌}
use mathlib.Core.Path.{◌≡◌, refl, sym, ap, ◌∙◌}
use mathlib.Core.Logic.{inl, inr, ⊎_elim}
use mathlib.Core.Bool.{Bool, true, false, cond, true≢false}
use mathlib.Core.List.{List}
use native.Mathlib.Omega.{arith}
use native.Mathlib.Numerals.{add-one}
use lib.Dec.{eqb, leb}
use lib.ListN.{length, get_or, take, set}
use lib.Seq.{get_or-take}
use Rattle.words.specs.Tables.{letter, hole, noholes, place, shift, next}
use borrow.Author.Tests.{eq-eqb, ne_eqb, lt-ltb, le-ltb, leb-true, leb-false}
use Rattle.words.proofs.Cases.{less_or}
use Rattle.words.proofs.Noholes.{hole_false, hole_true}
use Rattle.words.proofs.Ranks.{nohole_rank, place_ascends, hole_rank}
use Rattle.words.proofs.Shifts.{shift_moves, noholes_le, next_early, next_past_miss, next_past_window, shift_first, next_first}
use Rattle.columns.specs.Ended.{ended_with}
use Rattle.rules.specs.Rules.{Source, text_source, edge_after, search}
use Rattle.rules.specs.Colussi.{colussi_plan, colussi}
use Rattle.rules.specs.Internal.Passing.{Established, Due}
use Rattle.rules.specs.Report.{Reported}
use Rattle.rules.specs.declared.Ending.{Ending}
use Rattle.rules.specs.declared.Ending.TheVariants.{Done, Spent, Full}
use Rattle.rules.specs.declared.Report.{Report}
use Rattle.rules.proofs.Columns.{Split, by_holes}
use Rattle.rules.proofs.Rules.{edge_kept, edge_moved}
use Rattle.rules.proofs.Following.{Ranges}
use Rattle.rules.proofs.ColussiRanges.{colussi_ranges}
use Rattle.search.specs.Internal.RankZero.{Ahead}
use Rattle.search.specs.Internal.ColussiScan.{LentOrder, LentMoves, DueAt, edge_after_rank}
use Rattle.search.proofs.LentTables.{word_length, word_some, noholes_upto, place_is, in_window}
use Rattle.rules.proofs.Scans.{Scans, column_upto, scans_start, scans_as, scans_done, scans_spent, scans_matched, scans_missed, scans_full, scans_listed}
use Rattle.search.proofs.RankZero.{ByOne, scans_ahead}

plan_edge : (w : List ℕ) → (colussi_plan w).edge_from ≡ noholes w
plan_edge w = refl

-- What the test for a comparison tells: past the last rank none is due, and else the place that is read off as o decides.
pub none_at_end : {order : List ℕ} {m b i e : ℕ} → i ≡ m → DueAt order m b i e false
none_at_end l = record { yes = λ z. absurd (true≢false (sym z)); no = λ _. inl (omega arith) }

pub due_by_place : {order : List ℕ} {m b i e o : ℕ} → i < m → o ≡ get_or order i 0 → DueAt order m b i e (leb e (b + o))
due_by_place {b = b} {e = e} {o = o} rank read = record {
  yes = λ z. (rank, omega (arith, leb-true e (b + o) z));
  no = λ z. inr (rank, omega (arith, leb-false e (b + o) z));
}

-- By the answers of a text it is the search in Colussi's order.
pub reports_colussi : (w t : List ℕ) (cap : ℕ) {before after : List ℕ} {r : Report}
    → Reported w (search (colussi_plan w) (text_source w t) cap (length before)) before after r
    → Reported w (colussi w t cap (length before)) before after r
unfolding colussi
reports_colussi w t cap R = R

-- The scan for the first m letters, d of whose ranks are noholes', stands at rank i of window b, with so much left of the cap, and with h
-- comparisons at holes in the windows that it left. No nohole that is reached lies left of the known edge.
pub record ScansByRank (letters : List ℕ) (m d : ℕ) (source : Source) (cap : ℕ) (before after : List ℕ) (b i e left h k : ℕ) : Type 0 where
  pub within : left ≤ cap
  pub scans : Scans (hole (take m letters)) (colussi_plan (take m letters)) source cap before after b i e (cap - left) (h + (i - d)) k
  pub noholes_due : i < d → e ≤ b + place (take m letters) i

pub by_rank_start : (letters : List ℕ) (m d : ℕ) (source : Source) (cap : ℕ) (before : List ℕ)
    → ScansByRank letters m d source cap before before 0 0 0 cap 0 0
by_rank_start letters m d source cap before = record {
  within = omega arith;
  scans = scans_as (scans_start _ _ _ cap before) (omega arith) (omega arith);
  noholes_due = λ l. omega arith;
}

-- Neither what is left nor the comparisons at holes are more than the cap.
pub within_cap : {letters : List ℕ} {m d : ℕ} {source : Source} {cap : ℕ} {before after : List ℕ} {b i e left h k : ℕ}
    → ScansByRank letters m d source cap before after b i e left h k → (left ≤ cap) × (h + (i - d) ≤ cap)
within_cap F = (F.within, omega (arith, column_upto F.scans))

module _ (letters order : List ℕ) (m d : ℕ) (T : LentOrder letters order m d) where
  word : length (take m letters) ≡ m
  word = word_length letters order m d T

  -- A comparison that is due, whose place is read off as o: its rank is one, its place is not left of the known edge, and lies in the window.
  pub due_place : {b i e o : ℕ} {r : Bool} → DueAt order m b i e r → r ≡ true → o ≡ get_or order i 0 → (i < m) × (e ≤ b + o) × (o < m)
  due_place {b} {i} {e} {o} D is read =
      let told = D.yes is in
      (told.0, omega (arith, told.1), in_window letters order m d T i o told.0 read)

  pub ranges : Ranges (colussi_plan (take m letters))
  ranges = colussi_ranges (take m letters) (word_some letters order m d T)

  -- Every shift moves the window on.
  pub shift_on : (shifts nexts : List ℕ) → LentMoves letters shifts nexts m → (i : ℕ) → i ≤ m → 1 ≤ get_or shifts i 0
  shift_on shifts nexts M i l = omega (arith, M.shift_at i l, (shift_moves (take m letters) i (word_some letters order m d T) (omega (arith, word))).on)

  -- ---- The column of the holes

  -- One comparison more, at rank i: the ranks from d on are holes'.
  one_more : (i h : ℕ) → i < m → h + (i + 1 - d) ≡ cond (hole (take m letters) (place (take m letters) i)) 1 0 + (h + (i - d))
  one_more i h rank = ⊎_elim
      (λ (l : i < d). rw (hole_false (take m letters) _ (nohole_rank (take m letters) i (omega (arith, T.noholes))).is) (omega arith))
      (λ (l : d ≤ i). rw (hole_true (take m letters) _ (hole_rank (take m letters) i (omega (arith, T.noholes)) (omega (arith, word))).is) (omega arith))
      (less_or i d)

  -- No hole has been compared where a window begins.
  begins_early : (i : ℕ) → next (take m letters) i ≤ d
  begins_early i = omega (arith, next_early (take m letters) i, T.noholes)

  -- ---- Moves

  -- Where the first rank is a nohole's, a window that misses there is left by 1, for rank 0 again.
  by_one : 0 < d → ByOne (hole (take m letters)) (colussi_plan (take m letters))
  by_one any =
      let some : 0 < noholes (take m letters) = omega (arith, T.noholes) in
      record {
        some = word_some letters order m d T;
        moving = ranges.moving;
        shift = shift_first (take m letters) some;
        next = next_first (take m letters) some;
        early = some;
        apart = hole_false (take m letters) _ (nohole_rank (take m letters) 0 some).is;
      }

  -- The known edge once a window is left with a rank, as the code tests it.
  code_kept : (b rank e : ℕ) → rank < d → edge_after_rank m d b rank e ≡ e
  unfolding edge_after_rank
  code_kept b rank e l = rw (lt-ltb rank d l, edge_after_rank) refl

  code_moved : (b rank e : ℕ) → d ≤ rank → edge_after_rank m d b rank e ≡ b + length (take m letters)
  unfolding edge_after_rank
  code_moved b rank e l = rw (le-ltb rank d l, edge_after_rank) (ap (λ k. b + k) (sym word))

  pub edge_early : (b rank e : ℕ) → rank < d → e ≡ edge_after_rank m d b rank e
  edge_early b rank e l = sym (code_kept b rank e l)

  pub edge_late : (b rank e : ℕ) → d ≤ rank → b + m ≡ edge_after_rank m d b rank e
  edge_late b rank e l = sym (code_moved b rank e l ∙ ap (λ k. b + k) word)

  edge_is : (b rank e : ℕ) → edge_after_rank m d b rank e ≡ edge_after (colussi_plan (take m letters)) rank b e
  edge_is b rank e = ⊎_elim
      (λ (l : rank < d). code_kept b rank e l ∙ sym (edge_kept (colussi_plan (take m letters)) rank b e (early l)))
      (λ (l : d ≤ rank). code_moved b rank e l ∙ sym (edge_moved (colussi_plan (take m letters)) rank b e (late l)))
      (less_or rank d)
    where
      early : rank < d → rank < (colussi_plan (take m letters)).edge_from
      early l = omega (arith, T.noholes, plan_edge (take m letters))

      late : d ≤ rank → (colussi_plan (take m letters)).edge_from ≤ rank
      late l = omega (arith, T.noholes, plan_edge (take m letters))

  -- A window that is left begins with no nohole left of the known edge.
  missed_due : (b i e : ℕ) → i < m → e ≤ b + place (take m letters) i → next (take m letters) i < d
      → edge_after_rank m d b i e ≤ b + shift (take m letters) i + place (take m letters) (next (take m letters) i)
  missed_due b i e rank beyond l = ⊎_elim
      (λ (early : i < d). rw (code_kept b i e early)
      (omega (arith, next_past_miss (take m letters) i (omega (arith, T.noholes)) (omega (arith, T.noholes)))))
      (λ (late : d ≤ i). rw (code_moved b i e late)
      (omega (arith, next_past_window (take m letters) i (omega (arith, T.noholes)) (omega (arith, T.noholes)))))
      (less_or i d)

  listed_due : (b : ℕ) → next (take m letters) (length (take m letters)) < d
      → b + m ≤ b + shift (take m letters) (length (take m letters)) + place (take m letters) (next (take m letters) (length (take m letters)))
  listed_due b l =
      omega (arith, word, next_past_window (take m letters) (length (take m letters)) (noholes_le (take m letters)) (omega (arith, T.noholes)))

  -- ---- A turn of the scan, at rank i of window b

  module _ {source : Source} {cap : ℕ} {before after : List ℕ} {b i e left h k : ℕ}
      (F : ScansByRank letters m d source cap before after b i e left h k) where
    columns : Split (take m letters) F.scans.made (cap - left - (h + (i - d))) (h + (i - d))
    columns = by_holes (take m letters) F.scans.made F.scans.count F.scans.column

    -- The report of the search in Colussi's order is this.
    abbrev Ends : Ending → Type 0
    Ends x = Reported (take m letters) (search (colussi_plan (take m letters)) source cap (length before)) before after
        (ended_with x (cap - left) (cap - left - (h + (i - d))) (h + (i - d)) k)

    pub scan_done : source.n < b + m → Ends Done
    scan_done l = scans_done _ _ _ cap before ranges F.scans columns (omega (arith, word))

    module _ (fits : b + m ≤ source.n) where
      inside : b + length (take m letters) ≤ source.n
      inside = omega (arith, word)

      -- Rank i, whose place is read off as o.
      module _ (o : ℕ) (rank : i < m) (read : o ≡ get_or order i 0) where
        read_place : o ≡ place (take m letters) i
        read_place = place_is letters order m d T i o rank read

        pub scan_known : b + o < e → Established (colussi_plan (take m letters)) b i e
        scan_known l = inr (omega (arith, read_place))

        -- A comparison is due.
        module _ (beyond : e ≤ b + o) where
          pub due : Due (colussi_plan (take m letters)) b i e
          due = record { rank = omega (arith, word); beyond = omega (arith, read_place) }

          pub scan_spent : left ≡ 0 → Ends (Spent b)
          scan_spent l = scans_spent _ _ _ cap before ranges F.scans columns inside due (omega arith)

          module _ (more : left ≡ 0 → ⊥) where
            one_less : cap - (left - 1) ≡ suc (cap - left)
            one_less = omega (arith, F.within)

            pub scan_matched : source.agree b o (cap - left) ≡ true → ScansByRank letters m d source cap before after b (i + 1) e (left - 1) h k
            scan_matched q = record {
              within = omega (arith, F.within);
              scans = rw (one_less, add-one i) (scans_matched _ _ _ cap before ranges F.scans inside due (λ z. omega (arith, F.within))
                  (rw (add-one i) at (one_more i h rank)) (rw (← read_place) q));
              noholes_due = λ l. omega (arith, beyond, read_place, place_ascends (take m letters) i (omega (arith, T.noholes)));
            }

            -- The window is left by the entries of the tables, with so many holes more.
            pub scan_missed : source.agree b o (cap - left) ≡ false → {shifts nexts : List ℕ} → LentMoves letters shifts nexts m
                → {b' i' e' holes : ℕ} → b' ≡ b + get_or shifts i 0 → i' ≡ get_or nexts i 0 → e' ≡ edge_after_rank m d b i e → holes ≡ i + 1 - d
                → ScansByRank letters m d source cap before after b' i' e' (left - 1) (h + holes) k
            scan_missed q M at_b at_i at-e adds = record {
              within = omega (arith, F.within);
              scans = rw (at_b, at_i, at-e, adds, M.shift_at i (omega arith), M.next_at i (omega arith), edge_is b i e, one_less)
                  (scans_missed _ _ _ cap before ranges F.scans inside due (λ z. omega (arith, F.within))
                  (omega (arith, one_more i h rank, begins_early i)) (rw (← read_place) q));
              noholes_due = rw (at_b, at_i, at-e, M.shift_at i (omega arith), M.next_at i (omega arith))
                  (missed_due b i e rank (omega (arith, beyond, read_place)));
            }

      -- Where none is due the pattern occurs.
      pub none_due : {r : Bool} → DueAt order m b i e r → r ≡ false → Established (colussi_plan (take m letters)) b i e
      none_due D is = ⊎_elim
          (λ (l : m ≤ i). inl (omega (arith, word)))
          (λ (l : (i < m) × (b + get_or order i 0 < e)). scan_known (get_or order i 0) l.0 refl l.1)
          (D.no is)

      -- The pattern occurs.
      module _ (occurs : Established (colussi_plan (take m letters)) b i e) where
        -- Every nohole has been compared.
        pub noholes_passed : d ≤ i
        noholes_passed = ⊎_elim
            (λ (l : i < d). ⊎_elim
            (λ (all : length (take m letters) ≤ i). absurd (omega (arith, noholes_upto letters order m d T, word)))
            (λ (known : b + place (take m letters) i < e). absurd (omega (arith, F.noholes_due l)))
            occurs)
            (λ (l : d ≤ i). l)
            (less_or i d)

        pub scan_full : k ≡ length after → Ends (Full b)
        scan_full l = scans_full _ _ _ cap before ranges F.scans columns inside occurs l

        -- The window is stored, as v.
        pub scan_listed : (k ≡ length after → ⊥) → {shifts nexts : List ℕ} → LentMoves letters shifts nexts m
            → {v b' i' holes : ℕ} → v ≡ b → b' ≡ b + get_or shifts m 0 → i' ≡ get_or nexts m 0 → holes ≡ i - d
            → ScansByRank letters m d source cap before (set after k v) b' i' (b + m) left (h + holes) (k + 1)
        scan_listed l M {b' = b'} {i' = i'} is at_b at_i adds = record {
          within = F.within;
          scans = rw (is, to_window, to_rank, adds) (scans_as (rw edge at moved) refl (omega (arith, begins_early (length (take m letters)))));
          noholes_due = rw (to_window, to_rank) (listed_due b);
        }
          where
            to_window : b' ≡ b + shift (take m letters) (length (take m letters))
            to_window = at_b ∙ ap (λ s. b + s) (M.shift_at m (omega arith) ∙ ap (shift (take m letters)) (sym word))

            to_rank : i' ≡ next (take m letters) (length (take m letters))
            to_rank = at_i ∙ M.next_at m (omega arith) ∙ ap (next (take m letters)) (sym word)

            moved : Scans (hole (take m letters)) (colussi_plan (take m letters)) source cap before (set after k b)
                (b + shift (take m letters) (length (take m letters))) (next (take m letters) (length (take m letters)))
                (edge_after (colussi_plan (take m letters)) (length (take m letters)) b e) (cap - left) (h + (i - d)) (k + 1)
            moved = scans_listed _ _ _ cap before ranges F.scans inside occurs l

            edge : edge_after (colussi_plan (take m letters)) (length (take m letters)) b e ≡ b + m
            edge = edge_moved _ _ b e (omega (arith, plan_edge (take m letters), T.noholes, noholes_upto letters order m d T, word)) ∙ ap (λ n. b + n) word

  -- A text without a window: the search is done before it begins.
  pub done_at_once : (source : Source) (cap : ℕ) (before : List ℕ) → source.n < m
      → Reported (take m letters) (search (colussi_plan (take m letters)) source cap (length before)) before before (ended_with Done 0 0 0 0)
  done_at_once source cap before l =
      let none : 0 + (0 - d) ≡ 0 = omega arith in
      let all : cap - cap ≡ 0 = omega arith in
      rw (none, all) at (scan_done (by_rank_start letters m d source cap before) (omega arith))

  -- ---- In a text

  module _ (text : List ℕ) where
    -- What the rules learn of it.
    abbrev in_text : Source
    in_text = text_source (take m letters) text

    -- The letters at a place o of the pattern, and of a window b, are the same, or are not.
    pub text_agrees : (b o : ℕ) → o < m → get_or letters o 0 ≡ get_or text (b + o) 0 → eqb (letter (take m letters) o) (letter text (b + o)) ≡ true
    text_agrees b o l q = eq-eqb _ _ (get_or-take m letters o 0 l ∙ q)

    pub text_differs : (b o : ℕ) → o < m → (get_or letters o 0 ≡ get_or text (b + o) 0 → ⊥)
        → eqb (letter (take m letters) o) (letter text (b + o)) ≡ false
    text_differs b o l q = ne_eqb _ _ (λ a. q (sym (get_or-take m letters o 0 l) ∙ a))

    -- Past the windows that miss at rank 0, whose place is read off as o.
    pub scan_ahead : {cap : ℕ} {before after : List ℕ} {b i e left h k : ℕ} → ScansByRank letters m d in_text cap before after b i e left h k
        → {x o last b' i' left' : ℕ} → Ahead text x o last b left b' i' left' → last + m ≡ length text
        → i ≡ 0 → 0 < d → o ≡ get_or order 0 0 → x ≡ get_or letters o 0 → ScansByRank letters m d in_text cap before after b' i' e left' h k
    scan_ahead {cap} {before} {after} {b} {i} {e} {left} {h} {k} F {x} {o} {last} {b'} {i'} {left'} A ends first any read is =
        let at_first : o ≡ place (take m letters) 0 = place_is letters order m d T 0 o T.some read in
        let G : ScansByRank letters m d in_text cap before after b 0 e left h k = rw first at F in
        let beyond : e ≤ b + o = omega (arith, G.noholes_due any, at_first) in
        let fewer : left' ≤ cap = omega (arith, A.spent, A.from, F.within) in
        record {
          within = fewer;
          scans = scans_as (scans_ahead (hole (take m letters)) (colussi_plan (take m letters)) (take m letters) text (by_one any) A
              (omega (arith, word)) (sym at_first)
              (get_or-take m letters o 0 (in_window letters order m d T 0 o T.some read) ∙ sym is) e beyond ranges G.scans
              (omega (arith, F.within)) (omega (arith, fewer)))
              refl (omega (arith, A.rank));
          noholes_due = λ l. ⊎_elim
              (λ (one : i' < 1).
              let zero : i' ≡ 0 = omega arith in
              rw zero (omega (arith, A.from, at_first)))
              (λ (one : 1 ≤ i').
              let rank : i' ≡ 0 + 1 = omega (arith, A.rank) in
              rw rank (omega (arith, A.from, at_first, place_ascends (take m letters) 0 (omega (arith, T.noholes)))))
              (less_or i' 1);
        }
