-- The scan by Knuth, Morris and Pratt, and its tables by place, in the terms of their code. Assumes nothing.
use Prim.Native.Nat.{ℕ, suc, ◌+◌, ◌-◌, ◌≤◌, ◌<◌}
use mathlib.Core.Path.{◌≡◌, refl, sym, ap, ◌∙◌}
use mathlib.Core.Logic.{inl, ⊎_elim}
use mathlib.Core.Bool.{true, false, cond}
use mathlib.Core.List.{List}
use native.Mathlib.Omega.{arith}
use native.Mathlib.Numerals.{add-one}
use lib.ListN.{length, get_or, take, set, length-set}
use lib.Seq.{length-take-le, get_or-take}
use borrow.Author.Tests.{eq-eqb, ne_eqb}
use Rattle.words.specs.Tables.{nohole, kmin, below, noholes, place, rank, shift}
use Rattle.words.proofs.Cases.{true_or_false}
use Rattle.words.proofs.Numbers.{count_zero}
use Rattle.words.proofs.Noholes.{zero_hole}
use Rattle.words.proofs.Ranks.{below_le, below_grows, below_nohole, below_hole, nohole_rank, rank_nohole, rank_inside, place_rank, nohole_early}
use Rattle.words.proofs.Shifts.{shift_nohole, shift_last, noholes_le}
use Rattle.pattern.specs.Sizes.{ranks}
use Rattle.hmax.proofs.Stores.{after_store}
use Rattle.columns.specs.Ended.{ended_with}
use Rattle.rules.specs.Rules.{text_source, edge_after}
use Rattle.rules.specs.Kmp.{kmp_shift, kmp_plan, kmp}
use Rattle.rules.specs.Internal.Passing.{Due}
use Rattle.rules.specs.Report.{Reported}
use Rattle.rules.specs.declared.Ending.{Ending}
use Rattle.rules.specs.declared.Ending.TheVariants.{Done, Spent, Full}
use Rattle.rules.proofs.Columns.{Split, by_noholes}
use Rattle.rules.proofs.KmpMethod.{kmp_shift_nohole, kmp_shift_hole, kmp_shift_last, kmp_shift_moves, edge_stays}
use Rattle.rules.proofs.Following.{Ranges}
use Rattle.rules.proofs.Scans.{Scans, rank_upto, column_upto, scans_start, scans_as, scans_done, scans_spent, scans_matched, scans_missed, scans_full, scans_listed}
use Rattle.search.specs.Internal.RankZero.{Ahead}
use Rattle.search.specs.Internal.KmpScan.{KmpTables, ByRank}
use Rattle.search.proofs.RankZero.{ByOne, scans_ahead}

-- ---- The tables by place

-- The tables of a pattern w have the entries of the places below p.
pub record TablesBelow (w shifts belows : List ℕ) (p : ℕ) : Type 0 where
  pub length_shifts : length shifts ≡ ranks
  pub length_belows : length belows ≡ ranks
  pub shift_at : (q : ℕ) → q < p → get_or shifts q 0 ≡ kmp_shift w q
  pub below_at : (q : ℕ) → q < p → get_or belows q 0 ≡ below w q

-- One entry more in each.
pub tables_store : {w shifts belows : List ℕ} {p s j : ℕ} → p < ranks → TablesBelow w shifts belows p → s ≡ kmp_shift w p → j ≡ below w p
    → TablesBelow w (set shifts p s) (set belows p j) (p + 1)
tables_store {w = w} {shifts = shifts} {belows = belows} {p = p} {s = s} {j = j} l H is number = record {
  length_shifts = length-set shifts p s ∙ H.length_shifts;
  length_belows = length-set belows p j ∙ H.length_belows;
  shift_at = λ q g. after_store shifts p s (λ x. x ≡ kmp_shift w q) q (omega (arith, H.length_shifts))
      (λ same. is ∙ ap (kmp_shift w) (sym same)) (λ other. H.shift_at q (omega arith));
  below_at = λ q g. after_store belows p j (λ x. x ≡ below w q) q (omega (arith, H.length_belows))
      (λ same. number ∙ ap (below w) (sym same)) (λ other. H.below_at q (omega arith));
}

-- At place p, with j noholes less than it.
pub record AtPlace (w shifts belows : List ℕ) (p j : ℕ) : Type 0 where
  pub tables : TablesBelow w shifts belows p
  pub number : j ≡ below w p

module _ {w order shifts : List ℕ} {m d : ℕ} (B : ByRank w order shifts m d) where
  pub place_begin : {by_place belows : List ℕ} → length by_place ≡ ranks → length belows ≡ ranks → AtPlace w by_place belows 0 0
  unfolding below
  place_begin s n = record {
    tables = record { length_shifts = s; length_belows = n; shift_at = λ q l. absurd (omega arith); below_at = λ q l. absurd (omega arith) };
    number = sym (count_zero (nohole w));
  }

  module _ {by_place belows : List ℕ} {p j : ℕ} (A : AtPlace w by_place belows p j) (inside : p < m) (short : m ≤ 256) where
    -- Place p is a nohole, of rank j.
    module _ (early : j < d) (at : get_or order j 0 ≡ p) where
      before_holes : j < noholes w
      before_holes = omega (arith, B.noholes)

      here : place w j ≡ p
      here = sym (B.place_at j (omega (arith, before_holes, noholes_le w, B.word))) ∙ at

      is : nohole w p ≡ true
      is = rw here at (nohole_rank w j before_holes).is

      pub place_nohole : {s v : ℕ} → s ≡ get_or shifts j 0 → v ≡ j → AtPlace w (set by_place p s) (set belows p v) (p + 1) (j + 1)
      place_nohole read stored = record {
        tables = tables_store (omega arith) A.tables
            (read ∙ B.shift_at j (omega (arith, before_holes, noholes_le w, B.word)) ∙ shift_nohole w j before_holes ∙ ap (kmin w) here
            ∙ sym (kmp_shift_nohole w p is))
            (stored ∙ A.number);
        number = rw (add-one p) (omega (arith, A.number, below_nohole w p is));
      }

    -- It is a hole.
    module _ (no : j < d → get_or order j 0 ≡ p → ⊥) where
      not : nohole w p ≡ false
      not = ⊎_elim
          (λ (e : nohole w p ≡ true).
          let at_rank : rank w p ≡ j = rank_nohole w p e ∙ sym A.number in
          absurd (no (omega (arith, at_rank, nohole_early w p e, B.noholes))
          (B.place_at j (omega (arith, at_rank, rank_inside w p (omega (arith, B.word)), B.word))
          ∙ ap (place w) (sym at_rank) ∙ place_rank w p (omega (arith, B.word)))))
          (λ e. e)
          (true_or_false (nohole w p))

      pub place_hole : {s v : ℕ} → s ≡ p + 1 → v ≡ j → AtPlace w (set by_place p s) (set belows p v) (p + 1) j
      place_hole next stored = record {
        tables = tables_store (omega arith) A.tables
            (next ∙ add-one p ∙ sym (kmp_shift_hole w p (omega (arith, B.word)) not)) (stored ∙ A.number);
        number = rw (add-one p) (A.number ∙ sym (below_hole w p not));
      }

  -- Past the last place the entries of m are stored.
  pub place_end : {by_place belows : List ℕ} {p j : ℕ} → AtPlace w by_place belows p j → p ≡ m → m ≤ 256
      → KmpTables w (set by_place m (get_or shifts m 0)) (set belows m j)
  place_end {by_place} {belows} {p} {j} A end short =
      let size : length w ≡ m = B.word in
      let H = tables_store {s = get_or shifts m 0} (omega arith) (rw end at A.tables)
      (B.shift_at m (omega arith) ∙ ap (shift w) (sym size) ∙ shift_last w ∙ sym (kmp_shift_last w) ∙ ap (kmp_shift w) size) (A.number ∙ ap (below w) end) in
      record {
        length_shifts = H.length_shifts;
        length_belows = H.length_belows;
        shift_at = λ i l. H.shift_at i (omega arith);
        below_at = λ i l. H.below_at i (omega arith);
      }

-- ---- The scan

pub kmp_ranges : (w : List ℕ) → 1 ≤ length w → Ranges (kmp_plan w)
kmp_ranges w some = record {
  some = some;
  moving = λ i l. (kmp_shift_moves w i some l).on;
  shifts = λ i l. (kmp_shift_moves w i some l).upto;
  nexts = λ i l. omega arith;
}

-- A window that misses at rank 0, a hole, is left by 1.
by_one : (w : List ℕ) → 1 ≤ length w → ByOne (nohole w) (kmp_plan w)
by_one w some = record {
  some = some;
  moving = λ i l. (kmp_shift_moves w i some l).on;
  shift = kmp_shift_hole w 0 some (zero_hole w);
  next = omega arith;
  early = omega arith;
  apart = zero_hole w;
}

-- The column of the noholes: one comparison more, at place i.
one_more : (w : List ℕ) (i : ℕ) → below w (i + 1) ≡ cond (nohole w i) 1 0 + below w i
one_more w i = rw (add-one i) (⊎_elim
    (λ (e : nohole w i ≡ true). rw e (omega (arith, below_nohole w i e)))
    (λ (e : nohole w i ≡ false). rw e (omega (arith, below_hole w i e)))
    (true_or_false (nohole w i)))

-- No nohole is less than 1.
none_below : (w : List ℕ) (i : ℕ) → i ≤ 1 → below w i ≡ 0
none_below w i l = omega (arith, below_grows w i 1 l, below_hole w 0 (zero_hole w), below_le w 0)

-- The scan for the first m letters stands in window b with i letters matched, with so much left of the cap, and with q more comparisons at
-- noholes than there are noholes among these i.
pub record ScansByPlace (letters : List ℕ) (m : ℕ) (text : List ℕ) (cap : ℕ) (before after : List ℕ) (b i left q k : ℕ) : Type 0 where
  pub within : left ≤ cap
  pub scans : Scans (nohole (take m letters)) (kmp_plan (take m letters)) (text_source (take m letters) text) cap before after
      b i 0 (cap - left) (q + below (take m letters) i) k

pub by_place_start : (letters : List ℕ) (m : ℕ) (text : List ℕ) (cap : ℕ) (before : List ℕ) → ScansByPlace letters m text cap before before 0 0 cap 0 0
by_place_start letters m text cap before = record {
  within = omega arith;
  scans = scans_as (scans_start _ _ _ cap before) (omega arith) (omega (arith, none_below (take m letters) 0 (omega arith)));
}

-- The first m letters, with their tables by place.
module _ (letters shifts belows : List ℕ) (m : ℕ) (sizes : (1 ≤ m) × (m ≤ 256) × (m ≤ length letters))
    (K : KmpTables (take m letters) shifts belows) where
  word : length (take m letters) ≡ m
  word = length-take-le m letters sizes.2

  R : Ranges (kmp_plan (take m letters))
  R = kmp_ranges (take m letters) (omega (arith, word, sizes.0))

  -- Every shift moves the window on.
  pub shift_on : (r s : ℕ) → r ≤ m → s ≡ get_or shifts r 0 → 1 ≤ s
  shift_on r s l read = omega (arith, K.shift_at r (omega (arith, word)), R.moving r (omega (arith, word)))

  -- The entries of the second table grow.
  pub belows_grow : (i j : ℕ) → i ≤ j → j ≤ m → get_or belows i 0 ≤ get_or belows j 0
  belows_grow i j l inside = omega (
    arith,
    K.below_at i (omega (arith, word)),
    K.below_at j (omega (arith, word)),
    below_grows (take m letters) i j l,
  )

  -- A turn of the scan.
  module _ {text : List ℕ} {cap : ℕ} {before after : List ℕ} {b i left q k : ℕ} (F : ScansByPlace letters m text cap before after b i left q k) where
    -- The window is left at r, which is j in the code, by the shift s that the table has there.
    left_by : (later : List ℕ) (r j s c' x k' : ℕ) → r ≤ length (take m letters) → j ≡ r → s ≡ get_or shifts j 0
        → Scans (nohole (take m letters)) (kmp_plan (take m letters)) (text_source (take m letters) text) cap before later
        (b + kmp_shift (take m letters) r) (r - kmp_shift (take m letters) r) (edge_after (kmp_plan (take m letters)) r b 0) c' x k'
        → Scans (nohole (take m letters)) (kmp_plan (take m letters)) (text_source (take m letters) text) cap before later (b + s) (j - s) 0 c' x k'
    left_by later r j s c' x k' l at read G = rw (read, at, K.shift_at r l) (rw (edge_stays (take m letters) r b 0 l) at G)

    -- The comparisons at noholes, as the code has them.
    pub noholes_made : q + get_or belows i 0 ≡ q + below (take m letters) i
    noholes_made = omega (arith, K.below_at i (rank_upto F.scans))

    -- Neither what is left nor the comparisons at noholes are more than the cap.
    pub within_cap : (left ≤ cap) × (i ≤ m) × (q + get_or belows i 0 ≤ cap)
    within_cap = (F.within, omega (arith, rank_upto F.scans, word), omega (arith, noholes_made, column_upto F.scans))

    columns : Split (take m letters) F.scans.made (q + get_or belows i 0) (cap - left - (q + get_or belows i 0))
    columns = by_noholes (take m letters) F.scans.made F.scans.count (F.scans.column ∙ sym noholes_made)

    -- The report of the search by Knuth, Morris and Pratt is this.
    abbrev Ends : Ending → Type 0
    Ends x = Reported (take m letters) (kmp (take m letters) text cap (length before)) before after
        (ended_with x (cap - left) (q + get_or belows i 0) (cap - left - (q + get_or belows i 0)) k)

    pub scan_done : length text < b + m → Ends Done
    unfolding kmp
    scan_done l = scans_done _ _ _ cap before R F.scans columns (omega (arith, word))

    -- Past the windows that miss at rank 0.
    pub scan_ahead : {x last b' i' left' : ℕ} → Ahead text x 0 last b left b' i' left' → last + m ≡ length text → i ≡ 0 → x ≡ get_or letters 0 0
        → ScansByPlace letters m text cap before after b' i' left' q k
    scan_ahead {i' = i'} {left' = left'} A ends first is =
        let G : ScansByPlace letters m text cap before after b 0 left q k = rw first at F in
        let fewer : left' ≤ cap = omega (arith, A.spent, A.from, F.within) in
        record {
          within = fewer;
          scans = scans_as (scans_ahead (nohole (take m letters)) (kmp_plan (take m letters)) (take m letters) text (by_one (take m letters) R.some) A
              (omega (arith, word)) refl (get_or-take m letters 0 0 sizes.0 ∙ sym is) 0 (omega arith) R G.scans
              (omega (arith, F.within)) (omega (arith, fewer)))
              refl (omega (arith, none_below (take m letters) i' A.rank, none_below (take m letters) 0 (omega arith)));
        }

    module _ (fits : b + m ≤ length text) where
      inside : b + length (take m letters) ≤ length text
      inside = omega (arith, word)

      -- A comparison is due.
      module _ (rank : i < m) where
        due : Due (kmp_plan (take m letters)) b i 0
        due = record { rank = omega (arith, word); beyond = omega arith }

        pub scan_spent : left ≡ 0 → Ends (Spent b)
        unfolding kmp
        scan_spent l = scans_spent _ _ _ cap before R F.scans columns inside due (omega arith)

        module _ (more : left ≡ 0 → ⊥) where
          one_less : cap - (left - 1) ≡ suc (cap - left)
          one_less = omega (arith, F.within)

          one_nohole : q + below (take m letters) (i + 1) ≡ cond (nohole (take m letters) i) 1 0 + (q + below (take m letters) i)
          one_nohole = omega (arith, one_more (take m letters) i)

          pub scan_matched : get_or letters i 0 ≡ get_or text (b + i) 0 → ScansByPlace letters m text cap before after b (i + 1) (left - 1) q k
          scan_matched e = record {
            within = omega (arith, F.within);
            scans = rw (one_less, add-one i) (scans_matched _ _ _ cap before R F.scans inside due (λ z. omega (arith, F.within))
                (rw (add-one i) at one_nohole) (eq-eqb _ _ (get_or-take m letters i 0 rank ∙ e)));
          }

          -- The window is left by the shift s, with the noholes from i - s on and below i + 1 more.
          pub scan_missed : (get_or letters i 0 ≡ get_or text (b + i) 0 → ⊥) → (s : ℕ) → s ≡ get_or shifts i 0
              → {kept new : ℕ} → kept ≡ i - s → new ≡ get_or belows (i + 1) 0 - get_or belows kept 0
              → ScansByPlace letters m text cap before after (b + s) kept (left - 1) (q + new) k
          scan_missed e s read {kept} {new} is adds = record {
            within = omega (arith, F.within);
            scans = rw is (left_by after i i s (cap - (left - 1)) (q + new + below (take m letters) (i - s)) k (rank_upto F.scans) refl read (rw one_less
                (scans_missed _ _ _ cap before R F.scans inside due (λ z. omega (arith, F.within))
                (omega (
                  arith,
                  one_nohole,
                  K.below_at (i + 1) (omega (arith, word)),
                  K.below_at kept (omega (arith, word)),
                  ap (below (take m letters)) is,
                  belows_grow kept (i + 1) (omega arith) (omega arith),
                ))
                (ne_eqb _ _ (λ a. e (sym (get_or-take m letters i 0 rank) ∙ a))))));
          }

      -- The pattern occurs.
      module _ (rank : m ≤ i) where
        pub scan_full : k ≡ length after → Ends (Full b)
        unfolding kmp
        scan_full l = scans_full _ _ _ cap before R F.scans columns inside (inl (omega (arith, word))) l

        -- The window is stored, as v, and left by the shift s, with the noholes from m - s on more.
        pub scan_listed : (k ≡ length after → ⊥) → {v : ℕ} → v ≡ b → (s : ℕ) → s ≡ get_or shifts m 0
            → {kept new : ℕ} → kept ≡ m - s → new ≡ get_or belows m 0 - get_or belows kept 0
            → ScansByPlace letters m text cap before (set after k v) (b + s) kept left (q + new) (k + 1)
        scan_listed l is s read {kept} {new} back adds =
            let end : i ≡ m = omega (arith, rank_upto F.scans, word) in
            record {
              within = F.within;
              scans = rw (is, back) (left_by (set after k b) (length (take m letters)) m s (cap - left) (q + new + below (take m letters) (m - s)) (k + 1)
                  (omega arith) (sym word) read
                  (scans_as (scans_listed _ _ _ cap before R F.scans inside (inl (omega (arith, word))) l)
                  refl
                  (omega (
                    arith,
                    K.below_at m (omega (arith, word)),
                    K.below_at kept (omega (arith, word)),
                    ap (below (take m letters)) back,
                    belows_grow kept m (omega arith) (omega arith),
                    ap (below (take m letters)) end,
                  ))));
            }

  -- A text without a window: the search is done before it begins.
  pub done_at_once : (text : List ℕ) (cap : ℕ) (before : List ℕ) → length text < m
      → Reported (take m letters) (kmp (take m letters) text cap (length before)) before before (ended_with Done 0 0 0 0)
  done_at_once text cap before l =
      let none : 0 + get_or belows 0 0 ≡ 0 = omega (arith, K.below_at 0 (omega arith), none_below (take m letters) 0 (omega arith)) in
      let all : cap - cap ≡ 0 = omega arith in
      rw (none, all) at (scan_done (by_place_start letters m text cap before) (omega arith))
