-- The scan in a custom order, window by window, as a search by the rules. Assumes nothing.
use Prim.Native.Nat.{ℕ, zero, suc, ◌+◌, ◌-◌, ◌≤◌, ◌<◌, min}
use mathlib.Core.Path.{◌≡◌, refl, ap, ◌∙◌}
use mathlib.Core.Bool.{true}
use mathlib.Core.Logic.{inl}
use mathlib.Core.List.{List}
use native.Mathlib.Numerals.{add-one}
use native.Mathlib.Omega.{arith}
use lib.ListN.{length, get_or, set}
use borrow.Author.Tests.{eq-eqb, ne_eqb, true-eqb}
use lib.Dec.{eqb}
use Rattle.words.specs.Tables.{letter, nohole}
use Rattle.classes.proofs.Through.{length_through}
use Rattle.columns.specs.Ended.{ended_with}
use Rattle.custom.specs.Custom.{custom_shift, custom_plan, custom}
use Rattle.custom.proofs.Shifts.{shift_moves}
use Rattle.custom.proofs.CustomMethod.{edge_stays, custom_ranges}
use Rattle.rules.specs.Rules.{text_source}
use Rattle.rules.specs.Internal.Passing.{Due}
use Rattle.rules.specs.Report.{Reported}
use Rattle.rules.specs.declared.Ending.{Ending}
use Rattle.rules.specs.declared.Ending.TheVariants.{Done, Spent, Full}
use Rattle.rules.proofs.Columns.{Split, by_noholes}
use Rattle.rules.proofs.Following.{Ranges}
use Rattle.rules.proofs.Scans.{Scans, column_upto, scans_as, scans_start, scans_done, scans_spent, scans_full, scans_matched, scans_missed, scans_listed}
use Rattle.ordered.specs.Internal.{letters_of, noholes_among, Agreed, Reaches, LentTables}
use Rattle.ordered.specs.declared.scan.Text.{Text}
use Rattle.ordered.proofs.Among.{among_none, among_more}

-- The scan stands at rank 0 of window b, with so much left of the cap and q comparisons made at noholes.
pub record InOrder (w order text : List ℕ) (cap : ℕ) (before after : List ℕ) (b left q k : ℕ) : Type 0 where
  pub within : left ≤ cap
  pub scans : Scans (nohole w) (custom_plan order w) (text_source w text) cap before after b 0 0 (cap - left) q k

pub in_order_start : (w order text : List ℕ) (cap : ℕ) (before : List ℕ) → InOrder w order text cap before before 0 cap 0 0
in_order_start w order text cap before = record {
  within = omega arith;
  scans = scans_as (scans_start (nohole w) (custom_plan order w) (text_source w text) cap before) (omega arith) refl;
}

module _ {w order shifts among : List ℕ} (T : LentTables w order shifts among) {text : List ℕ} {cap : ℕ} {before after : List ℕ} {b left q k : ℕ}
    (F : InOrder w order text cap before after b left q k) where
  R : Ranges (custom_plan order w)
  R = custom_ranges order w T.some

  -- The list has an entry for each position.
  pub room : k ≤ length after
  room = F.scans.follows.room

  -- Every shift moves the window on.
  pub shift_on : (r s : ℕ) → r ≤ length w → s ≡ get_or shifts r 0 → 1 ≤ s
  shift_on r s l read = omega (arith, T.shift_at r l, (shift_moves w order r T.some).on)

  -- The search ends, with so much left of the cap and so many comparisons made at noholes.
  abbrev Ends : Ending → ℕ → ℕ → Type 0
  Ends x l u = Reported w (custom order w text cap (length before)) before after (ended_with x (cap - l) u (cap - l - u) k)

  pub scan_done : length text < b + length w → Ends Done left q
  unfolding custom
  scan_done l = scans_done _ _ _ cap before R F.scans (by_noholes w F.scans.made F.scans.count F.scans.column) l

  module _ (fits : b + length w ≤ length text) where
    -- Rank i agrees.
    abbrev Agrees : ℕ → Type 0
    Agrees i = letter w (get_or order i 0) ≡ letter text (b + get_or order i 0)

    due : (i : ℕ) → i < length w → Due (custom_plan order w) b i 0
    due i l = record { rank = l; beyond = omega arith }

    -- The first i ranks agree, and the cap allows to compare them.
    at_rank : (i : ℕ) → i ≤ length w → i ≤ left → ((j : ℕ) → j < i → Agrees j)
        → Scans (nohole w) (custom_plan order w) (text_source w text) cap before after b i 0 (cap - (left - i)) (q + noholes_among w order i) k
    at_rank zero l room agree = scans_as F.scans (omega arith) (omega (arith, among_none w order))
    at_rank (suc i) l room agree = scans_as
        (scans_matched (nohole w) (custom_plan order w) (text_source w text) cap before R (at_rank i (omega arith) (omega arith) (λ j h. agree j (omega arith)))
        fits (due i l) (λ z. omega (arith, F.within)) (omega (arith, among_more w order i)) (eq-eqb _ _ (agree i (omega arith))))
        (omega (arith, F.within)) refl

    -- The window is left with rank r, which misses.
    pub scan_missed : (r : ℕ) → r < length w → r < left → ((j : ℕ) → j < r → Agrees j) → (Agrees r → ⊥)
        → {s v : ℕ} → s ≡ get_or shifts r 0 → v ≡ get_or among (r + 1) 0 → InOrder w order text cap before after (b + s) (left - (r + 1)) (q + v) k
    scan_missed r rank room agree differ {s} {v} moved counted =
        let edge = edge_stays order w r b 0 (omega arith) in
        let shift : s ≡ custom_shift w order r = moved ∙ T.shift_at r (omega arith) in
        let column : v ≡ noholes_among w order (suc r) = counted ∙ rw (add-one r) (T.among_at (suc r) rank) in
        record {
          within = omega (arith, F.within);
          scans = scans_as
              (rw (edge, ← shift) at (scans_missed (nohole w) (custom_plan order w) (text_source w text) cap before R (at_rank r (omega arith) (omega arith) agree)
              fits (due r rank) (λ z. omega (arith, F.within)) {x' = q + noholes_among w order (suc r)} (omega (arith, among_more w order r)) (ne_eqb _ _ differ)))
              (omega (arith, F.within)) (ap (λ n. q + n) column);
        }

    pub scan_spent : left ≡ 0 → Ends (Spent b) left q
    unfolding custom
    scan_spent none = scans_spent _ _ _ cap before R F.scans (by_noholes w F.scans.made F.scans.count F.scans.column)
        fits (due 0 T.some) (omega (arith, F.within))

    -- Rank 0 agrees.
    module _ (met : true ≡ eqb (letter w (get_or order 0 0)) (letter text (b + get_or order 0 0))) {end : ℕ} (is : end ≡ min left (length w)) where
      ranks : {r : ℕ} → Agreed w order text b r → (j : ℕ) → j < r → Agrees j
      ranks A zero l = true-eqb _ _ met
      ranks A (suc j) l = A.same (suc j) l (omega arith)

      -- The window is left with rank r.
      pub scan_left : {r : ℕ} → Reaches w order text b end r → {s v : ℕ} → s ≡ get_or shifts r 0 → v ≡ get_or among (r + 1) 0
          → InOrder w order text cap before after (b + s) (left - (r + 1)) (q + v) k
      scan_left {r} N moved counted = scan_missed r (omega (arith, N.upto)) (omega (arith, N.upto)) (ranks N.agreed) N.differs moved counted

      pub left_few : {r : ℕ} → Reaches w order text b end r → {v : ℕ} → v ≡ get_or among (r + 1) 0 → q + v ≤ cap
      left_few N counted = omega (arith, column_upto (scan_left N refl counted).scans)

      -- The comparisons that the cap allows agree.
      module _ (A : Agreed w order text b end) {v : ℕ} (counted : v ≡ get_or among end 0) where
        reached : Scans (nohole w) (custom_plan order w) (text_source w text) cap before after b end 0 (cap - (left - end)) (q + v) k
        reached = scans_as (at_rank end (omega arith) (omega arith) (ranks A)) refl (ap (λ n. q + n) (counted ∙ T.among_at end (omega arith)))

        columns : Split w reached.made (q + v) (cap - (left - end) - (q + v))
        columns = by_noholes w reached.made reached.count reached.column

        pub reached_few : q + v ≤ cap
        reached_few = omega (arith, column_upto reached)

        pub scan_cut : end < length w → Ends (Spent b) (left - end) (q + v)
        unfolding custom
        scan_cut l = scans_spent _ _ _ cap before R reached columns fits (due end l) (omega (arith, F.within))

        module _ (whole : length w ≤ end) where
          pub scan_full : k ≡ length after → Ends (Full b) (left - end) (q + v)
          unfolding custom
          scan_full full = scans_full _ _ _ cap before R reached columns fits (inl whole) full

          -- The window is stored, as y, and left by the shift s.
          pub scan_listed : (k ≡ length after → ⊥) → {y : ℕ} → y ≡ b → {s : ℕ} → s ≡ get_or shifts (length w) 0
              → InOrder w order text cap before (set after k y) (b + s) (left - end) (q + v) (k + 1)
          scan_listed free {y} stored {s} moved =
              let edge = edge_stays order w (length w) b 0 (omega arith) in
              let shift : s ≡ custom_shift w order (length w) = moved ∙ T.shift_at (length w) (omega arith) in
              record {
                within = omega (arith, F.within);
                scans = rw stored
                    (rw (edge, ← shift) at (scans_listed (nohole w) (custom_plan order w) (text_source w text) cap before R reached fits (inl whole) free));
              }

-- A text has as many letters as bytes.
pub length_letters : (text : Text) → length (letters_of text) ≡ length text.bytes.now
length_letters text = length_through text.classes.now text.bytes.now

-- A text without a window: the search is done before it begins.
pub done_at_once : {w order shifts among : List ℕ} → LentTables w order shifts among → (text : List ℕ) (cap : ℕ) (before : List ℕ)
    → length text < length w → Reported w (custom order w text cap (length before)) before before (ended_with Done 0 0 0 0)
done_at_once {w} {order} T text cap before l =
    let none : cap - cap ≡ 0 = omega arith in
    rw none at (scan_done T (in_order_start w order text cap before) (omega arith))
