-- A loop that follows a search by the rules, and fills the list that was lent. Assumes nothing.
use Prim.Native.Nat.{ℕ, suc, ◌+◌, ◌≤◌, ◌<◌}
use mathlib.Core.Path.{◌≡◌, refl, sym, ap, ◌∙◌}
use mathlib.Core.Bool.{true, false}
use mathlib.Core.List.{List, [], ◌∷◌, ◌++◌}
use native.Mathlib.Omega.{arith}
use native.Mathlib.Numerals.{add-one}
use lib.ListN.{length, take, drop, set, length-set, take-append-drop}
use lib.Seq.{take-suc-set, drop-set-lt, length-take-le, drop-drop}
use Rattle.rules.specs.Rules.{Plan, Source, Compared, stop, edge_after, leave, listed, turn, search}
use Rattle.rules.specs.Columns.{at_noholes, at_holes}
use Rattle.rules.specs.Report.{report_of, filled, Reported}
use Rattle.rules.specs.Internal.Passing.{Established, Due, at, one, Visits, Passes}
use Rattle.rules.specs.declared.Ending.{Ending}
use Rattle.rules.specs.declared.Ending.TheVariants.{Done, Spent, Full}
use Rattle.rules.specs.declared.Report.{Report}
use Rattle.rules.proofs.Rules.{Moving, turn_done, turn_full, turn_listed, turn_spent, rest_goes_on, rest_ends}
use Rattle.rules.proofs.Passing.{passes_matched, passes_missed}

-- A plan whose shifts move the window on, and whose shifts and next ranks are at most m.
pub record Ranges (plan : Plan) : Type 0 where
  pub some : 1 ≤ plan.m
  pub moving : Moving plan
  pub shifts : (i : ℕ) → i ≤ plan.m → plan.shift i ≤ plan.m
  pub nexts : (i : ℕ) → i ≤ plan.m → plan.next i ≤ plan.m

-- ---- The search alone

module _ (plan : Plan) (source : Source) (cap size : ℕ) where
  -- The loop's variables are those of a state by which the search goes.
  pub record Stands (b i e : ℕ) (made : List Compared) (found : List ℕ) : Type 0 where
    pub visits : Visits plan source cap size (at b i e made found)
    pub rank : i ≤ plan.m
    pub capped : length made ≤ cap
    pub window : b ≤ source.n

  pub stands_start : Stands 0 0 0 [] []
  stands_start = record { visits = unfold search in refl; rank = omega arith; capped = omega arith; window = omega arith }

  module _ (R : Ranges plan) {b i e : ℕ} {made : List Compared} {found : List ℕ} (S : Stands b i e made found) where
    pub stands_on : {b' i' e' : ℕ} {made' : List Compared} → Passes plan source cap b i e made b' i' e' made'
        → b' ≤ source.n → i' ≤ plan.m → length made' ≤ cap → Stands b' i' e' made' found
    stands_on P window rank capped = record { visits = sym (P.same size found) ∙ S.visits; rank = rank; capped = capped; window = window }

    -- The search stops here.
    stands_stop : (x : Ending) → turn plan source cap size (at b i e made found) ≡ stop x
        → search plan source cap size ≡ record { ending = x; last = at b i e made found }
    stands_stop x q = sym S.visits ∙ rest_ends plan source R.moving cap size (at b i e made found) x q

    pub stands_done : source.n < b + plan.m → search plan source cap size ≡ record { ending = Done; last = at b i e made found }
    stands_done l = stands_stop Done (turn_done plan source cap size (at b i e made found) l)

    module _ (fits : b + plan.m ≤ source.n) where
      module _ (due : Due plan b i e) where
        pub stands_spent : length made ≡ cap → search plan source cap size ≡ record { ending = Spent b; last = at b i e made found }
        stands_spent l = stands_stop (Spent b) (turn_spent plan source cap size (at b i e made found) fits due l)

        module _ (more : length made ≡ cap → ⊥) where
          pub stands_matched : source.agree b (plan.place i) (length made) ≡ true → Stands b (suc i) e (one plan b i true ∷ made) found
          stands_matched q = stands_on (passes_matched plan source cap R.moving b i e made fits due more q)
              (omega arith) due.rank (omega (arith, S.capped))

          pub stands_missed : source.agree b (plan.place i) (length made) ≡ false
              → Stands (b + plan.shift i) (plan.next i) (edge_after plan i b e) (one plan b i false ∷ made) found
          stands_missed q = stands_on (passes_missed plan source cap R.moving b i e made fits due more q)
              (omega (arith, R.shifts i S.rank)) (R.nexts i S.rank) (omega (arith, S.capped))

      module _ (established : Established plan b i e) where
        pub stands_full : size ≤ length found → search plan source cap size ≡ record { ending = Full b; last = at b i e made found }
        stands_full l = stands_stop (Full b) (turn_full plan source cap size (at b i e made found) fits established l)

        pub stands_listed : length found < size
            → Stands (b + plan.shift plan.m) (plan.next plan.m) (edge_after plan plan.m b e) made (found ++ (b ∷ []))
        unfolding listed leave
        stands_listed l = record {
          visits = sym (rest_goes_on plan source R.moving cap size (at b i e made found) _
              (turn_listed plan source cap size (at b i e made found) fits established l)) ∙ S.visits;
          rank = R.nexts plan.m (omega arith);
          capped = S.capped;
          window = omega (arith, R.shifts plan.m (omega arith));
        }

-- ---- With the list

module _ (plan : Plan) (source : Source) (cap : ℕ) (before : List ℕ) where
  -- The positions found are the first k entries of the list, and the others are as they were lent.
  pub record Follows (after : List ℕ) (b i e : ℕ) (made : List Compared) (k : ℕ) : Type 0 where
    pub stands : Stands plan source cap (length before) b i e made (take k after)
    pub room : k ≤ length after
    pub size : length after ≡ length before
    pub tail : drop k after ≡ drop k before

  pub follows_start : Follows before 0 0 0 [] 0
  follows_start = record { stands = stands_start plan source cap (length before); room = omega arith; size = refl; tail = refl }

  module _ (R : Ranges plan) {after : List ℕ} {b i e : ℕ} {made : List Compared} {k : ℕ} (F : Follows after b i e made k) where
    -- Turns that list nothing.
    pub follows_on : {b' i' e' : ℕ} {made' : List Compared} → Stands plan source cap (length before) b' i' e' made' (take k after)
        → Follows after b' i' e' made' k
    follows_on S = record { stands = S; room = F.room; size = F.size; tail = F.tail }

    found : length (take k after) ≡ k
    found = length-take-le k after F.room

    -- The report for a pattern w, of the comparisons made.
    abbrev report : List ℕ → Ending → Report
    report w x = record { ending = x; count = length made; noholes = at_noholes w made; holes = at_holes w made; written = k }

    -- The search stops here.
    reports : (w : List ℕ) (x : Ending) → search plan source cap (length before) ≡ record { ending = x; last = at b i e made (take k after) }
        → Reported w (search plan source cap (length before)) before after (report w x)
    unfolding report_of filled
    reports w x s = record { report = rw (s, found) refl; list = rw (s, found, ← F.tail) (sym (take-append-drop k after)) }

    pub reports_done : (w : List ℕ) → source.n < b + plan.m → Reported w (search plan source cap (length before)) before after (report w Done)
    reports_done w l = reports w Done (stands_done plan source cap (length before) R F.stands l)

    module _ (fits : b + plan.m ≤ source.n) where
      pub reports_spent : (w : List ℕ) → Due plan b i e → length made ≡ cap
          → Reported w (search plan source cap (length before)) before after (report w (Spent b))
      reports_spent w d l = reports w (Spent b) (stands_spent plan source cap (length before) R F.stands fits d l)

      module _ (established : Established plan b i e) where
        pub reports_full : (w : List ℕ) → k ≡ length after
            → Reported w (search plan source cap (length before)) before after (report w (Full b))
        reports_full w l = reports w (Full b) (stands_full plan source cap (length before) R F.stands fits established (omega (arith, found, F.size)))

        pub follows_listed : (k ≡ length after → ⊥)
            → Follows (set after k b) (b + plan.shift plan.m) (plan.next plan.m) (edge_after plan plan.m b e) made (k + 1)
        follows_listed l =
            let g : k < length after = omega (arith, F.room) in
            record {
              stands = rw (add-one k, take-suc-set after k b g)
                  (stands_listed plan source cap (length before) R F.stands fits established (omega (arith, found, F.size)));
              room = rw (length-set after k b) (omega arith);
              size = length-set after k b ∙ F.size;
              tail = drop-set-lt (k + 1) after k b (omega arith) ∙ sym (drop-drop 1 k after) ∙ ap (drop 1) F.tail ∙ drop-drop 1 k before;
            }
