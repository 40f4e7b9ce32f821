-- What any search by the rules keeps. A method is an invariant of the state that makes rule 1 right and every shift safe, with a bound on
-- the count in each window; from that follow the positions and the bound, however the search ends. Assumes nothing.
use Prim.Native.Nat.{ℕ, suc, ◌+◌, ◌≤◌, ◌<◌}
use mathlib.Core.Path.{◌≡◌, refl, sym, ap, ◌∙◌}
use mathlib.Core.List.{List, [], ◌∷◌, ◌++◌}
use native.Mathlib.Omega.{arith}
use lib.ListN.{length}
use borrow.Author.Tests.{eqb-true, eqb-false}
use Rattle.rules.specs.Rules.{Plan, text_source, State, start, Turn, edge_after, leave, listed, compared, matched, missed, turn, End, search, Search}
use Rattle.rules.specs.Occurs.{Occurs, occurrences_below}
use Rattle.rules.specs.Promise.{accounted, Lists, OneMore, CutOff}
use Rattle.rules.specs.declared.Ending.{Ending}
use Rattle.rules.specs.declared.Ending.TheVariants.{Done, Spent, Full}
use Rattle.rules.specs.Internal.Passing.{Established, Due, Agree}
use Rattle.rules.proofs.Turns.{Keeps}
use Rattle.rules.proofs.Rules.{Rule, past, fills, lists, spends, matches, misses, rule, Moving, search_keeps}
use Rattle.rules.proofs.Runs.{EndsAt, search_ends, spent_due}
use Rattle.rules.proofs.Occurs.{None, below_none, below_one, below_all, accounted_lists}

-- Once window b is left with rank r: the invariant holds in the next window, and no occurrence lies between.
pub record Left (plan : Plan) (w t : List ℕ) (Holds : ℕ → ℕ → ℕ → ℕ → Type 0) (first b r e c : ℕ) : Type 0 where
  pub holds : Holds (b + plan.shift r) (plan.next r) (edge_after plan r b e) c
  pub none : None w t first (b + plan.shift r)

-- Holds b i e c: what is known in window b at rank i with the known edge e and the count c.
-- Under b c: the bound on the count in window b.
pub record Method (plan : Plan) (w t : List ℕ) (Holds : ℕ → ℕ → ℕ → ℕ → Type 0) (Under : ℕ → ℕ → Type 0) : Type 0 where
  pub letters : plan.m ≡ length w
  pub some : 1 ≤ length w
  pub moving : Moving plan
  pub begins : Holds 0 0 0 0
  pub under : (b i e c : ℕ) → Holds b i e c → Under b c
  pub occurs : (b i e c : ℕ) → Holds b i e c → b + length w ≤ length t → Established plan b i e → Occurs w t b
  pub listed : (b i e c : ℕ) → Holds b i e c → Occurs w t b → Left plan w t Holds (suc b) b plan.m e c
  pub counted : (b i e c : ℕ) → Holds b i e c → Due plan b i e → Under b (suc c)
  pub matched : (b i e c : ℕ) → Holds b i e c → Due plan b i e → Agree plan w t b i → Holds b (suc i) e (suc c)
  pub missed : (b i e c : ℕ) → Holds b i e c → Due plan b i e → (Agree plan w t b i → ⊥) → Left plan w t Holds b b i e (suc c)

module _ (w t : List ℕ) (Under : ℕ → ℕ → Type 0) where
  -- A window of the text bounds the count; with no window nothing is compared.
  pub record Bounded (c : ℕ) : Type 0 where
    pub window : length w ≤ length t → (b : ℕ) × (b + length w ≤ length t) × Under b c
    pub idle : length t < length w → c ≡ 0

  -- The bound in the window where the search ended.
  abbrev pub Bound : Ending → ℕ → Type 0
  Bound Done c = Bounded c
  Bound (Spent b) c = Under b c
  Bound (Full b) c = Under b c

  -- The window where it was full is an occurrence.
  abbrev AtFull : Ending → Type 0
  AtFull Done = Unit {0}
  AtFull (Spent b) = Unit {0}
  AtFull (Full b) = Occurs w t b

  pub record Kept-at-end (e : Ending) (s : State) : Type 0 where
    pub exactly : s.found ≡ accounted w t e
    pub at_full : AtFull e
    pub bound : Bound e (length s.made)

module _ (plan : Plan) (w t : List ℕ) (Holds : ℕ → ℕ → ℕ → ℕ → Type 0) (Under : ℕ → ℕ → Type 0)
    (M : Method plan w t Holds Under) (cap size : ℕ) where
  record Kept (b i e c : ℕ) (positions : List ℕ) : Type 0 where
    pub holds : Holds b i e c
    pub found : positions ≡ occurrences_below b w t
    pub bounded : Bounded w t Under c

  Inv : State → Type 0
  Inv s = Kept s.window s.rank s.edge (length s.made) s.found

  module _ (b i e c : ℕ) (f : List ℕ) (K : Kept b i e c f) (fits : b + plan.m ≤ length t) where
    occurs_here : Established plan b i e → Occurs w t b
    occurs_here k = M.occurs b i e c K.holds (omega (arith, M.letters)) k

    after_listed : Established plan b i e → Kept (b + plan.shift plan.m) (plan.next plan.m) (edge_after plan plan.m b e) c (f ++ (b ∷ []))
    after_listed k =
        let L = M.listed b i e c K.holds (occurs_here k) in
        record {
          holds = L.holds;
          found = ap (λ l. l ++ (b ∷ [])) K.found
              ∙ sym (below_one w t b (b + plan.shift plan.m) (omega (arith, M.moving plan.m (omega arith))) (occurs_here k) L.none);
          bounded = K.bounded;
        }

    module _ (d : Due plan b i e) where
      one_more : Bounded w t Under (suc c)
      one_more = record {
        window = λ l. (b, omega (arith, M.letters), M.counted b i e c K.holds d);
        idle = λ l. absurd (omega (arith, M.letters));
      }

      after_matched : Agree plan w t b i → Kept b (suc i) e (suc c) f
      after_matched q = record { holds = M.matched b i e c K.holds d q; found = K.found; bounded = one_more }

      after_missed : (Agree plan w t b i → ⊥) → Kept (b + plan.shift i) (plan.next i) (edge_after plan i b e) (suc c) f
      after_missed q =
          let L = M.missed b i e c K.holds d q in
          record {
            holds = L.holds;
            found = K.found ∙ sym (below_none w t b (b + plan.shift i) (omega arith) L.none);
            bounded = one_more;
          }

  keeps : (s : State) → Inv s → Keeps Inv (Kept-at-end w t Under) s (turn plan (text_source w t) cap size s)
  unfolding Inv listed matched missed compared leave
  keeps s K = at (turn plan (text_source w t) cap size s) (rule plan (text_source w t) cap size s)
    where
      at : (T : Turn) → Rule plan (text_source w t) cap size s T → Keeps Inv (Kept-at-end w t Under) s T
      at _ (past l) = record {
        exactly = K.found ∙ below_all w t s.window M.some (omega (arith, M.letters));
        at_full = tt;
        bound = K.bounded;
      }
      at _ (fills fits k l) = record { exactly = K.found; at_full = occurs_here _ _ _ _ _ K fits k; bound = M.under _ _ _ _ K.holds }
      at _ (lists fits k l) = after_listed _ _ _ _ _ K fits k
      at _ (spends fits d c) = record { exactly = K.found; at_full = tt; bound = M.under _ _ _ _ K.holds }
      at _ (matches fits d c q) = after_matched _ _ _ _ _ K fits d (eqb-true _ _ q)
      at _ (misses fits d c q) = after_missed _ _ _ _ _ K fits d (eqb-false _ _ q)

  begins : Inv start
  unfolding Inv occurrences_below
  begins = record {
    holds = M.begins;
    found = refl;
    bounded = record { window = λ l. (0, omega arith, M.under 0 0 0 0 M.begins); idle = λ l. refl };
  }

  pub kept : Kept-at-end w t Under (search plan (text_source w t) cap size).ending (search plan (text_source w t) cap size).last
  kept = search_keeps plan (text_source w t) M.moving cap size Inv (Kept-at-end w t Under) keeps begins

-- ---- The promises

-- Demand 2 of a search, for a pattern, a text, a cap and a list of a size.
pub record Finds (search : Search) (w t : List ℕ) (cap size : ℕ) : Type 0 where
  pub exactly : (search w t cap size).last.found ≡ accounted w t (search w t cap size).ending
  pub lists : Lists w t (search w t cap size).ending (search w t cap size).last.found
  pub cut_off : CutOff search w t cap size (search w t cap size).ending
      (length (search w t cap size).last.made) (length (search w t cap size).last.found)

module _ (plan : Plan) (w t : List ℕ) (Holds : ℕ → ℕ → ℕ → ℕ → Type 0) (Under : ℕ → ℕ → Type 0)
    (M : Method plan w t Holds Under) (by : Search) (is : (cap size : ℕ) → by w t cap size ≡ search plan (text_source w t) cap size)
    (cap size : ℕ) where
  due : (b : ℕ) → (search plan (text_source w t) cap size).ending ≡ Spent b → OneMore by w t cap size
  due b e = ap (λ (E : End). length E.last.made) (is (suc cap) size) ∙ spent_due plan (text_source w t) M.moving cap size b e

  cut : (e : Ending) (s : State) → EndsAt plan (text_source w t) cap size e s → Kept-at-end w t Under e s
      → ((b : ℕ) → e ≡ Spent b → OneMore by w t cap size) → CutOff by w t cap size e (length s.made) (length s.found)
  cut Done s E K due = (E.capped, E.room)
  cut (Spent b) s E K due = (omega (arith, E.fits, E.window, M.letters), due b refl, E.spent, E.room)
  cut (Full b) s E K due = (K.at_full, E.capped, E.full)

  pub finds : Finds by w t cap size
  finds =
      let K = kept plan w t Holds Under M cap size in
      record {
        exactly = rw (is cap size) K.exactly;
        lists = rw (is cap size) (rw K.exactly (accounted_lists w t (search plan (text_source w t) cap size).ending));
        cut_off = rw (is cap size) (cut (search plan (text_source w t) cap size).ending (search plan (text_source w t) cap size).last
            (search_ends plan (text_source w t) cap size M.moving) K due);
      }
