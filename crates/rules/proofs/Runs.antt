-- Runs of the rules: what a run keeps of its past, what holds where it ends, a run with a larger cap or list beside it, and two that turn
-- alike. Assumes nothing.
use Prim.Native.Nat.{ℕ, suc, ◌+◌, ◌≤◌, ◌<◌}
use mathlib.Core.Path.{◌≡◌, refl, sym, ap, ◌∙◌}
use mathlib.Core.Logic.{⊎_elim}
use mathlib.Core.Bool.{Bool, true, false}
use mathlib.Core.List.{List, [], ◌∷◌, ◌++◌, append_assoc, append-nil}
use native.Mathlib.Omega.{arith}
use lib.ListN.{length, length-append}
use Rattle.words.proofs.Cases.{less_or, true_or_false}
use Rattle.rules.specs.Rules.{Plan, Source, Compared, State, Turn, stop, go, leave, listed, compared, matched, missed, turn, rest, search}
use Rattle.rules.specs.Answered.{Answered}
use Rattle.rules.specs.Internal.Passing.{Established, Due, one, Visits}
use Rattle.rules.specs.declared.Ending.{Ending}
use Rattle.rules.specs.declared.Ending.TheVariants.{Done, Spent, Full}
use Rattle.rules.proofs.Turns.{Keeps}
use Rattle.rules.proofs.Rules.{Moving, Rule, past, fills, lists, spends, matches, misses, rule, turn_done, turn_full, turn_listed, turn_spent, turn_matched, turn_missed, rest_goes_on, rest_ends, rest_keeps, search_keeps}

-- ---- What a run has made and found it keeps

-- The comparisons made and the positions found by state s are the earliest of those at r.
pub record Later (s r : State) : Type 0 where
  pub made : (more : List Compared) × (r.made ≡ more ++ s.made)
  pub found : (more : List ℕ) × (r.found ≡ s.found ++ more)

module _ (plan : Plan) (source : Source) (moving : Moving plan) (cap size : ℕ) where
  later_turn : (s r : State) → Later s r → Keeps (Later s) (λ e r. Later s r) r (turn plan source cap size r)
  unfolding matched compared missed listed leave
  later_turn s r L = at (turn plan source cap size r) (rule plan source cap size r)
    where
      at : (T : Turn) → Rule plan source cap size r T → Keeps (Later s) (λ e r. Later s r) r T
      at _ (past l) = L
      at _ (fills fits k l) = L
      at _ (lists fits k l) = record {
        made = L.made;
        found = (L.found.0 ++ (r.window ∷ []), rw L.found.1 (append_assoc s.found L.found.0 (r.window ∷ [])));
      }
      at _ (spends fits d e) = L
      at _ (matches fits d e q) = record { made = (one plan r.window r.rank true ∷ L.made.0, rw L.made.1 refl); found = L.found }
      at _ (misses fits d e q) = record { made = (one plan r.window r.rank false ∷ L.made.0, rw L.made.1 refl); found = L.found }

  pub rest_later : (s : State) → Later s (rest plan source cap size s).last
  rest_later s = rest_keeps plan source moving cap size (Later s) (λ e r. Later s r) (later_turn s) s
      record { made = ([], refl); found = ([], sym (append-nil s.found)) }

  -- What a run has made and found at a state that it goes by it has at its end.
  pub visits_later : (s : State) → Visits plan source cap size s → Later s (search plan source cap size).last
  visits_later s v = rw v at (rest_later s)

  -- What it has after a turn.
  pub turn_later : (s r : State) → Visits plan source cap size s → turn plan source cap size s ≡ go r → Later r (search plan source cap size).last
  turn_later s r v q = visits_later r (sym (rest_goes_on plan source moving cap size s r q) ∙ v)

-- ---- Where a run ends

module _ (plan : Plan) (source : Source) (cap size : ℕ) where
  -- Past the last window.
  pub record DoneAt (s : State) : Type 0 where
    pub past : source.n < s.window + plan.m
    pub capped : length s.made ≤ cap
    pub room : length s.found ≤ size

  -- In window b, where a comparison is due and as many are made as the cap allows.
  pub record SpentAt (b : ℕ) (s : State) : Type 0 where
    pub window : s.window ≡ b
    pub fits : s.window + plan.m ≤ source.n
    pub due : Due plan s.window s.rank s.edge
    pub spent : length s.made ≡ cap
    pub room : length s.found ≤ size

  -- In window b, where an occurrence is established and as many are found as the list has entries.
  pub record FullAt (b : ℕ) (s : State) : Type 0 where
    pub window : s.window ≡ b
    pub fits : s.window + plan.m ≤ source.n
    pub established : Established plan s.window s.rank s.edge
    pub capped : length s.made ≤ cap
    pub full : length s.found ≡ size

  abbrev pub EndsAt : Ending → State → Type 0
  EndsAt Done s = DoneAt s
  EndsAt (Spent b) s = SpentAt b s
  EndsAt (Full b) s = FullAt b s

  -- On the way the limits are kept.
  pub record Within (s : State) : Type 0 where
    pub capped : length s.made ≤ cap
    pub room : length s.found ≤ size

  within_turn : (s : State) → Within s → Keeps Within EndsAt s (turn plan source cap size s)
  unfolding matched compared missed listed leave
  within_turn s W = at (turn plan source cap size s) (rule plan source cap size s)
    where
      at : (T : Turn) → Rule plan source cap size s T → Keeps Within EndsAt s T
      at _ (past l) = record { past = l; capped = W.capped; room = W.room }
      at _ (fills fits k l) = record { window = refl; fits = fits; established = k; capped = W.capped; full = omega (arith, W.room) }
      at _ (lists fits k l) = record { capped = W.capped; room = omega (arith, length-append s.found (s.window ∷ [])) }
      at _ (spends fits d e) = record { window = refl; fits = fits; due = d; spent = e; room = W.room }
      at _ (matches fits d e q) = record { capped = omega (arith, W.capped); room = W.room }
      at _ (misses fits d e q) = record { capped = omega (arith, W.capped); room = W.room }

  pub search_ends : Moving plan → EndsAt (search plan source cap size).ending (search plan source cap size).last
  search_ends moving = search_keeps plan source moving cap size Within EndsAt within_turn record { capped = omega arith; room = omega arith }

  ends_capped : (e : Ending) (s : State) → EndsAt e s → length s.made ≤ cap
  ends_capped Done s E = E.capped
  ends_capped (Spent b) s E = omega (arith, E.spent)
  ends_capped (Full b) s E = E.capped

  pub search_capped : Moving plan → length (search plan source cap size).last.made ≤ cap
  search_capped moving = ends_capped (search plan source cap size).ending (search plan source cap size).last (search_ends moving)

-- ---- A run with a larger cap, or a larger list

module _ (plan : Plan) (source : Source) (moving : Moving plan) (cap size : ℕ) where
  module _ (cap' size' : ℕ) (caps : cap ≤ cap') (sizes : size ≤ size') where
    abbrev Both : State → Type 0
    Both s = Within plan source cap size s × Visits plan source cap' size' s

    both_turn : (s : State) → Both s → Keeps Both (λ e s. Visits plan source cap' size' s) s (turn plan source cap size s)
    unfolding matched compared missed listed leave
    both_turn s B = at (turn plan source cap size s) (rule plan source cap size s) (within_turn plan source cap size s B.0)
      where
        on : (r : State) → turn plan source cap' size' s ≡ go r → Visits plan source cap' size' r
        on r q = sym (rest_goes_on plan source moving cap' size' s r q) ∙ B.1

        at : (T : Turn) → Rule plan source cap size s T → Keeps (Within plan source cap size) (EndsAt plan source cap size) s T
            → Keeps Both (λ e s. Visits plan source cap' size' s) s T
        at _ (past l) W = B.1
        at _ (fills fits k l) W = B.1
        at _ (lists fits k l) W = (W, on _ (turn_listed plan source cap' size' s fits k (omega arith)))
        at _ (spends fits d e) W = B.1
        at _ (matches fits d e q) W = (W, on _ (turn_matched plan source cap' size' s fits d (λ z. omega (arith, W.capped)) q))
        at _ (misses fits d e q) W = (W, on _ (turn_missed plan source cap' size' s fits d (λ z. omega (arith, W.capped)) q))

    -- It goes by every state of the smaller one, the last included.
    pub larger_visits : Visits plan source cap' size' (search plan source cap size).last
    larger_visits = search_keeps plan source moving cap size Both (λ e s. Visits plan source cap' size' s) both_turn
        (record { capped = omega arith; room = omega arith }, unfold search in refl)

  -- A run that is not spent is the same with a larger cap.
  pub larger_cap : (cap' : ℕ) → cap ≤ cap' → ((b : ℕ) → (search plan source cap size).ending ≡ Spent b → ⊥)
      → search plan source cap' size ≡ search plan source cap size
  larger_cap cap' l unspent =
      at (search plan source cap size).ending (search plan source cap size).last (search_ends plan source cap size moving) unspent
      (larger_visits cap' size l (omega arith))
    where
      at : (e : Ending) (s : State) → EndsAt plan source cap size e s → ((b : ℕ) → e ≡ Spent b → ⊥) → Visits plan source cap' size s
          → search plan source cap' size ≡ record { ending = e; last = s }
      at Done s E n v = sym v ∙ rest_ends plan source moving cap' size s Done (turn_done plan source cap' size s E.past)
      at (Spent b) s E n v = absurd (n b refl)
      at (Full b) s E n v = sym v ∙ rest_ends plan source moving cap' size s (Full b)
          (turn_full plan source cap' size s E.fits E.established (omega (arith, E.full)) ∙ ap (λ x. stop (Full x)) E.window)

  -- How a run ended, against one that differs in a larger list: alike, unless its list was full; the larger lists the window and goes on.
  abbrev pub UntilFull : ℕ → Ending → State → Type 0
  UntilFull size' Done s = search plan source cap size' ≡ record { ending = Done; last = s }
  UntilFull size' (Spent b) s = search plan source cap size' ≡ record { ending = Spent b; last = s }
  UntilFull size' (Full b) s = Visits plan source cap size' s × (turn plan source cap size' s ≡ go (listed plan s)) × (s.window ≡ b)

  pub until_full : (size' : ℕ) → size < size' → UntilFull size' (search plan source cap size).ending (search plan source cap size).last
  until_full size' l = at (search plan source cap size).ending (search plan source cap size).last (search_ends plan source cap size moving)
      (larger_visits cap size' (omega arith) (omega arith))
    where
      at : (e : Ending) (s : State) → EndsAt plan source cap size e s → Visits plan source cap size' s → UntilFull size' e s
      at Done s E v = sym v ∙ rest_ends plan source moving cap size' s Done (turn_done plan source cap size' s E.past)
      at (Spent b) s E v = sym v ∙ rest_ends plan source moving cap size' s (Spent b)
          (turn_spent plan source cap size' s E.fits E.due E.spent ∙ ap (λ x. stop (Spent x)) E.window)
      at (Full b) s E v = (v, turn_listed plan source cap size' s E.fits E.established (omega (arith, E.full)), E.window)

  -- Where a run is spent a comparison is due: with a cap of one more, one more is made.
  pub spent_due : (b : ℕ) → (search plan source cap size).ending ≡ Spent b → length (search plan source (suc cap) size).last.made ≡ suc cap
  unfolding matched missed compared leave
  spent_due b e = at (search plan source cap size).last (rw e at (search_ends plan source cap size moving))
      (larger_visits (suc cap) size (omega arith) (omega arith))
    where
      one_more : (s r : State) (x : Compared) → length s.made ≡ cap → r.made ≡ x ∷ s.made → Visits plan source (suc cap) size s
          → turn plan source (suc cap) size s ≡ go r → length (search plan source (suc cap) size).last.made ≡ suc cap
      one_more s r x c is v q =
          let L = (turn_later plan source moving (suc cap) size s r v q).made in
          omega (arith, ap length L.1, length-append L.0 r.made, ap length is, search_capped plan source (suc cap) size moving)

      at : (s : State) → SpentAt plan source cap size b s → Visits plan source (suc cap) size s
          → length (search plan source (suc cap) size).last.made ≡ suc cap
      at s E v = ⊎_elim
          (λ q. one_more s _ (one plan s.window s.rank true) E.spent refl v
          (turn_matched plan source (suc cap) size s E.fits E.due (λ z. omega (arith, E.spent)) q))
          (λ q. one_more s _ (one plan s.window s.rank false) E.spent refl v
          (turn_missed plan source (suc cap) size s E.fits E.due (λ z. omega (arith, E.spent)) q))
          (true_or_false (source.agree s.window (plan.place s.rank) (length s.made)))

-- A run is the same with a cap that is the number of its comparisons.
module _ (plan : Plan) (source : Source) (moving : Moving plan) (cap size : ℕ) where
  abbrev made : ℕ
  made = length (search plan source cap size).last.made

  -- Were it spent then, it would make one more with a cap of one more, and so would this run.
  unspent : made < cap → (b : ℕ) → (search plan source made size).ending ≡ Spent b → ⊥
  unspent l b e =
      let more : length (search plan source (suc made) size).last.made ≡ suc made = spent_due plan source moving made size b e in
      let L = (visits_later plan source moving cap size (search plan source (suc made) size).last
      (larger_visits plan source moving (suc made) size cap size l (omega arith))).made in
      omega (arith, ap length L.1, length-append L.0 (search plan source (suc made) size).last.made)

  pub capped_at_count : search plan source made size ≡ search plan source cap size
  capped_at_count = ⊎_elim
      (λ (l : made < cap). sym (larger_cap plan source moving made size cap (omega arith) (unspent l)))
      (λ (l : cap ≤ made). ap (λ c. search plan source c size) (omega (arith, search_capped plan source cap size moving)))
      (less_or made cap)

-- ---- Runs that turn alike

-- Two runs, by whatever plans, sources, caps and lists, that turn alike wherever the first goes: they are the same run.
module _ (plan plan' : Plan) (source source' : Source) (moving : Moving plan) (moving' : Moving plan') (cap cap' size size' : ℕ) where
  abbrev Both-visit : State → Type 0
  Both-visit s = Visits plan source cap size s × Visits plan' source' cap' size' s

  pub same_run : ((s : State) → Visits plan source cap size s → turn plan source cap size s ≡ turn plan' source' cap' size' s)
      → search plan' source' cap' size' ≡ search plan source cap size
  same_run alike = search_keeps plan source moving cap size Both-visit (λ e s. search plan' source' cap' size' ≡ record { ending = e; last = s })
      (λ s B. at s (turn plan source cap size s) B refl) (unfold search in refl, unfold search in refl)
    where
      at : (s : State) (T : Turn) → Both-visit s → turn plan source cap size s ≡ T
          → Keeps Both-visit (λ e s. search plan' source' cap' size' ≡ record { ending = e; last = s }) s T
      at s (stop e) B q = sym B.1 ∙ rest_ends plan' source' moving' cap' size' s e (sym (alike s B.0) ∙ q)
      at s (go r) B q = (
        sym (rest_goes_on plan source moving cap size s r q) ∙ B.0,
        sym (rest_goes_on plan' source' moving' cap' size' s r (sym (alike s B.0) ∙ q)) ∙ B.1,
      )

answered_at : (source : Source) (x : Compared) (more made : List Compared) → Answered source (more ++ (x ∷ made))
    → source.agree x.window x.place (length made) ≡ x.equal
answered_at source x [] made h = h.0
answered_at source x (y ∷ more) made h = answered_at source x more made h.1

-- Another source of as many letters, that gives the same answers to the comparisons made: the same run.
module _ (plan : Plan) (source source' : Source) (moving : Moving plan) (cap size : ℕ) (same-n : source.n ≡ source'.n)
    (so : Answered source' (search plan source cap size).last.made) where
  same_answer : (s r : State) (a : Bool) → r.made ≡ one plan s.window s.rank a ∷ s.made → Visits plan source cap size s
      → turn plan source cap size s ≡ go r → source'.agree s.window (plan.place s.rank) (length s.made) ≡ a
  same_answer s r a is v q =
      let L = (turn_later plan source moving cap size s r v q).made in
      answered_at source' (one plan s.window s.rank a) L.0 s.made (rw (L.1 ∙ ap (λ l. L.0 ++ l) is) at so)

  pub same_answers : search plan source' cap size ≡ search plan source cap size
  unfolding matched missed compared leave
  same_answers = same_run plan plan source source' moving moving cap cap size size
      λ s v. at s v (turn plan source cap size s) (rule plan source cap size s) refl
    where
      at : (s : State) → Visits plan source cap size s → (T : Turn) → Rule plan source cap size s T → turn plan source cap size s ≡ T
          → T ≡ turn plan source' cap size s
      at s v _ (past l) q = sym (turn_done plan source' cap size s (omega (arith, same-n)))
      at s v _ (fills fits k l) q = sym (turn_full plan source' cap size s (omega (arith, same-n)) k l)
      at s v _ (lists fits k l) q = sym (turn_listed plan source' cap size s (omega (arith, same-n)) k l)
      at s v _ (spends fits d e) q = sym (turn_spent plan source' cap size s (omega (arith, same-n)) d e)
      at s v _ (matches fits d e a) q =
          sym (turn_matched plan source' cap size s (omega (arith, same-n)) d e (same_answer s _ true refl v q))
      at s v _ (misses fits d e a) q =
          sym (turn_missed plan source' cap size s (omega (arith, same-n)) d e (same_answer s _ false refl v q))

-- The comparisons of a run have the answers that its own source gives to them.
module _ (plan : Plan) (source : Source) (moving : Moving plan) (cap size : ℕ) where
  answered_turn : (s : State) → Answered source s.made
      → Keeps (λ r. Answered source r.made) (λ e r. Answered source r.made) s (turn plan source cap size s)
  unfolding matched missed compared listed leave
  answered_turn s A = at (turn plan source cap size s) (rule plan source cap size s)
    where
      at : (T : Turn) → Rule plan source cap size s T → Keeps (λ r. Answered source r.made) (λ e r. Answered source r.made) s T
      at _ (past l) = A
      at _ (fills fits k l) = A
      at _ (lists fits k l) = A
      at _ (spends fits d e) = A
      at _ (matches fits d e q) = (q, A)
      at _ (misses fits d e q) = (q, A)

  pub search_answered : Answered source (search plan source cap size).last.made
  search_answered = search_keeps plan source moving cap size (λ r. Answered source r.made) (λ e r. Answered source r.made) answered_turn tt
