-- A search, rule by rule, as document 01 gives it ("The search, rule by rule"). One set of rules serves every order of comparison and whoever
-- answers the comparisons: orders differ in the plan, a text and a record of its answers in the source.
use Prim.Native.Nat.{ℕ, zero, suc, ◌+◌, ◌-◌, ◌*◌}
use Rattle.std.specs.Prelude.{Bool, ◌||◌, List, [], ◌∷◌, ◌++◌, ltb, leb, eqb, length}
use Rattle.std.proofs.Math.Bool.{true, false}
use Rattle.words.specs.Tables.{letter}
use Rattle.rules.specs.declared.Ending.{Ending}
use Rattle.rules.specs.declared.Ending.TheVariants.{Done, Spent, Full}

-- What an order of comparison gives for a pattern of m letters: for each rank the place compared, and how far the window moves and with
-- which rank it goes on once it is left with that rank. All places of a window that is left with rank edge_from or later are known.
pub record Plan : Type 0 where
  pub m : ℕ
  pub place : ℕ → ℕ
  pub shift : ℕ → ℕ
  pub next : ℕ → ℕ
  pub edge_from : ℕ

-- What the rules learn of a text: that it has n letters, and by window, place of the pattern and number of comparisons made before, whether
-- the letters there agree.
pub record Source : Type 0 where
  pub n : ℕ
  pub agree : ℕ → ℕ → ℕ → Bool

-- The text t for the pattern w: its answers do not depend on what was compared before.
abbrev pub text_source : List ℕ → List ℕ → Source
text_source w t = record { n = length t; agree = λ b p c. eqb (letter w p) (letter t (b + p)) }

-- A comparison of the letter at a place of the pattern with the text's, in a window.
pub record Compared : Type 0 where
  pub window : ℕ
  pub place : ℕ
  pub equal : Bool

-- Document 01's state: window b, rank i, known edge e, and the count c as the length of the list of comparisons made, the latest
-- first; with the positions found, the latest last.
pub record State : Type 0 where
  pub window : ℕ
  pub rank : ℕ
  pub edge : ℕ
  pub made : List Compared
  pub found : List ℕ

abbrev pub start : State
start = record { window = 0; rank = 0; edge = 0; made = []; found = [] }

-- A turn ends the search, or goes on from another state.
pub data Turn : Type 0 where
  stop : Ending → Turn
  go : State → Turn

module _ (plan : Plan) where
  -- Rule 1: the rank is m, or the text at its place lies left of the known edge.
  unfoldable pub established : State → Bool
  established s = leb plan.m s.rank || ltb (s.window + plan.place s.rank) s.edge

  -- Rule 3: the known edge once window b is left with rank i.
  unfoldable pub edge_after : ℕ → ℕ → ℕ → ℕ
  edge_after i b e = elim (ltb i plan.edge_from) [ true ↦ e | false ↦ b + plan.m ]

  -- Rule 3: the window is left with rank i.
  unfoldable pub leave : ℕ → State → State
  unfolding edge_after
  leave i s = record {
    window = s.window + plan.shift i;
    rank = plan.next i;
    edge = edge_after i s.window s.edge;
    made = s.made;
    found = s.found;
  }

  -- Rule 1: the window is listed, and left with rank m.
  unfoldable pub listed : State → State
  unfolding leave
  listed s = leave plan.m record {
    window = s.window;
    rank = s.rank;
    edge = s.edge;
    made = s.made;
    found = s.found ++ (s.window ∷ []);
  }

  -- Rule 2: a comparison is made, and found equal or not.
  unfoldable pub compared : Bool → State → State
  compared equal s = record {
    window = s.window;
    rank = s.rank;
    edge = s.edge;
    made = record { window = s.window; place = plan.place s.rank; equal = equal } ∷ s.made;
    found = s.found;
  }

  -- Rule 2, equal: the rank grows by 1.
  unfoldable pub matched : State → State
  unfolding compared
  matched s = let r = compared true s in record {
    window = r.window;
    rank = suc r.rank;
    edge = r.edge;
    made = r.made;
    found = r.found;
  }

  -- Rule 2, unequal: the window is left with the rank.
  unfoldable pub missed : State → State
  unfolding compared leave
  missed s = leave s.rank (compared false s)

  -- An occurrence is established, with a list of a size for the positions: the search is full if the list has no free entry.
  unfoldable pub occurrence : ℕ → State → Turn
  unfolding listed
  occurrence size s = elim (ltb (length s.found) size) [ true ↦ go (listed s) | false ↦ stop (Full s.window) ]

  -- Rule 2: the letters at the rank's place agree.
  unfoldable pub agree : Source → State → Bool
  agree source s = source.agree s.window (plan.place s.rank) (length s.made)

  -- A comparison is due, with a cap on their number: the search is spent if the count equals the cap.
  unfoldable pub comparison : Source → ℕ → State → Turn
  unfolding agree matched missed
  comparison source cap s = elim (eqb (length s.made) cap) [
    | true ↦ stop (Spent s.window)
    | false ↦ go (elim (agree source s) [ true ↦ matched s | false ↦ missed s ])
  ]

  -- One turn, while b + m is at most n.
  unfoldable pub turn : Source → ℕ → ℕ → State → Turn
  unfolding established occurrence comparison
  turn source cap size s = elim (leb (s.window + plan.m) source.n) [
    | true ↦ elim (established s) [ true ↦ occurrence size s | false ↦ comparison source cap s ]
    | false ↦ stop Done
  ]

-- How a search ends, and its state then.
pub record End : Type 0 where
  pub ending : Ending
  pub last : State

-- At most so many turns.
unfoldable pub turns : (State → Turn) → ℕ → State → End
turns turn zero s = record { ending = Done; last = s }
turns turn (suc f) s = elim (turn s) [ stop e ↦ record { ending = e; last = s } | go r ↦ turns turn f r ]

-- The turns that can be left at rank i of window b: in each window to come one for each rank, and in this one for those not yet passed.
abbrev pub left : ℕ → ℕ → ℕ → ℕ → ℕ
left m n b i = (suc n - b) * suc m + (m - i)

-- All turns from a state. One more than can be left are enough, where every shift moves the window on: the rules end the search, and not
-- the number of turns (`search_stops`).
unfoldable pub rest : Plan → Source → ℕ → ℕ → State → End
unfolding turns turn
rest plan source cap size s = turns (turn plan source cap size) (suc (left plan.m source.n s.window s.rank)) s

-- The search: all turns from its start.
unfoldable pub search : Plan → Source → ℕ → ℕ → End
unfolding rest
search plan source cap size = rest plan source cap size start

-- The largest cap, 2^64 - 1.
abbrev pub no_cap : ℕ
no_cap = 18446744073709551615

-- A search by some order: of a pattern's letters, a text, a cap and a list of a size.
abbrev pub Search : Type 0
Search = List ℕ → List ℕ → ℕ → ℕ → End
