-- How a search stands, and how it passes from one state to another.
use Rattle.std.specs.Prelude.{ℕ, ◌+◌, ◌≤◌, ◌<◌, ◌≡◌, ◌⊎◌, Bool, List}
use Rattle.words.specs.Tables.{letter}
use Rattle.rules.specs.Rules.{Plan, Source, Compared, State, rest, search}

-- Rule 1 applies at rank i of window b, with the known edge e.
abbrev pub Established : Plan → ℕ → ℕ → ℕ → Type 0
Established plan b i e = (plan.m ≤ i) ⊎ (b + plan.place i < e)

-- Rule 2 applies there: a comparison is due.
pub record Due (plan : Plan) (b i e : ℕ) : Type 0 where
  pub rank : i < plan.m
  pub beyond : e ≤ b + plan.place i

-- The letters compared there agree.
abbrev pub Agree : Plan → List ℕ → List ℕ → ℕ → ℕ → Type 0
Agree plan w t b i = letter w (plan.place i) ≡ letter t (b + plan.place i)

-- A state by its parts.
abbrev pub at : ℕ → ℕ → ℕ → List Compared → List ℕ → State
at b i e made found = record { window = b; rank = i; edge = e; made = made; found = found }

-- The comparison that rule 2 makes at rank i of window b, with its answer.
abbrev pub one : Plan → ℕ → ℕ → Bool → Compared
one plan b i equal = record { window = b; place = plan.place i; equal = equal }

-- A search goes by state s: what is left of it from there is the whole.
abbrev pub Visits : Plan → Source → ℕ → ℕ → State → Type 0
Visits plan source cap size s = rest plan source cap size s ≡ search plan source cap size

-- The search passes from window b, rank i, edge e and the comparisons made to the second four, whatever positions it has found: the rest of
-- the search is the same from both.
pub record Passes (plan : Plan) (source : Source) (cap b i e : ℕ) (made : List Compared) (b' i' e' : ℕ) (made' : List Compared) : Type 0 where
  pub same : (size : ℕ) (found : List ℕ)
      → rest plan source cap size (at b i e made found) ≡ rest plan source cap size (at b' i' e' made' found)
