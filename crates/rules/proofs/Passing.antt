-- How a search by the rules passes from state to state, for code that follows it. Assumes nothing.
use Prim.Native.Nat.{ℕ, suc, ◌+◌, ◌≤◌}
use mathlib.Core.Path.{◌≡◌, refl, ◌∙◌}
use mathlib.Core.Bool.{true, false}
use mathlib.Core.List.{List, ◌∷◌}
use lib.ListN.{length}
use Rattle.rules.specs.Rules.{Plan, Source, Compared, edge_after, leave, compared, matched, missed}
use Rattle.rules.specs.Internal.Passing.{Due, at, one, Passes}
use Rattle.rules.proofs.Rules.{Moving, turn_matched, turn_missed, rest_goes_on}

module _ (plan : Plan) (source : Source) (cap : ℕ) where
  pub passes_nothing : (b i e : ℕ) (made : List Compared) → Passes plan source cap b i e made b i e made
  passes_nothing b i e made = record { same = λ size found. refl }

  pub passes_on : {b i e b' i' e' b'' i'' e'' : ℕ} {made made' made'' : List Compared}
      → Passes plan source cap b i e made b' i' e' made' → Passes plan source cap b' i' e' made' b'' i'' e'' made''
      → Passes plan source cap b i e made b'' i'' e'' made''
  passes_on P Q = record { same = λ size found. P.same size found ∙ Q.same size found }

  -- One comparison.
  module _ (moving : Moving plan) (b i e : ℕ) (made : List Compared) (fits : b + plan.m ≤ source.n) (due : Due plan b i e)
      (more : length made ≡ cap → ⊥) where
    pub passes_matched : source.agree b (plan.place i) (length made) ≡ true → Passes plan source cap b i e made b (suc i) e (one plan b i true ∷ made)
    unfolding matched compared
    passes_matched q = record {
      same = λ size found. rest_goes_on plan source moving cap size (at b i e made found) _
          (turn_matched plan source cap size (at b i e made found) fits due more q);
    }

    pub passes_missed : source.agree b (plan.place i) (length made) ≡ false
        → Passes plan source cap b i e made (b + plan.shift i) (plan.next i) (edge_after plan i b e) (one plan b i false ∷ made)
    unfolding missed leave compared
    passes_missed q = record {
      same = λ size found. rest_goes_on plan source moving cap size (at b i e made found) _
          (turn_missed plan source cap size (at b i e made found) fits due more q);
    }
