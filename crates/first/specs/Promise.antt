-- The promises in the words of document 02, C-12.
use Rattle.std.specs.Prelude.{ℕ, ◌<◌, ◌≡◌, List, [], ◌∷◌, ◌++◌, length, MatchOption}
use Rattle.classes.specs.Classes.{OccursBy}
use Rattle.rules.specs.Occurs.{CoversNo}
use Rattle.rules.specs.Rules.{Compared, State, go, text_source, listed, turn, rest}
use Rattle.rules.specs.Colussi.{colussi_plan, colussi}
use Rattle.rules.specs.Stopped.{stopped}
use Rattle.rules.specs.Promise.{Ceiling}
use Rattle.rules.specs.declared.Ending.TheVariants.{Done, Full}
use Rattle.first.specs.declared.FirstAnswer.{FirstAnswer}

-- What holds of a position and its count, and what of the count where the pattern is absent.
abbrev pub AtOrAbsent : (ℕ → ℕ → Type 0) → (ℕ → Type 0) → FirstAnswer → Type 0
AtOrAbsent P Q r = MatchOption r.position (Q r.count) (λ b. P b r.count)

-- A search in Colussi's order with a cap and a list of a size, beside the state s in which the search that stops has ended.
module _ (w t : List ℕ) (cap size : ℕ) (s : State) where
  -- Position b is the first entry of its list. It goes by s, and there it lists b: what was counted is its count at that moment, and its list
  -- of comparisons begins with exactly those made by then. In the list of a state the latest stand first.
  pub record FirstEntry (b count : ℕ) : Type 0 where
    pub first : (more : List ℕ) × ((colussi w t cap size).last.found ≡ b ∷ more)
    pub goes_by : rest (colussi_plan w) (text_source w t) cap size s ≡ colussi w t cap size
    pub lists : turn (colussi_plan w) (text_source w t) cap size s ≡ go (listed (colussi_plan w) s)
    pub window : s.window ≡ b
    pub counted : length s.made ≡ count
    pub begins : (later : List Compared) × ((colussi w t cap size).last.made ≡ later ++ s.made)

  -- Its list is empty, and what was counted is its count at its end. Its comparisons are exactly those.
  pub record NoEntry (count : ℕ) : Type 0 where
    pub none : (colussi w t cap size).last.found ≡ []
    pub counted : length (colussi w t cap size).last.made ≡ count
    pub same : (colussi w t cap size).last.made ≡ s.made

-- The answer equals the first entry of the full search's list, "absent" exactly where that list is empty; and the count is the full search's
-- count at that moment, for "absent" at its end. The full search is any that runs to its end, whatever its cap and its list.
abbrev pub FirstOfFull : List ℕ → List ℕ → FirstAnswer → Type 0
FirstOfFull w t r = (cap size : ℕ) → (colussi w t cap size).ending ≡ Done
    → AtOrAbsent (FirstEntry w t cap size (stopped w t).last) (NoEntry w t cap size (stopped w t).last) r

-- In terms of bytes, of which two are equal when their classes are: the bytes w occur in the text t at b and not before, or nowhere.
abbrev pub FirstInBytes : List ℕ → List ℕ → List ℕ → FirstAnswer → Type 0
FirstInBytes classes w t = AtOrAbsent
    (λ b count. OccursBy classes w t b × ((x : ℕ) → x < b → OccursBy classes w t x → ⊥))
    (λ count. (x : ℕ) → OccursBy classes w t x → ⊥)

-- Demand 3, of a pattern of m bytes and a text of n: stopped at its first position a search is cut off there, and where it answers "absent" it
-- is run to its end.
abbrev pub FirstUnderCeiling : ℕ → ℕ → FirstAnswer → Type 0
FirstUnderCeiling m n = AtOrAbsent (λ b count. Ceiling m n (Full b) count) (λ count. Ceiling m n Done count)

-- Document 02, C-13: the occurrence, of m bytes, covers no byte 0 of the text t.
abbrev pub FirstCoversNoZero : ℕ → List ℕ → FirstAnswer → Type 0
FirstCoversNoZero m t = AtOrAbsent (λ b count. CoversNo 0 m t b) (λ count. Unit {0})
