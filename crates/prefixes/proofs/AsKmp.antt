-- Until the first window past n - m the comparisons are those of a search by KMP, one for one. Assumes nothing.
use Prim.Native.Nat.{ℕ, ◌+◌, ◌-◌, ◌≤◌, ◌<◌}
use mathlib.Core.Path.{◌≡◌, refl, sym, ◌∙◌}
use mathlib.Core.Logic.{⊎_elim}
use mathlib.Core.List.{List, [], ◌∷◌}
use native.Mathlib.Omega.{arith}
use lib.ListN.{length}
use borrow.Author.Tests.{eqb-true, eqb-false}
use Rattle.words.proofs.Cases.{less_or}
use Rattle.rules.specs.Rules.{Compared, State, Turn, leave, listed, compared, matched, missed, text_source, turn}
use Rattle.rules.specs.Kmp.{kmp_shift, kmp_plan, kmp}
use Rattle.rules.specs.declared.Ending.{Ending}
use Rattle.rules.specs.declared.Ending.TheVariants.{Done, Spent, Full}
use Rattle.rules.proofs.Turns.{Keeps}
use Rattle.rules.proofs.Rules as rules
use Rattle.rules.proofs.KmpMethod.{kmp_shift_moves, edge_stays}
use Rattle.prefixes.specs.CarriedOn.{rest_on, carried_on}
use Rattle.prefixes.specs.Promise.{Every, AsKmp}
use Rattle.prefixes.specs.Internal.{in_window}
use Rattle.prefixes.proofs.Turns.{matched_turn, missed_turn, whole_turn, on_adds}
use Rattle.prefixes.proofs.Standing.{ends_with, onto}

every_weaker : {P Q : Compared → Type 0} → ((one : Compared) → P one → Q one) → (made : List Compared) → Every P made → Every Q made
every_weaker f [] E = tt
every_weaker f (one ∷ made) E = (f one E.0, every_weaker f made E.1)

module _ (w t : List ℕ) (some : 1 ≤ length w) where
  abbrev All : ℕ → ℕ → List Compared → Type 0
  All b i made = (rest_on w t (in_window b i made)).last.made ≡ (carried_on w t).last.made

  -- A state of the search by KMP: the run that is carried on goes by the same window, matched length and comparisons.
  record Beside (s : State) : Type 0 where
    pub upto : s.rank ≤ length w
    pub edge : s.edge ≡ 0
    pub all : All s.window s.rank s.made
    pub up_to : Every (λ one. one.window + length w ≤ length t) s.made

  -- An occurrence is left by both. At the text's end the run is over before that and after it.
  after_whole : (b i : ℕ) (made : List Compared) → i ≡ length w → b + length w ≤ length t → All b i made
      → All (b + kmp_shift w (length w)) (length w - kmp_shift w (length w)) made
  unfolding leave
  after_whole b i made z fits all =
      let M = kmp_shift_moves w (length w) some (omega arith) in
      ⊎_elim
      (λ (more : b + length w < length t). onto w t some b (length w) made _
      (whole_turn w t (in_window b (length w) made) more (omega arith) ∙ rw (edge_stays w (length w) b 0 (omega arith)) refl) (rw z at all))
      (λ (over : length t ≤ b + length w).
      ends_with w t some _ _ made (omega (arith, M.upto)) ∙ sym (ends_with w t some b i made (omega arith)) ∙ all)
      (less_or (b + length w) (length t))

  EndsBeside : Ending → State → Type 0
  EndsBeside Done s = Beside s × (length t < s.window + length w)
  EndsBeside (Spent b) s = Unit {0}
  EndsBeside (Full b) s = Unit {0}

  module _ (cap size : ℕ) where
    beside_turn : (s : State) → Beside s → Keeps Beside EndsBeside s (turn (kmp_plan w) (text_source w t) cap size s)
    unfolding matched compared missed listed leave EndsBeside
    beside_turn s B = at (turn (kmp_plan w) (text_source w t) cap size s) (rules.rule (kmp_plan w) (text_source w t) cap size s)
      where
        at : (T : Turn) → rules.Rule (kmp_plan w) (text_source w t) cap size s T → Keeps Beside EndsBeside s T
        at _ (rules.past l) = (B, l)
        at _ (rules.fills fits k l) = tt
        at _ (rules.lists fits k l) =
            let whole : s.rank ≡ length w = ⊎_elim (λ (a : length w ≤ s.rank). omega (arith, B.upto)) (λ (a : s.window + s.rank < s.edge). absurd (omega (arith, B.edge))) k in
            record {
              upto = omega arith;
              edge = edge_stays w (length w) s.window s.edge (omega arith) ∙ B.edge;
              all = after_whole s.window s.rank s.made whole fits B.all;
              up_to = B.up_to;
            }
        at _ (rules.spends fits d e) = tt
        at _ (rules.matches fits d e q) = record {
          upto = d.rank;
          edge = B.edge;
          all = onto w t some s.window s.rank s.made _
              (matched_turn w t (in_window s.window s.rank s.made) (omega (arith, d.rank)) d.rank (eqb-true _ _ q)) B.all;
          up_to = (fits, B.up_to);
        }
        at _ (rules.misses fits d e q) = record {
          upto = omega (arith, B.upto);
          edge = edge_stays w s.rank s.window s.edge B.upto ∙ B.edge;
          all = onto w t some s.window s.rank s.made _
              (missed_turn w t (in_window s.window s.rank s.made) (omega (arith, d.rank)) d.rank (eqb-false _ _ q)
              ∙ rw (edge_stays w s.rank s.window 0 B.upto) refl) B.all;
          up_to = (fits, B.up_to);
        }

  pub as_kmp : AsKmp w t
  unfolding kmp EndsBeside carried_on
  as_kmp cap size done =
      let last = (kmp w t cap size).last in
      let E = rw done at (rules.search_keeps (kmp_plan w) (text_source w t) (λ i l. (kmp_shift_moves w i some l).on) cap size Beside EndsBeside (beside_turn cap size)
      record { upto = omega arith; edge = refl; all = refl; up_to = tt }) in
      let A = on_adds w t some (in_window last.window last.rank last.made) in
      record {
        later = A.more;
        begins = sym E.0.all ∙ A.sum;
        up_to = E.0.up_to;
        past = every_weaker (λ one l. omega (arith, l, E.1)) A.more A.later;
      }
