-- KMP carried on to the text's end: which rule applies at a turn, what a turn does to the whole, and what a run adds. Assumes nothing.
use Prim.Native.Nat.{ℕ, ◌+◌, ◌≤◌, ◌<◌}
use mathlib.Core.Path.{◌≡◌, refl, sym, ◌∙◌}
use mathlib.Core.Logic.{⊎_elim}
use mathlib.Core.Bool.{Bool, true, false}
use mathlib.Core.List.{List, [], ◌∷◌, ◌++◌}
use native.Mathlib.Omega.{arith}
use lib.Dec.{eqb}
use lib.ListN.{length}
use borrow.Author.Tests.{lt-ltb, le-ltb, eqb-true, eqb-false, eq-eqb, ne_eqb}
use Rattle.words.specs.Tables.{letter, rmin}
use Rattle.words.proofs.Cases.{less_or, true_or_false}
use Rattle.words.proofs.Noholes.{rmin_is}
use Rattle.rules.specs.Rules.{Compared, State, start, Turn, stop, go, leave, agree, compared, matched, missed}
use Rattle.rules.specs.Kmp.{kmp_shift, kmp_plan}
use Rattle.rules.specs.Internal.Passing.{one}
use Rattle.rules.specs.declared.Ending.{Ending}
use Rattle.rules.specs.declared.Ending.TheVariants.{Done}
use Rattle.rules.proofs.Turns.{Falls, Keeps, all_turns, goes_on, ends, at_end}
use Rattle.rules.proofs.Excluded.{Same}
use Rattle.rules.proofs.KmpMethod.{kmp_shift_moves}
use Rattle.prefixes.specs.CarriedOn.{turn_on, left_on, rest_on, carried_on}
use Rattle.prefixes.specs.Promise.{Every}

module _ (w t : List ℕ) where
  -- ---- Which rule applies

  module _ (s : State) where
    abbrev b : ℕ
    b = s.window

    abbrev i : ℕ
    i = s.rank

    over_turn : length t ≤ b + i → turn_on w t s ≡ stop Done
    unfolding turn_on
    over_turn l = rw (le-ltb (b + i) (length t) l, turn_on) refl

    module _ (more : b + i < length t) where
      pub matched_turn : i < length w → Same w t b i → turn_on w t s ≡ go (matched (kmp_plan w) s)
      unfolding turn_on agree
      matched_turn l e = rw (lt-ltb (b + i) (length t) more, lt-ltb i (length w) l, eq-eqb (letter w i) (letter t (b + i)) e, turn_on) refl

      pub missed_turn : i < length w → (Same w t b i → ⊥) → turn_on w t s ≡ go (missed (kmp_plan w) s)
      unfolding turn_on agree
      missed_turn l e = rw (lt-ltb (b + i) (length t) more, lt-ltb i (length w) l, ne_eqb (letter w i) (letter t (b + i)) e, turn_on) refl

      pub whole_turn : length w ≤ i → turn_on w t s ≡ go (leave (kmp_plan w) i s)
      unfolding turn_on
      whole_turn l = rw (lt-ltb (b + i) (length t) more, le-ltb i (length w) l, turn_on) refl

    pub data On : Turn → Type 0 where
      over : length t ≤ b + i → On (stop Done)
      matches : b + i < length t → i < length w → Same w t b i → On (go (matched (kmp_plan w) s))
      misses : b + i < length t → i < length w → (Same w t b i → ⊥) → On (go (missed (kmp_plan w) s))
      whole : b + i < length t → length w ≤ i → On (go (leave (kmp_plan w) i s))

    pub on : On (turn_on w t s)
    on = ⊎_elim
        (λ (more : b + i < length t). ⊎_elim
        (λ (l : i < length w). ⊎_elim
        (λ (e : eqb (letter w i) (letter t (b + i)) ≡ true).
        let same = eqb-true _ _ e in
        rw (matched_turn more l same) (matches more l same))
        (λ (e : eqb (letter w i) (letter t (b + i)) ≡ false).
        let differ = eqb-false _ _ e in
        rw (missed_turn more l differ) (misses more l differ))
        (true_or_false (eqb (letter w i) (letter t (b + i)))))
        (λ (l : length w ≤ i). rw (whole_turn more l) (whole more l))
        (less_or i (length w)))
        (λ (l : length t ≤ b + i). rw (over_turn l) (over l))
        (less_or (b + i) (length t))

  -- ---- What a turn does to the whole

  module _ (some : 1 ≤ length w) where
    shift_past : (i : ℕ) → length w ≤ i → kmp_shift w i ≡ rmin w 0
    unfolding kmp_shift
    shift_past i l = rw (le-ltb i (length w) l, kmp_shift) refl

    falls : (s : State) → Falls (left_on w t) (left_on w t s) (turn_on w t s)
    unfolding matched compared missed leave
    falls s = at (turn_on w t s) (on s)
      where
        at : (T : Turn) → On s T → Falls (left_on w t) (left_on w t s) T
        at _ (over l) = tt
        at _ (matches more l e) = omega arith
        at _ (misses more l e) = omega (arith, (kmp_shift_moves w s.rank some (omega arith)).on)
        at _ (whole more l) = omega (arith, shift_past s.rank l, (rmin_is w 0 some).above)

    rest_is : (s : State) → rest_on w t s ≡ all_turns (turn_on w t) (left_on w t) falls s
    unfolding rest_on all_turns
    rest_is s = refl

    pub on_goes : (s r : State) → turn_on w t s ≡ go r → rest_on w t s ≡ rest_on w t r
    on_goes s r e = rest_is s ∙ goes_on (turn_on w t) (left_on w t) falls s r e ∙ sym (rest_is r)

    pub on_ends : (s : State) → length t ≤ s.window + s.rank → rest_on w t s ≡ record { ending = Done; last = s }
    on_ends s l = rest_is s ∙ ends (turn_on w t) (left_on w t) falls s Done (over_turn s l)

    pub on_keeps : (P : State → Type 0) (Q : Ending → State → Type 0) → ((s : State) → P s → Keeps P Q s (turn_on w t s))
        → (s : State) → P s → Q (rest_on w t s).ending (rest_on w t s).last
    on_keeps P Q keeps s p = rw (rest_is s) (at_end (turn_on w t) (left_on w t) falls P Q keeps s p)

    -- The turns never run out: the run ends in a state whose turn ends it.
    pub on_stops : turn_on w t (carried_on w t).last ≡ stop (carried_on w t).ending
    unfolding carried_on
    on_stops = on_keeps (λ s. Unit {0}) (λ e s. turn_on w t s ≡ stop e) (λ s p. at s (turn_on w t s) refl) start tt
      where
        at : (s : State) (T : Turn) → turn_on w t s ≡ T → Keeps (λ s. Unit {0}) (λ e s. turn_on w t s ≡ stop e) s T
        at s (stop e) q = q
        at s (go r) q = tt

    -- ---- What a run adds to the comparisons made by state s: only those made in its window or later ones

    pub record Adds (s : State) (made : List Compared) : Type 0 where
      pub more : List Compared
      pub sum : made ≡ more ++ s.made
      pub later : Every (λ one. s.window ≤ one.window) more

    record AddsOn (s r : State) : Type 0 where
      pub adds : Adds s r.made
      pub window : s.window ≤ r.window

    adds_turn : (s r : State) → AddsOn s r → Keeps (AddsOn s) (λ e r. Adds s r.made) r (turn_on w t r)
    unfolding matched compared missed leave
    adds_turn s r A = at (turn_on w t r) (on r)
      where
        compared_once : (equal : Bool) → Adds s (one (kmp_plan w) r.window r.rank equal ∷ r.made)
        compared_once equal = record {
          more = one (kmp_plan w) r.window r.rank equal ∷ A.adds.more;
          sum = rw A.adds.sum refl;
          later = (A.window, A.adds.later);
        }

        at : (T : Turn) → On r T → Keeps (AddsOn s) (λ e r. Adds s r.made) r T
        at _ (over l) = A.adds
        at _ (matches more l e) = record {
          adds = compared_once true;
          window = A.window;
        }
        at _ (misses more l e) = record {
          adds = compared_once false;
          window = omega (arith, A.window);
        }
        at _ (whole more l) = record {
          adds = A.adds;
          window = omega (arith, A.window);
        }

    pub on_adds : (s : State) → Adds s (rest_on w t s).last.made
    on_adds s = on_keeps (AddsOn s) (λ e r. Adds s r.made) (adds_turn s) s
        record { adds = record { more = []; sum = refl; later = tt }; window = omega arith }
