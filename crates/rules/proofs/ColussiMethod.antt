-- The search in Colussi's order lists exactly the occurrences. Assumes nothing.
use Prim.Native.Nat.{ℕ, suc, ◌+◌, ◌-◌, ◌≤◌, ◌<◌}
use mathlib.Core.Path.{◌≡◌, refl, ap, ◌∙◌}
use mathlib.Core.Logic.{⊎_elim}
use mathlib.Core.List.{List}
use native.Mathlib.Omega.{arith}
use lib.ListN.{length}
use Rattle.words.specs.Tables.{letter, below, noholes, kmin, rmin, place, shift, next}
use Rattle.words.proofs.Cases.{less_or}
use Rattle.words.proofs.Ranks.{hole_rank}
use Rattle.words.proofs.Shifts.{shift_nohole, shift_hole, shift_last, noholes_le, next_nohole, next_hole, shift_moves}
use Rattle.rules.specs.Rules.{edge_after}
use Rattle.rules.specs.Occurs.{Occurs}
use Rattle.rules.specs.Colussi.{colussi_plan, colussi}
use Rattle.rules.proofs.Rules.{edge_kept, edge_moved}
use Rattle.rules.proofs.Method.{Left, Method, Finds, finds}
use Rattle.rules.proofs.Occurs.{None}
use Rattle.rules.proofs.Excluded.{none_before_period}
use Rattle.rules.proofs.Known.{Known, begins, known_occurs, known_matched, none_nohole, known_nohole, above_agree, none_hole, known_after}

module _ (w t : List ℕ) (some : 1 ≤ length w) where
  -- The count is asked for nothing here: its ceiling has an account of its own (ColussiCeiling).
  abbrev pub Holds : ℕ → ℕ → ℕ → ℕ → Type 0
  Holds b i e c = Known w t b i e

  abbrev pub Under : ℕ → ℕ → Type 0
  Under b c = Unit {0}

  -- Leaving with rank r, by what its shift, its next rank and the edge then are.
  left_with : (first b r e c s j e' : ℕ) → shift w r ≡ s → next w r ≡ j → edge_after (colussi_plan w) r b e ≡ e'
      → Holds (b + s) j e' c → None w t first (b + s) → Left (colussi_plan w) w t Holds first b r e c
  left_with first b r e c s j e' S J E H N = record { holds = rw (S, J, E) H; none = rw S N }

  module _ (b i e c : ℕ) (H : Holds b i e c) where
    after_listed : Occurs w t b → Left (colussi_plan w) w t Holds (suc b) b (length w) e c
    after_listed O = left_with (suc b) b (length w) e c (rmin w 0) (below w (length w - rmin w 0)) (b + length w)
        (shift_last w)
        (next_hole w (length w) (noholes_le w) ∙ ap (λ s. below w (length w - s)) (shift_last w))
        (edge_moved (colussi_plan w) (length w) b e (noholes_le w))
        (known_after w t b 0 some (λ p l g. O.same p l))
        (none_before_period w t b 0 some (λ p l z. O.same p l) (λ k l g. absurd (omega arith)))

    module _ (rank : i < length w) (beyond : e ≤ b + place w i) where
      after_missed : ((letter w (place w i) ≡ letter t (b + place w i)) → ⊥) → Left (colussi_plan w) w t Holds b b i e (suc c)
      after_missed differ = ⊎_elim
          (λ (early : i < noholes w).
          left_with b b i e (suc c) (kmin w (place w i)) (below w (place w i - kmin w (place w i))) e
          (shift_nohole w i early)
          (next_nohole w i early)
          (edge_kept (colussi_plan w) i b e early)
          (known_nohole w t b i e H rank beyond differ early)
          (none_nohole w t b i e H rank beyond differ early))
          (λ (late : noholes w ≤ i).
          let R = hole_rank w i late rank in
          left_with b b i e (suc c) (rmin w (place w i)) (below w (length w - rmin w (place w i))) (b + length w)
          (shift_hole w i late rank)
          (next_hole w i late ∙ ap (λ s. below w (length w - s)) (shift_hole w i late rank))
          (edge_moved (colussi_plan w) i b e late)
          (known_after w t b (place w i) R.inside (above_agree w t b i e H rank beyond differ late))
          (none_hole w t b i e H rank beyond differ late))
          (less_or i (noholes w))

  pub method : Method (colussi_plan w) w t Holds Under
  method = record {
    letters = refl;
    some = some;
    moving = λ i l. (shift_moves w i some l).on;
    begins = begins w t;
    under = λ b i e c H. tt;
    occurs = λ b i e c H fits k. known_occurs w t b i e H fits k;
    listed = after_listed;
    counted = λ b i e c H d. tt;
    matched = λ b i e c H d q. known_matched w t b i e H d.rank d.beyond q;
    missed = λ b i e c H d q. after_missed b i e c H d.rank d.beyond q;
  }

  -- Demand 2.
  pub colussi_finds : (cap size : ℕ) → Finds colussi w t cap size
  colussi_finds cap size = finds (colussi_plan w) w t Holds Under method colussi (λ cap size. unfold colussi in refl) cap size
