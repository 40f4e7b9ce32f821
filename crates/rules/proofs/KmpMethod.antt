-- The search by Knuth, Morris and Pratt lists exactly the occurrences, under its ceiling (part E of the proof). Assumes nothing.
use Prim.Native.Nat.{ℕ, suc, ◌+◌, ◌*◌, ◌≤◌, ◌<◌}
use mathlib.Core.Path.{◌≡◌, refl, sym, ap, ◌∙◌}
use mathlib.Core.Logic.{inl, inr, ⊎_elim}
use mathlib.Core.Bool.{true, false}
use mathlib.Core.List.{List}
use native.Mathlib.Omega.{arith}
use lib.ListN.{length}
use borrow.Author.Tests.{lt-ltb, le-ltb}
use Rattle.words.specs.Tables.{letter, hmax, nohole, kmin, rmin}
use Rattle.words.proofs.Cases.{less_or, true_or_false, not_both}
use Rattle.words.proofs.Periods.{Periodic}
use Rattle.words.proofs.Noholes.{hmax_is, nohole_inside, nohole_of, nohole_is, kmin_least, rmin_is}
use Rattle.words.proofs.Shifts.{Moves}
use Rattle.rules.specs.Rules.{edge_after}
use Rattle.rules.specs.Occurs.{Occurs}
use Rattle.rules.specs.Kmp.{kmp_shift, kmp_plan, kmp}
use Rattle.rules.specs.Promise.{KmpCeiling}
use Rattle.rules.specs.Internal.Passing.{Established}
use Rattle.rules.specs.declared.Ending.{Ending}
use Rattle.rules.specs.declared.Ending.TheVariants.{Done, Spent, Full}
use Rattle.rules.proofs.Rules.{edge_kept}
use Rattle.rules.proofs.Method.{Left, Method, Bound, kept, Finds, finds}
use Rattle.rules.proofs.Occurs.{None}
use Rattle.rules.proofs.Excluded.{Same, none_before, none_before_period}

-- ---- The shift at each matched length

module _ (w : List ℕ) where
  pub kmp_shift_nohole : (i : ℕ) → nohole w i ≡ true → kmp_shift w i ≡ kmin w i
  unfolding kmp_shift
  kmp_shift_nohole i e = rw (lt-ltb i (length w) (nohole_inside w i e), e, kmp_shift) refl

  pub kmp_shift_hole : (i : ℕ) → i < length w → nohole w i ≡ false → kmp_shift w i ≡ suc i
  unfolding kmp_shift
  kmp_shift_hole i l e = rw (lt-ltb i (length w) l, e, kmp_shift) refl

  pub kmp_shift_last : kmp_shift w (length w) ≡ rmin w 0
  unfolding kmp_shift
  kmp_shift_last = rw (le-ltb (length w) (length w) (omega arith), kmp_shift) refl

  -- The shift s on a mismatch at i: the letters before i have the period s, and every smaller one is at most i and has another hmax.
  pub record MismatchShift (i s : ℕ) : Type 0 where
    pub on : 1 ≤ s
    pub upto : s ≤ suc i
    pub periodic : Periodic (letter w) s i
    pub least : (k : ℕ) → 1 ≤ k → k < s → (k ≤ i) × (hmax w k ≡ i → ⊥)

  pub mismatch_shift : (i : ℕ) → i < length w → MismatchShift i (kmp_shift w i)
  mismatch_shift i l = ⊎_elim
      (λ e.
      let M = nohole_is w i e in
      rw (kmp_shift_nohole i e) record {
        on = M.positive;
        upto = omega arith;
        periodic = M.periodic;
        least = λ k a b. (omega arith, kmin_least w i k a b);
      })
      (λ e. rw (kmp_shift_hole i l e) record {
        on = omega arith;
        upto = omega arith;
        periodic = λ x y s h. absurd (omega arith);
        least = λ k a b. (omega arith, λ z. not_both _ (nohole_of w k i l (rw z at ((hmax_is w k a (omega arith)).longest (omega arith)))) e);
      })
      (true_or_false (nohole w i))

  -- Every shift moves the window on, by at most the pattern's length.
  pub kmp_shift_moves : (i : ℕ) → 1 ≤ length w → i ≤ length w → Moves w (kmp_shift w i)
  kmp_shift_moves i some l = ⊎_elim
      (λ (a : i < length w). let S = mismatch_shift i a in record { on = S.on; upto = omega (arith, S.upto) })
      (λ (a : length w ≤ i).
      let R = rmin_is w 0 some in
      let e : i ≡ length w = omega arith in
      rw (e, kmp_shift_last) record { on = R.above; upto = R.upto })
      (less_or i (length w))

-- The known edge never moves.
pub edge_stays : (w : List ℕ) (i b e : ℕ) → i ≤ length w → edge_after (kmp_plan w) i b e ≡ e
edge_stays w i b e l = edge_kept (kmp_plan w) i b e (omega arith)

-- ---- The method

module _ (w t : List ℕ) (some : 1 ≤ length w) where
  -- In window b at the matched length i the letters before i agree, no edge is known, and the count is at most 2b + i.
  pub record Holds (b i e c : ℕ) : Type 0 where
    pub rank : i ≤ length w
    pub edge : e ≡ 0
    pub agree : (p : ℕ) → p < i → Same w t b p
    pub account : c ≤ 2 * b + i

  abbrev pub Under : ℕ → ℕ → Type 0
  Under b c = c ≤ 2 * b + length w

  under : (b i e c : ℕ) → Holds b i e c → Under b c
  under b i e c H = omega (arith, H.account, H.rank)

  -- The shift is a period of the letters before i: those that it leaves agree in the next window too.
  left_with : (first b i e c c' : ℕ) → Holds b i e c → c' ≤ suc c → Periodic (letter w) (kmp_shift w i) i
      → None w t first (b + kmp_shift w i) → Left (kmp_plan w) w t Holds first b i e c'
  left_with first b i e c c' H l P N =
      let s : ℕ = kmp_shift w i in
      record {
        holds = record {
          rank = omega (arith, H.rank);
          edge = edge_stays w i b e H.rank ∙ H.edge;
          agree = λ p g. sym (P p (p + s) refl (omega arith)) ∙ H.agree (p + s) (omega arith) ∙ ap (letter t) (omega arith);
          account = omega (arith, H.account, (kmp_shift_moves w i some H.rank).on);
        };
        none = N;
      }

  module _ (b i e c : ℕ) (H : Holds b i e c) where
    established_occurs : b + length w ≤ length t → Established (kmp_plan w) b i e → Occurs w t b
    established_occurs fits (inl l) = record { inside = fits; same = λ p g. H.agree p (omega arith) }
    established_occurs fits (inr l) = absurd (omega (arith, H.edge))

    after_listed : Occurs w t b → Left (kmp_plan w) w t Holds (suc b) b (length w) e c
    after_listed O = left_with (suc b) b (length w) e c c
        record { rank = omega arith; edge = H.edge; agree = O.same; account = under b i e c H }
        (omega arith)
        (rw (kmp_shift_last w) (rmin_is w 0 some).periodic)
        (rw (kmp_shift_last w) (none_before_period w t b 0 some (λ p l z. O.same p l) (λ k l g. absurd (omega arith))))

    module _ (rank : i < length w) where
      after_matched : Same w t b i → Holds b (suc i) e (suc c)
      after_matched q = record {
        rank = rank;
        edge = H.edge;
        agree = λ p l. ⊎_elim (λ (a : p < i). H.agree p a) (λ (a : i ≤ p). let z : i ≡ p = omega arith in rw z at q) (less_or p i);
        account = omega (arith, H.account);
      }

      after_missed : (Same w t b i → ⊥) → Left (kmp_plan w) w t Holds b b i e (suc c)
      after_missed differ =
          let S = mismatch_shift w i rank in
          left_with b b i e c (suc c) H (omega arith) S.periodic
          (none_before w t b i rank (λ p l z. H.agree p l) differ (kmp_shift w i) S.least)

  pub method : Method (kmp_plan w) w t Holds Under
  method = record {
    letters = refl;
    some = some;
    moving = λ i l. (kmp_shift_moves w i some l).on;
    begins = record { rank = omega arith; edge = refl; agree = λ p l. absurd (omega arith); account = omega arith };
    under = under;
    occurs = established_occurs;
    listed = after_listed;
    counted = λ b i e c H d. omega (arith, H.account, d.rank);
    matched = λ b i e c H d q. after_matched b i e c H d.rank q;
    missed = λ b i e c H d q. after_missed b i e c H d.rank q;
  }

  -- ---- The promises

  -- Demand 2.
  pub kmp_finds : (cap size : ℕ) → Finds kmp w t cap size
  kmp_finds cap size = finds (kmp_plan w) w t Holds Under method kmp (λ cap size. unfold kmp in refl) cap size

  -- Document 01's ceiling.
  pub kmp_ceiling : (cap size : ℕ) → KmpCeiling (length w) (length t) (kmp w t cap size).ending (length (kmp w t cap size).last.made)
  unfolding kmp
  kmp_ceiling cap size =
      at (kmp w t cap size).ending (length (kmp w t cap size).last.made) (kept (kmp_plan w) w t Holds Under method cap size).bound
    where
      at : (e : Ending) (c : ℕ) → Bound w t Under e c → KmpCeiling (length w) (length t) e c
      at Done c B = (λ l. let u = B.window l in omega (arith, u.1, u.2), B.idle)
      at (Spent b) c B = B
      at (Full b) c B = B
