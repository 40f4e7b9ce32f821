-- Windows that miss at rank 0, as a search by the rules passes them. Assumes nothing.
use Prim.Native.Nat.{ℕ, zero, suc, ◌+◌, ◌-◌, ◌≤◌, ◌<◌}
use mathlib.Core.Path.{◌≡◌, refl, sym, ap, ◌∙◌}
use mathlib.Core.Logic.{⊎_elim}
use mathlib.Core.Bool.{Bool, true, false}
use mathlib.Core.List.{List, ◌∷◌}
use native.Mathlib.Omega.{arith}
use lib.ListN.{length, get_or}
use borrow.Author.Count.{below_more}
use borrow.Author.Tests.{eq-eqb, ne_eqb}
use Rattle.words.specs.Tables.{letter}
use Rattle.words.proofs.Cases.{less_or}
use Rattle.rules.specs.Rules.{Plan, text_source, Compared, edge_after}
use Rattle.rules.specs.Columns.{made_at}
use Rattle.rules.specs.Internal.Passing.{Due, Agree, one, Passes}
use Rattle.rules.proofs.Columns.{made_more}
use Rattle.rules.proofs.Rules.{Moving, edge_kept}
use Rattle.rules.proofs.Passing.{passes_nothing, passes_on, passes_matched, passes_missed}
use Rattle.rules.proofs.Following.{Ranges}
use Rattle.rules.proofs.Scans.{Scans, scans_on}
use Rattle.search.specs.Internal.RankZero.{Passed, FirstAt, Ahead}

-- ---- In the terms of the code

module _ {text : List ℕ} {x a p : ℕ} (P : Passed text x a p) where
  -- Where no place before p holds x, and p does not, none before the next does.
  pub passed_one : {q : ℕ} → q ≡ p + 1 → (x ≡ letter text p → ⊥) → Passed text x a q
  passed_one e miss = record { none = rw e (below_more _ p P.none (λ h same. miss (sym same))) }

  -- A skip ends there, or goes on from there, to its end or to the first place that does.
  pub skips_to : {b : ℕ} → a ≤ p → p < b → x ≡ letter text p → FirstAt text x a b p
  skips_to l h is = record { from = l; upto = h; passed = P; found = sym is }

  pub passed_on : {b : ℕ} → Passed text x p b → Passed text x a b
  passed_on S = record { none = λ k below g. ⊎_elim (λ (h : k < p). P.none k h g) (λ (h : p ≤ k). S.none k below h) (less_or k p) }

  pub skips_on : {b r : ℕ} → a ≤ p → FirstAt text x p b r → FirstAt text x a b r
  skips_on l S = record { from = omega (arith, S.from); upto = S.upto; passed = passed_on S.passed; found = S.found }

-- Window b matches at once.
pub ahead_at_once : (text : List ℕ) (x o last b left : ℕ) → b ≤ last → 1 ≤ left → get_or text (b + o) 0 ≡ x
    → Ahead text x o last b left b 1 (left - 1)
ahead_at_once text x o last b left inside more is = record {
  from = omega arith;
  upto = omega arith;
  missed = λ v l h. absurd (omega arith);
  rank = omega arith;
  matched = λ _. (inside, is);
  spent = omega arith;
}

-- Window b misses, with room for that many windows and comparisons more.
module _ (text : List ℕ) (x o last b left room : ℕ) (miss : get_or text (b + o) 0 ≡ x → ⊥) (windows : b + room ≤ last) (comparisons : room < left) where
  passed : {p : ℕ} → Passed text x (b + o + 1) p → (v : ℕ) → b ≤ v → v + o < p → get_or text (v + o) 0 ≡ x → ⊥
  passed P v l h q = ⊎_elim
      (λ (a : b < v). P.none (v + o) h (omega arith) q)
      (λ (a : v ≤ b). miss (ap (λ u. get_or text u 0) (omega arith) ∙ q))
      (less_or b v)

  -- The first that matches is k windows further.
  pub ahead_matched : (k : ℕ) → FirstAt text x (b + o + 1) (b + o + 1 + room) (b + o + k) → Ahead text x o last b left (b + k) 1 (left - 1 - k)
  ahead_matched k S = record {
    from = omega arith;
    upto = omega (arith, S.upto);
    missed = λ v l h. passed S.passed v l (omega arith);
    rank = omega arith;
    matched = λ _. (omega (arith, S.upto), ap (λ u. get_or text u 0) (omega arith) ∙ S.found);
    spent = omega (arith, S.upto);
  }

  -- None does.
  pub ahead_missed : Passed text x (b + o + 1) (b + o + 1 + room) → Ahead text x o last b left (b + 1 + room) 0 (left - 1 - room)
  ahead_missed P = record {
    from = omega arith;
    upto = omega arith;
    missed = λ v l h. passed P v l (omega arith);
    rank = omega arith;
    matched = λ one. absurd (omega arith);
    spent = omega arith;
  }

-- ---- In the terms of the rules

-- A plan that leaves a window which misses at rank 0 by 1, for rank 0 again, and with the edge as it was. The place compared at rank 0 does not
-- pass q: the column of q stays as it is.
pub record ByOne (q : ℕ → Bool) (plan : Plan) : Type 0 where
  pub some : 1 ≤ plan.m
  pub moving : Moving plan
  pub shift : plan.shift 0 ≡ 1
  pub next : plan.next 0 ≡ 0
  pub early : 0 < plan.edge_from
  pub apart : q (plan.place 0) ≡ false

-- The comparisons of k windows from b on that miss at rank 0, after those made.
pub misses : Plan → ℕ → ℕ → List Compared → List Compared
misses plan b zero made = made
misses plan b (suc k) made = one plan (b + k) 0 false ∷ misses plan b k made

length_misses : (plan : Plan) (b k : ℕ) (made : List Compared) → length (misses plan b k made) ≡ length made + k
unfolding misses
length_misses plan b zero made = omega arith
length_misses plan b (suc k) made = omega (arith, length_misses plan b k made)

-- They add nothing to the column of q, where rank 0 adds nothing.
module _ (q : ℕ → Bool) (plan : Plan) (apart : q (plan.place 0) ≡ false) where
  adds_nothing : (v : ℕ) (equal : Bool) (made : List Compared) → made_at q (one plan v 0 equal ∷ made) ≡ made_at q made
  adds_nothing v equal made = (rw apart at (made_more q (one plan v 0 equal) made)) ∙ omega arith

  misses_apart : (b k : ℕ) (made : List Compared) → made_at q (misses plan b k made) ≡ made_at q made
  unfolding misses
  misses_apart b zero made = refl
  misses_apart b (suc k) made = adds_nothing (b + k) false (misses plan b k made) ∙ misses_apart b k made

module _ (q : ℕ → Bool) (plan : Plan) (w text : List ℕ) (by : ByOne q plan) {x o last b left b' i' left' : ℕ} (A : Ahead text x o last b left b' i' left')
    (ends : last + plan.m ≡ length text) (at : plan.place 0 ≡ o) (is : letter w o ≡ x) (e : ℕ) (beyond : e ≤ b + o) where
  due : (v : ℕ) → b ≤ v → Due plan v 0 e
  due v l = record { rank = by.some; beyond = omega (arith, at) }

  -- The letters agree at rank 0 of a window if the text has x there.
  agree : (v : ℕ) → get_or text (v + o) 0 ≡ x → Agree plan w text v 0
  agree v q = rw at (is ∙ sym q)

  agree_only : (v : ℕ) → Agree plan w text v 0 → get_or text (v + o) 0 ≡ x
  agree_only v q = sym (sym is ∙ (rw at at q))

  module _ {cap c : ℕ} (budget : c + left ≡ cap) (made : List Compared) (count : length made ≡ c) where
    -- Each of the first k windows is left.
    missed : (k : ℕ) → b + k ≤ b'
        → Passes plan (text_source w text) cap b 0 e made (b + k) 0 e (misses plan b k made)
    unfolding misses
    missed zero l = let y : b + 0 ≡ b = omega arith in rw y (passes_nothing plan (text_source w text) cap b 0 e made)
    missed (suc k) l = passes_on plan (text_source w text) cap (missed k (omega arith)) (rw (window, by.next, edge) at moved)
      where
        moved : Passes plan (text_source w text) cap (b + k) 0 e (misses plan b k made)
            (b + k + plan.shift 0) (plan.next 0) (edge_after plan 0 (b + k) e) (one plan (b + k) 0 false ∷ misses plan b k made)
        moved = passes_missed plan (text_source w text) cap by.moving (b + k) 0 e (misses plan b k made)
            (omega (arith, ends, A.upto))
            (due (b + k) (omega arith))
            (λ z. omega (arith, A.spent, length_misses plan b k made))
            (ne_eqb _ _ (λ q. A.missed (b + k) (omega arith) (omega arith) (agree_only (b + k) q)))

        window : b + k + plan.shift 0 ≡ b + suc k
        window = omega (arith, by.shift)

        edge : edge_after plan 0 (b + k) e ≡ e
        edge = edge_kept plan 0 (b + k) e by.early

    -- And, if one does, the next window matches.
    met : (k : ℕ) → b' ≡ b + k → 1 ≤ i'
        → Passes plan (text_source w text) cap b 0 e made b' 1 e (one plan b' 0 true ∷ misses plan b k made)
    met k window l = passes_on plan (text_source w text) cap
        (rw window (missed k (omega arith)))
        (passes_matched plan (text_source w text) cap by.moving b' 0 e (misses plan b k made)
        (omega (arith, ends, (A.matched l).0))
        (due b' A.from)
        (λ z. omega (arith, A.spent, length_misses plan b k made))
        (eq-eqb _ _ (agree b' (A.matched l).1)))

  -- A scan passes all of them, and the comparison that matches, if one does.
  pub scans_ahead : Ranges plan → {cap c : ℕ} {before after : List ℕ} {y k : ℕ} → Scans q plan (text_source w text) cap before after b 0 e c y k
      → c + left ≡ cap → {c' : ℕ} → c' + left' ≡ cap → Scans q plan (text_source w text) cap before after b' i' e c' y k
  scans_ahead R {cap} {c} {before} {after} {y} {k} F budget {c'} later = ⊎_elim
      (λ (l : i' < 1).
      let rank : i' ≡ 0 = omega arith in
      rw rank (scans_on q plan (text_source w text) cap before R F (misses plan b d F.made)
      (omega (arith, length_misses plan b d F.made, A.spent, F.count))
      passed_apart
      (rw (sym window) at (missed budget F.made F.count d (omega arith)))
      inside (omega arith) (omega arith)))
      (λ (l : 1 ≤ i').
      let rank : i' ≡ 1 = omega (arith, A.rank) in
      rw rank (scans_on q plan (text_source w text) cap before R F (one plan b' 0 true ∷ misses plan b d F.made)
      (omega (arith, length_misses plan b d F.made, A.spent, F.count))
      (adds_nothing q plan by.apart b' true (misses plan b d F.made) ∙ passed_apart)
      (met budget F.made F.count d window l)
      inside by.some (omega arith)))
      (less_or i' 1)
    where
      d : ℕ
      d = b' - b

      window : b' ≡ b + d
      window = omega (arith, A.from)

      passed_apart : made_at q (misses plan b d F.made) ≡ y
      passed_apart = misses_apart q plan by.apart b d F.made ∙ F.column

      inside : b' ≤ length text
      inside = omega (arith, A.upto, ends, by.some)
