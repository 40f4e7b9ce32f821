-- A loop that follows the fast method, turn by turn. Assumes nothing.
use Prim.Native.Nat.{ℕ, zero, suc, ◌+◌, ◌-◌, ◌≤◌, ◌<◌, min, max}
use mathlib.Core.Path.{◌≡◌, refl, sym, ap, ◌∙◌, subst}
use mathlib.Core.Logic.{⊎_elim}
use mathlib.Core.List.{List}
use native.Mathlib.Omega.{arith}
use lib.ListN.{length}
use borrow.Author.Tests.{le-leb, lt-leb}
use Rattle.words.specs.Tables.{hmax}
use Rattle.words.proofs.Cases.{less_or}
use Rattle.words.proofs.Noholes.{hmax_is}
use Rattle.hmax.specs.FastMethod.{State, start, turn, turns, run, comparisons}
use Rattle.hmax.specs.Internal.Steps.{Underived, BeginsAt}
use Rattle.hmax.proofs.Turns.{Begins, underived_unique, underived_near}
use Rattle.hmax.proofs.FastRun.{Holds, start_holds, turn_is}

-- The loop's variables are those of a state from which the method ends as it does from its start.
pub record Follows (w : List ℕ) (k i compared : ℕ) : Type 0 where
  pub state : State
  pub left : ℕ
  pub same : turns w left state ≡ run w
  pub enough : length w < left + k
  pub holds : Holds w state
  pub at_k : state.k ≡ k
  pub at_i : state.i ≡ i
  pub count : length state.made ≡ compared

pub follows_start : (w : List ℕ) → Follows w 1 1 0
unfolding run start
follows_start w = record {
  state = start w;
  left = length w;
  same = refl;
  enough = omega arith;
  holds = start_holds w;
  at_k = refl;
  at_i = refl;
  count = refl;
}

turns_on : (w : List ℕ) (n : ℕ) (s : State) → s.k ≤ length w → turns w (suc n) s ≡ turns w n (turn w s)
unfolding turns
turns_on w n s l = rw (le-leb s.k (length w) l, turns) refl

turns_over : (w : List ℕ) (n : ℕ) (s : State) → length w < s.k → turns w n s ≡ s
unfolding turns
turns_over w zero s l = refl
turns_over w (suc n) s l = rw (lt-leb s.k (length w) l, turns) refl

-- Where i is m already, no letters are left to compare.
over : {w : List ℕ} (n : ℕ) (s : State) → Holds w s → (s.k ≤ length w → s.i ≡ length w) → length (turns w n s).made ≡ length s.made
unfolding turns
over zero s H at = refl
over {w} (suc n) s H at = ⊎_elim
    (λ (a : length w < s.k). ap (λ t. length t.made) (turns_over w (suc n) s a))
    (λ (a : s.k ≤ length w).
    let T = turn_is w s H a in
    let K = hmax_is w s.k H.begins.positive a in
    let h : hmax w s.k ≡ length w = omega (arith, at a, K.upto, H.begins.known a) in
    ap (λ t. length t.made) (turns_on w n s a) ∙ over n (turn w s) T.holds (λ l. omega (arith, T.place, h))
    ∙ omega (arith, T.count, at a, h))
    (less_or (length w) s.k)

module _ (w : List ℕ) (k i compared : ℕ) (F : Follows w k i compared) where
  pub follows_begins : Begins w k i
  follows_begins = subst (λ j. Begins w k j) F.at_i (subst (λ j. Begins w j F.state.i) F.at_k F.holds.begins)

  -- A turn of n comparisons, up to the first entry that is not derived.
  pub follows_on : (r j n : ℕ) → k ≤ length w → Underived w k r → j ≡ max r (hmax w k) → n + i ≡ min (suc (hmax w k)) (length w)
      → Follows w r j (compared + n)
  follows_on r j n le U to steps = go F.left F.same F.enough
    where
      go : (left : ℕ) → turns w left F.state ≡ run w → length w < left + k → Follows w r j (compared + n)
      go zero same enough = absurd (omega arith)
      go (suc left) same enough =
          let s = F.state in
          let l : s.k ≤ length w = omega (arith, F.at_k) in
          let T = turn_is w s F.holds l in
          let h : hmax w s.k ≡ hmax w k = ap (hmax w) F.at_k in
          let at = underived_unique w k (turn w s).k r (subst (λ k. Underived w k (turn w s).k) F.at_k T.first) U in
          record {
            state = turn w s;
            left = left;
            same = sym (turns_on w left s l) ∙ same;
            enough = omega (arith, U.more);
            holds = T.holds;
            at_k = at;
            at_i = omega (arith, T.place, at, h);
            count = omega (arith, T.count, F.count, F.at_i, h);
          }

  -- A turn that finds m makes the last comparisons.
  pub follows_found : k ≤ length w → hmax w k ≡ length w → compared + length w ≡ comparisons w + i
  unfolding comparisons
  follows_found le whole = go F.left F.same F.enough
    where
      go : (left : ℕ) → turns w left F.state ≡ run w → length w < left + k → compared + length w ≡ length (run w).made + i
      go zero same enough = absurd (omega arith)
      go (suc left) same enough =
          let s = F.state in
          let l : s.k ≤ length w = omega (arith, F.at_k) in
          let T = turn_is w s F.holds l in
          let h : hmax w s.k ≡ length w = ap (hmax w) F.at_k ∙ whole in
          let rest = over left (turn w s) T.holds (λ u. omega (arith, T.place, h)) in
          let end = ap (λ a. length a.made) (sym same ∙ turns_on w left s l) in
          omega (arith, rest, end, T.count, F.count, F.at_i, h)

-- ---- How many comparisons there were, told by places alone

-- The turn of k begins at a place, and some turns before it began with the letters that the last one had ended with: as many comparisons
-- were made as that place and these turns tell.
pub record Counts (w : List ℕ) (k from again : ℕ) : Type 0 where
  pub compared : ℕ
  pub follows : Follows w k from compared
  pub inside : k ≤ length w
  pub count : compared + 1 ≡ from + again

pub counts_first : (w : List ℕ) → 1 ≤ length w → Counts w 1 1 0
counts_first w some = record { compared = 0; follows = follows_start w; inside = some; count = refl }

module _ (w : List ℕ) (k from again : ℕ) (C : Counts w k from again) where
  pub counts_begins : Begins w k from
  counts_begins = follows_begins w k from C.compared C.follows

  -- There are few such turns: one that differs brings k up.
  pub counts_few : again < k
  counts_few =
      let F = C.follows in
      omega (arith, F.holds.account, F.count, F.at_k, F.at_i, C.count)

  -- The turn ends with letters that differ. The next one begins with them again, or past them.
  pub counts_next : (r j more : ℕ) → hmax w k < length w → Underived w k r → BeginsAt r (hmax w k) again j more → Counts w r j more
  counts_next r j more differ U N =
      let B = counts_begins in
      let known = B.known C.inside in
      let near = underived_near w k r B.positive C.inside U in
      let n : ℕ = suc (hmax w k) - from in
      let steps : n + from ≡ min (suc (hmax w k)) (length w) = omega arith in
      record {
        compared = C.compared + n;
        follows = follows_on w k from C.compared C.follows r j n C.inside U N.place steps;
        inside = omega arith;
        count = omega (arith, C.count, N.count near, B.from, B.positive);
      }

  -- Where the turn finds m, all comparisons are made.
  pub counts_found : hmax w k ≡ length w → length w - 1 + again ≡ comparisons w
  counts_found whole =
      let found = follows_found w k from C.compared C.follows C.inside whole in
      omega (arith, found, C.count, counts_begins.from, counts_begins.positive, C.inside)
