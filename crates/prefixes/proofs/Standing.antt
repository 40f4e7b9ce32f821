-- How a run stands at a window and a matched length, however it got there, and how few comparisons it takes. Assumes nothing.
use Prim.Native.Nat.{ℕ, zero, suc, ◌+◌, ◌-◌, ◌*◌, ◌≤◌, ◌<◌}
use mathlib.Core.Path.{◌≡◌, refl, sym, ap, ◌∙◌}
use mathlib.Core.Logic.{⊎_elim}
use mathlib.Core.Bool.{true, false}
use mathlib.Core.List.{List, [], ◌∷◌}
use native.Mathlib.Omega.{arith}
use lib.ListN.{length}
use Rattle.words.specs.Tables.{letter}
use Rattle.words.proofs.Cases.{less_or}
use Rattle.words.proofs.Periods.{Periodic}
use Rattle.rules.specs.Rules.{Compared, State, start, Turn, go, leave, compared, matched, missed}
use Rattle.rules.specs.Kmp.{kmp_shift, kmp_plan}
use Rattle.rules.specs.Internal.Passing.{one}
use Rattle.rules.proofs.Turns.{Keeps}
use Rattle.rules.proofs.Excluded.{Same}
use Rattle.rules.proofs.KmpMethod.{edge_stays}
use Rattle.prefixes.specs.CarriedOn.{turn_on, rest_on, carried_on, comparisons}
use Rattle.prefixes.specs.Promise.{FewFor}
use Rattle.prefixes.specs.Internal.{in_window, Stands}
use Rattle.prefixes.proofs.Leaving.{Leaves, kmp_leaves, leaves_shift, leaves_periodic}
use Rattle.prefixes.proofs.Turns.{On, over, matches, misses, whole, on, matched_turn, missed_turn, whole_turn, on_goes, on_ends, on_keeps}

module _ (w t : List ℕ) (some : 1 ≤ length w) where
  -- ---- The ceiling

  -- At window b and the matched length i at most 2b + i comparisons were made. The text's end is reached by a letter that agrees, in a window below
  -- n; or as a window is left by i + 1, which adds 2 or more to 2b + i for one comparison.
  record Few (s : State) : Type 0 where
    pub upto : s.rank ≤ length w
    pub inside : s.window + s.rank ≤ length t
    pub few : length s.made ≤ 2 * s.window + s.rank
    pub at_end : length t ≤ s.window + s.rank → FewFor (length t) (length s.made)

  few_turn : (s : State) → Few s → Keeps Few (λ e s. FewFor (length t) (length s.made)) s (turn_on w t s)
  unfolding matched compared missed leave
  few_turn s F = at_turn (turn_on w t s) (on w t s)
    where
      left : {c : ℕ} → s.window + s.rank < length t → c ≤ suc (length s.made) → length t ≤ s.window + kmp_shift w s.rank + (s.rank - kmp_shift w s.rank)
          → FewFor (length t) c
      left more l past =
          let L = kmp_leaves w some s.rank F.upto in
          record { asked = omega (arith, F.few, L.upto); sharper = λ h. omega (arith, F.few, L.upto) }

      at_turn : (T : Turn) → On w t s T → Keeps Few (λ e s. FewFor (length t) (length s.made)) s T
      at_turn _ (over l) = F.at_end l
      at_turn _ (matches more l e) = record {
        upto = l;
        inside = omega arith;
        few = omega (arith, F.few);
        at_end = λ past. record { asked = omega (arith, F.few); sharper = λ h. omega (arith, F.few) };
      }
      at_turn _ (misses more l e) =
          let L = kmp_leaves w some s.rank F.upto in
          record { upto = omega (arith, F.upto); inside = omega (arith, L.upto); few = omega (arith, F.few, L.on); at_end = left more (omega arith) }
      at_turn _ (whole more l) =
          let L = kmp_leaves w some s.rank F.upto in
          record { upto = omega (arith, F.upto); inside = omega (arith, L.upto); few = omega (arith, F.few, L.on); at_end = left more (omega arith) }

  pub carried_few : FewFor (length t) (comparisons w t)
  unfolding comparisons carried_on
  carried_few = on_keeps w t some Few (λ e s. FewFor (length t) (length s.made)) few_turn start record {
    upto = omega arith;
    inside = omega arith;
    few = omega arith;
    at_end = λ past. record { asked = omega arith; sharper = λ h. absurd (omega arith) };
  }

  -- ---- How a run stands

  pub stands_start : Stands w t 0 0 0
  unfolding carried_on
  stands_start = record {
    upto = omega arith;
    inside = omega arith;
    agree = λ p l. absurd (omega arith);
    made = [];
    count = refl;
    all = refl;
  }

  -- At the text's end all are made.
  pub ends_with : (b i : ℕ) (made : List Compared) → length t ≤ b + i → (rest_on w t (in_window b i made)).last.made ≡ made
  ends_with b i made l = ap (λ e. e.last.made) (on_ends w t some (in_window b i made) l)

  pub stands_over : {b i c : ℕ} → Stands w t b i c → length t ≤ b + i → c ≡ comparisons w t
  unfolding comparisons
  stands_over {b} {i} S l = sym S.count ∙ ap length (sym (ends_with b i S.made l) ∙ S.all)

  -- A turn leads on to another state.
  pub onto : (b i : ℕ) (made : List Compared) (r : State) → turn_on w t (in_window b i made) ≡ go r
      → (rest_on w t (in_window b i made)).last.made ≡ (carried_on w t).last.made → (rest_on w t r).last.made ≡ (carried_on w t).last.made
  onto b i made r e all = ap (λ e. e.last.made) (sym (on_goes w t some (in_window b i made) r e)) ∙ all

  -- ---- Letters that agree

  pub stands_matched : {b i c : ℕ} → Stands w t b i c → i < length w → b + i < length t → Same w t b i → Stands w t b (suc i) (suc c)
  unfolding matched compared
  stands_matched {b} {i} S l more e = record {
    upto = l;
    inside = omega arith;
    agree = λ p h. ⊎_elim (λ (a : p < i). S.agree p a) (λ (a : i ≤ p). let z : i ≡ p = omega arith in rw z at e) (less_or p i);
    made = one (kmp_plan w) b i true ∷ S.made;
    count = ap suc S.count;
    all = onto b i S.made _ (matched_turn w t (in_window b i S.made) more l e) S.all;
  }

  -- All of them from i on and below r.
  pub stands_extended : {b i c : ℕ} (r : ℕ) → Stands w t b i c → i ≤ r → r ≤ length w → b + r ≤ length t
      → ((p : ℕ) → i ≤ p → p < r → Same w t b p) → Stands w t b r (c + (r - i))
  stands_extended {b} {i} {c} r S from upto inside same = go (r - i) i c S (omega arith) (omega arith)
    where
      go : (n j d : ℕ) → Stands w t b j d → j + n ≡ r → i ≤ j → Stands w t b r (d + n)
      go zero j d S e l =
          let z : j ≡ r = omega arith in
          let y : d + 0 ≡ d = omega arith in
          rw (y, ← z) S
      go (suc n) j d S e l =
          let y : d + suc n ≡ suc d + n = omega arith in
          rw y (go n (suc j) (suc d) (stands_matched S (omega arith) (omega arith) (same j l (omega arith))) (omega arith) (omega arith))

  -- ---- The window is left

  left : {b i c : ℕ} (s c' : ℕ) (made : List Compared) → Stands w t b i c → Periodic (letter w) s i → b + s + (i - s) ≤ length t
      → length made ≡ c' → (rest_on w t (in_window (b + s) (i - s) made)).last.made ≡ (carried_on w t).last.made → Stands w t (b + s) (i - s) c'
  left s c' made S P inside count all = record {
    upto = omega (arith, S.upto);
    inside = inside;
    agree = λ p h. sym (P p (p + s) refl (omega arith)) ∙ S.agree (p + s) (omega arith) ∙ ap (letter t) (omega arith);
    made = made;
    count = count;
    all = all;
  }

  module _ {b i c : ℕ} (s : ℕ) (S : Stands w t b i c) where
    module _ (more : b + i < length t) (L : Leaves w i (suc i) s) where
      by : kmp_shift w i ≡ s
      by = leaves_shift w some i s S.upto L

      period : Periodic (letter w) s i
      period = leaves_periodic w i (suc i) s S.upto (omega arith) L (omega arith)

      pub stands_missed : i < length w → (Same w t b i → ⊥) → Stands w t (b + s) (i - s) (suc c)
      unfolding missed compared leave
      stands_missed l e =
          left s (suc c) (one (kmp_plan w) b i false ∷ S.made) S period (omega (arith, L.upto)) (ap suc S.count)
          (onto b i S.made _
          (missed_turn w t (in_window b i S.made) more l e ∙ rw (edge_stays w i b 0 S.upto, by) refl) S.all)

      pub stands_whole : length w ≤ i → Stands w t (b + s) (i - s) c
      unfolding leave
      stands_whole l =
          left s c S.made S period (omega (arith, L.upto)) S.count
          (onto b i S.made _
          (whole_turn w t (in_window b i S.made) more l ∙ rw (edge_stays w i b 0 S.upto, by) refl) S.all)

    -- At the text's end nothing is compared, whatever window is left for which.
    pub stands_after : length t ≤ b + i → Leaves w i i s → Stands w t (b + s) (i - s) c
    stands_after past L =
        left s c S.made S (leaves_periodic w i i s S.upto (omega arith) L (omega arith)) (omega (arith, S.inside, L.upto)) S.count
        (ends_with (b + s) (i - s) S.made (omega (arith, L.upto)) ∙ sym (ends_with b i S.made past) ∙ S.all)

  -- Windows that miss at place 0 are left by 1 each, with nothing matched: all of them from b on and below r.
  pub stands_passed : {b c : ℕ} (r : ℕ) → Stands w t b 0 c → b ≤ r → r ≤ length t → ((x : ℕ) → b ≤ x → x < r → letter w 0 ≡ letter t x → ⊥)
      → Stands w t r 0 (c + (r - b))
  stands_passed {b} {c} r S from inside differ = go (r - b) b c S (omega arith) (omega arith)
    where
      by_one : Leaves w 0 1 1
      by_one = record { on = omega arith; upto = omega arith; passed = λ k p h. absurd (omega arith); found = λ h. absurd (omega arith) }

      go : (n x d : ℕ) → Stands w t x 0 d → x + n ≡ r → b ≤ x → Stands w t r 0 (d + n)
      go zero x d S e l =
          let z : x ≡ r = omega arith in
          let y : d + 0 ≡ d = omega arith in
          rw (y, ← z) S
      go (suc n) x d S e l =
          let y : d + suc n ≡ suc d + n = omega arith in
          let z : suc x ≡ x + 1 = omega arith in
          let v : x + 0 ≡ x = omega arith in
          rw y (go n (suc x) (suc d)
          (rw z (stands_missed 1 S (omega arith) by_one some (λ same. differ x l (omega arith) (rw v at same)))) (omega arith) (omega arith))
