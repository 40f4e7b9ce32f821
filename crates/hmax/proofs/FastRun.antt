-- The fast method leaves hmax, and makes few comparisons. Assumes nothing.
use Prim.Native.Nat.{ℕ, zero, suc, ◌+◌, ◌-◌, ◌*◌, ◌≤◌, ◌<◌, min, max}
use mathlib.Core.Path.{◌≡◌, refl, sym, ap, ◌∙◌, subst}
use mathlib.Core.Logic.{⊎_elim}
use mathlib.Core.Bool.{true, false}
use mathlib.Core.List.{List, [], ◌∷◌, ◌++◌}
use native.Mathlib.Omega.{arith}
use lib.Dec.{ltb, eqb}
use lib.ListN.{length, get_or, length-append, get_or-append}
use lib.Seq.{get_or-append_seam}
use borrow.Author.Tests.{ltb-true, ltb-false, le-leb, lt-leb, eqb-true, eqb-false, eq-eqb, ne_eqb}
use Rattle.words.specs.Numbers.{tabulate}
use Rattle.words.specs.Tables.{letter, hmax}
use Rattle.words.proofs.Cases.{less_or, true_or_false}
use Rattle.words.proofs.Tabulate.{by_entries}
use Rattle.words.proofs.Noholes.{Hmax, hmax_is, hmax_zero}
use Rattle.hmax.specs.FastMethod.{State, start, store, compare, further, extend, derived, derive, advance, turn, turns, run, comparisons}
use Rattle.hmax.specs.FastMethod.{FewCompared}
use Rattle.hmax.specs.Table.{HasHmax}
use Rattle.hmax.specs.Internal.Steps.{Underived}
use Rattle.hmax.proofs.Hmaxes.{ends_where_differ, leads_on, ends_with_word, given}
use Rattle.hmax.proofs.Turns.{Begins, begins_first, begins_next}

-- One entry more.
known_more : (w l : List ℕ) (v : ℕ) → v ≡ hmax w (length l) → HasHmax w l (length l) → HasHmax w (l ++ (v ∷ [])) (suc (length l))
known_more w l v e H j h = ⊎_elim
    (λ (a : j < length l). get_or-append l (v ∷ []) 0 j a ∙ H j a)
    (λ (a : length l ≤ j). let z : j ≡ length l = omega arith in rw z (get_or-append_seam l v [] 0 ∙ e))
    (less_or j (length l))

length_more : (l : List ℕ) (v : ℕ) → length (l ++ (v ∷ [])) ≡ suc (length l)
length_more l v = length-append l (v ∷ []) ∙ omega arith

module _ (w : List ℕ) where
  -- ---- while w[i] = w[i - k] do i := i + 1

  record Extended (s e : State) : Type 0 where
    pub k : e.k ≡ s.k
    pub table : e.table ≡ s.table
    pub i : e.i ≡ hmax w s.k
    pub count : length e.made + s.i ≡ length s.made + min (suc (hmax w s.k)) (length w)

  extend_is : (n : ℕ) (s : State) → 1 ≤ s.k → s.k ≤ length w → s.k ≤ s.i → s.i ≤ hmax w s.k → n + s.i ≡ length w → Extended s (extend w n s)
  unfolding extend compare further
  extend_is zero s pos le from upto left =
      let end = ends_with_word w s.k s.i pos le from upto (omega arith) in
      record { k = refl; table = refl; i = end; count = omega arith }
  extend_is (suc n) s pos le from upto left = ⊎_elim
      (λ (e : eqb (letter w s.i) (letter w (s.i - s.k)) ≡ true).
      let on = leads_on w s.k s.i pos le from upto (omega arith) (eqb-true _ _ e) in
      let E = extend_is n (further (compare s)) pos le (omega arith) (omega arith) (omega arith) in
      rw (e, extend) record { k = E.k; table = E.table; i = E.i; count = omega (arith, E.count) })
      (λ (e : eqb (letter w s.i) (letter w (s.i - s.k)) ≡ false).
      let end = ends_where_differ w s.k s.i pos le from upto (eqb-false _ _ e) in
      rw (e, extend) record { k = refl; table = refl; i = end; count = omega arith })
      (true_or_false (eqb (letter w s.i) (letter w (s.i - s.k))))

  -- ---- while hmax[q - k] + k < i do begin hmax[q] := hmax[q - k] + k; q := q + 1 end

  record Derived (s d : State) : Type 0 where
    pub i : d.i ≡ s.i
    pub made : d.made ≡ s.made
    pub first : Underived w s.k (length d.table)
    pub near : length d.table ≤ suc s.i
    pub known : HasHmax w d.table (length d.table)

  -- It stops at once.
  stopped : (s : State) → s.k < length s.table → length s.table ≤ suc s.i → s.i ≤ length w
      → ((q : ℕ) → s.k < q → q < length s.table → hmax w (q - s.k) + s.k < hmax w s.k)
      → (length s.table ≤ length w → hmax w s.k ≤ hmax w (length s.table - s.k) + s.k)
      → HasHmax w s.table (length s.table) → Derived s s
  stopped s more near upto passed stops known = record {
    i = refl;
    made = refl;
    first = record { more = more; upto = omega arith; passed = passed; stops = stops };
    near = near;
    known = known;
  }

  derive_is : (n : ℕ) (s : State) → 1 ≤ s.k → s.k ≤ length w → s.i ≡ hmax w s.k → s.k < length s.table
      → length s.table + n ≡ suc s.i
      → ((q : ℕ) → s.k < q → q < length s.table → hmax w (q - s.k) + s.k < hmax w s.k)
      → HasHmax w s.table (length s.table) → Derived s (derive n s)
  unfolding derive derived store
  derive_is zero s pos le at more left passed known =
      let H = hmax_is w s.k pos le in
      let upto = H.upto in
      stopped s more (omega arith) (omega arith) passed
      (λ l. omega (arith, (hmax_is w (length s.table - s.k) (omega arith) (omega arith)).from)) known
  derive_is (suc n) s pos le at more left passed known =
      let H = hmax_is w s.k pos le in
      let upto = H.upto in
      let q : ℕ = length s.table in
      let read : derived s ≡ hmax w (q - s.k) + s.k = ap (λ x. x + s.k) (known (q - s.k) (omega arith)) in
      ⊎_elim
      (λ (e : ltb (derived s) s.i ≡ true).
      let l : hmax w (q - s.k) + s.k < hmax w s.k = omega (arith, ltb-true (derived s) s.i e, read) in
      let g = given w s.k q pos more (omega arith) l in
      let z = length_more s.table (derived s) in
      let D = derive_is n (store (derived s) s) pos le at (omega arith) (omega arith)
      (λ p a b. ⊎_elim (λ (c : p < q). passed p a c) (λ (c : q ≤ p). let y : p ≡ q = omega arith in rw y l) (less_or p q))
      (rw z (known_more w s.table (derived s) (read ∙ sym g) known)) in
      rw (e, derive) record { i = D.i; made = D.made; first = D.first; near = D.near; known = D.known })
      (λ (e : ltb (derived s) s.i ≡ false).
      rw (e, derive) (stopped s more (omega arith) (omega arith) passed (λ l. omega (arith, ltb-false (derived s) s.i e, read)) known))
      (true_or_false (ltb (derived s) s.i))

  -- ---- k := q; if k = i + 1 then i := k

  advance_to : (s : State) → length s.table ≤ suc s.i → (advance s).i ≡ max (length s.table) s.i
  unfolding advance
  advance_to s l = ⊎_elim
      (λ (a : length s.table < suc s.i). rw (ne_eqb (length s.table) (suc s.i) (λ e. omega arith), advance) (omega arith))
      (λ (a : suc s.i ≤ length s.table). rw (eq-eqb (length s.table) (suc s.i) (omega arith), advance) (omega arith))
      (less_or (length s.table) (suc s.i))

  -- ---- A turn

  -- Before the next comparison, at k and i, at most (i - 1) + (k - 1) were made: an equal one brings i up, an unequal one k.
  pub record Holds (s : State) : Type 0 where
    pub begins : Begins w s.k s.i
    pub size : length s.table ≡ s.k
    pub known : HasHmax w s.table s.k
    pub account : length s.made + 2 ≤ s.i + s.k
    pub few : length s.made ≤ 2 * length w - 3

  pub record Turned (s t : State) : Type 0 where
    pub first : Underived w s.k t.k
    pub place : t.i ≡ max t.k (hmax w s.k)
    pub count : length t.made + s.i ≡ length s.made + min (suc (hmax w s.k)) (length w)
    pub holds : Holds t

  module _ (s : State) (H : Holds s) (le : s.k ≤ length w) where
    begin : s.i ≤ hmax w s.k
    begin = H.begins.known le

    K : Hmax w s.k (hmax w s.k)
    K = hmax_is w s.k H.begins.positive le

    turned : (e d : State) → Extended s e → Derived (store e.i e) d → Turned s (advance d)
    unfolding advance store
    turned e d E D =
        let at : d.i ≡ hmax w s.k = D.i ∙ E.i in
        let first : Underived w s.k (length d.table) = subst (λ k. Underived w k (length d.table)) E.k D.first in
        let place : (advance d).i ≡ max (length d.table) (hmax w s.k) =
        advance_to d (omega (arith, D.near, D.i)) ∙ ap (max (length d.table)) at in
        let count = E.count in
        let made = ap length D.made in
        let begins = begins_next w s.k s.i (length d.table) H.begins le first in
        record {
          first = first;
          place = place;
          count = omega (arith, count, made);
          holds = record {
            begins = rw place begins;
            size = refl;
            known = D.known;
            account = omega (arith, place, count, made, H.account, first.more);
            few = omega (arith, count, made, H.account, H.few, H.begins.from, K.upto, begin);
          };
        }

    derived_after : (e : State) → Extended s e → Derived (store e.i e) (derive (e.i - e.k) (store e.i e))
    unfolding store
    derived_after e E =
        let at : e.i ≡ hmax w e.k = E.i ∙ ap (hmax w) (sym E.k) in
        let size : length e.table ≡ e.k = ap length E.table ∙ H.size ∙ sym E.k in
        let known : HasHmax w e.table (length e.table) =
        λ j a. ap (λ l. get_or l j 0) E.table ∙ H.known j (omega (arith, E.k)) in
        let z = length_more e.table e.i in
        derive_is (e.i - e.k) (store e.i e) (omega (arith, E.k, H.begins.positive)) (omega (arith, E.k)) at (omega arith)
        (omega (arith, E.i, E.k, K.from)) (λ q a b. absurd (omega arith))
        (rw z (known_more w e.table e.i (at ∙ ap (hmax w) (sym size)) known))

    pub turn_is : Turned s (turn w s)
    unfolding turn
    turn_is =
        let e = extend w (length w - s.i) s in
        let E : Extended s e =
        extend_is (length w - s.i) s H.begins.positive le H.begins.from begin (omega (arith, K.upto, begin)) in
        turned e (derive (e.i - e.k) (store e.i e)) E (derived_after e E)

  -- ---- The whole method

  turns_is : (n : ℕ) (s : State) → Holds s → length w < n + s.k → Holds (turns w n s) × (length w < (turns w n s).k)
  unfolding turns
  turns_is zero s H l = (H, omega arith)
  turns_is (suc n) s H l = ⊎_elim
      (λ (b : s.k < suc (length w)).
      let T = turn_is s H (omega arith) in
      rw (le-leb s.k (length w) (omega arith), turns) (turns_is n (turn w s) T.holds (omega (arith, T.first.more))))
      (λ (a : suc (length w) ≤ s.k). rw (lt-leb s.k (length w) a, turns) (H, a))
      (less_or s.k (suc (length w)))

  pub start_holds : Holds (start w)
  unfolding start
  start_holds = record {
    begins = begins_first w;
    size = refl;
    known = λ j h. let z : j ≡ 0 = omega arith in rw z (sym (hmax_zero w));
    account = omega arith;
    few = omega arith;
  }

  at_end : Holds (run w) × (length w < (run w).k)
  unfolding run start
  at_end = turns_is (length w) (start w) start_holds (omega arith)

  -- The table that the method leaves is that of the definition.
  pub run_table : (run w).table ≡ tabulate (suc (length w)) (hmax w)
  run_table =
      let H = at_end.0 in
      let k : (run w).k ≡ suc (length w) = omega (arith, at_end.1, H.begins.from, H.begins.upto) in
      by_entries (suc (length w)) (hmax w) (run w).table (H.size ∙ k) (λ i l. H.known i (omega arith))

  pub comparisons_few : FewCompared (length w) (comparisons w)
  unfolding comparisons
  comparisons_few = let few = at_end.0.few in record { asked = λ l. omega arith; alone = λ l. omega arith; sharper = λ l. omega arith }

-- None are few.
pub none_few : (m : ℕ) → FewCompared m 0
none_few m = record { asked = λ l. omega arith; alone = λ l. refl; sharper = λ l. omega arith }
