-- What `prefix_lengths` answers in each case, and its promises as laws of its answer. Assumes nothing.
use Prim.Native.Nat.{ℕ, ◌+◌, ◌≤◌, ◌<◌}
use mathlib.Core.Path.{◌≡◌, refl, sym, ap, ◌∙◌, subst}
use mathlib.Core.Logic.{◌↔◌, ⊎_elim}
use mathlib.Core.List.{List}
use native.Mathlib.Omega.{arith}
use lib.ListN.{length, get_or}
use borrow.Author.Tests.{leb-true}
use Rattle.words.proofs.Cases.{less_or}
use Rattle.admission.specs.Admitted.{judged, admitted, also_judged, IsAdmitted}
use Rattle.admission.proofs.Admitting.{at_the_door, admitted_is, passes_all}
use Rattle.checked.proofs.Reading.{fields_of}
use Rattle.classes.specs.Classes.{through, identity, OccursBy}
use Rattle.classes.proofs.Through.{length_through, through_at}
use Rattle.pattern.specs.Letters.{own_bytes, word_of, text_of}
use Rattle.pattern.specs.declared.Pattern.{Pattern}
use Rattle.pattern.proofs.Letters.{length_text, word_through, text_through, word_plain, text_plain}
use Rattle.checked.specs.Check.{is_prepared}
use Rattle.std.specs.Prelude.{Bool, true, false, leb, Result, Ok, Err, IfOk}
use Rattle.refusal.specs.Tests.{Tested, passed}
use Rattle.refusal.specs.declared.Refusal.{Refusal}
use Rattle.refusal.specs.declared.Refusal.TheVariants.{ShortLengths}
use Rattle.rules.specs.Occurs.{Occurs, occurrences}
use Rattle.rules.specs.declared.Ending.TheVariants.{Done}
use Rattle.rules.proofs.Occurs.{accounted_lists}
use Rattle.prefixes.specs.Longest.{lengths_in}
use Rattle.prefixes.specs.CarriedOn.{comparisons}
use Rattle.prefixes.specs.Promise.{FewFor, AsKmp}
use Rattle.prefixes.proofs.Entries.{longest_is, whole_occurs, lengths_at}
use Rattle.prefixes.proofs.Standing.{carried_few}
use Rattle.prefixes.proofs.AsKmp.{as_kmp}
use Rattle.lengths.specs.Answer.{answered, listed, answer_of, list_of, plain_answer_of, plain_list_of}
use Rattle.lengths.specs.Promise.{LongestBy, EachLongest, WholeWhere}

-- ---- Of letters, in terms of bytes

module _ (c w t lent : List ℕ) where
  abbrev letters : List ℕ
  letters = through c w

  abbrev text : List ℕ
  text = through c t

  each_longest : (x : ℕ) → x < length t → LongestBy c w t x (get_or (lengths_in letters text lent) x 0)
  each_longest x l =
      let m = length_through c w in
      let n = length_through c t in
      rw (lengths_at letters text lent x (omega arith)) (
      let L = longest_is letters text x (omega arith) in
      record {
        upto = omega (arith, L.upto);
        inside = omega (arith, L.inside);
        same = λ p h. sym (through_at c w p (omega (arith, L.upto))) ∙ L.same p h ∙ through_at c t (x + p) (omega (arith, L.inside));
        ends = λ a b e. L.ends (omega arith) (omega arith) (through_at c w _ a ∙ e ∙ sym (through_at c t _ b));
      })

  -- An entry is m exactly where the pattern occurs,
  whole_occurs_by : (x : ℕ) → x < length t → (get_or (lengths_in letters text lent) x 0 ≡ length w) ↔ OccursBy c w t x
  whole_occurs_by x l =
      let L = each_longest x l in
      let r : ℕ = get_or (lengths_in letters text lent) x 0 in (
        λ e. record { inside = omega (arith, L.inside); same = λ p h. L.same p (omega arith) },
        λ O. ⊎_elim
            (λ (a : r < length w). absurd (L.ends a (omega (arith, O.inside)) (O.same r a)))
            (λ (a : length w ≤ r). omega (arith, L.upto))
            (less_or r (length w)),
      )

  -- and exactly where it stands in the full list of positions.
  whole_listed : (x : ℕ) → x < length t → (get_or (lengths_in letters text lent) x 0 ≡ length w)
      ↔ ((i : ℕ) × (i < length (occurrences letters text)) × (get_or (occurrences letters text) i 0 ≡ x))
  whole_listed x l =
      let n = length_through c t in
      let F = accounted_lists letters text Done in
      let W = whole_occurs letters text x (omega arith) in
      rw (lengths_at letters text lent x (omega arith), ← length_through c w)
      (λ e. F.all x tt (W.0 e), λ i. W.1 (subst (Occurs letters text) i.2 (F.occur i.0 i.1)))

-- ---- In each case

-- Who does not pass a test is refused,
refused_is : (a : Tested) (w t : List ℕ) (size : ℕ) (passes : Bool) {why : Refusal} → leb (length t) size ≡ passes
    → also_judged a passes ShortLengths ≡ Err why → answered a w t size ≡ Err why
unfolding answered also_judged
refused_is (Ok tt) w t size true e is = cc
refused_is (Ok tt) w t size false e is = rw e (cc)
refused_is (Err first) w t size passes e is = cc

-- and who passes all gets the count.
counted_is : (a : Tested) (w t : List ℕ) (size : ℕ) → also_judged a (leb (length t) size) ShortLengths ≡ passed
    → answered a w t size ≡ Ok (comparisons w t)
unfolding answered
counted_is a w t size e = let h = passes_all a (leb (length t) size) ShortLengths e in rw (h.0, h.1, answered) refl

module _ (p : Pattern) (t lent : List ℕ) where
  -- The answer r, and the list afterwards.
  pub record Answers (r : Result ℕ Refusal) (after : List ℕ) : Type 0 where
    pub answer : r ≡ answer_of p t (length lent)
    pub list : after ≡ list_of p t lent

  -- What the tests come to.
  abbrev pub tested : Tested
  tested = also_judged (admitted p (length t)) (leb (length t) (length lent)) ShortLengths

  -- They are told what `is_prepared` answers.
  pub at_the_tests : {a : Tested} {r : Bool} → a ≡ judged r (length t) → r ≡ is_prepared p → {b : Tested}
      → b ≡ also_judged a (leb (length t) (length lent)) ShortLengths → tested ≡ b
  at_the_tests e q is = ap (λ a. also_judged a (leb (length t) (length lent)) ShortLengths) (at_the_door p (length t) e q) ∙ sym is

  pub tested_is : tested ≡ passed → IsAdmitted p (length t) × (length t ≤ length lent)
  tested_is e =
      let h = passes_all (admitted p (length t)) (leb (length t) (length lent)) ShortLengths e in
      (admitted_is p (length t) h.0, leb-true _ _ h.1)

  answers : {r : Result ℕ Refusal} {after : List ℕ} → answer_of p t (length lent) ≡ r → listed r (word_of p) (text_of p t) lent ≡ after
      → Answers r after
  unfolding list_of
  answers e f = record { answer = sym e; list = sym f ∙ rw (e, list_of) refl }

  -- A refusal leaves the list as it was lent.
  pub refused : {why : Refusal} → tested ≡ Err why → Answers (Err why) lent
  unfolding answer_of listed
  refused e = answers (refused_is (admitted p (length t)) (word_of p) (text_of p t) (length lent) _ refl (rw (length_text p t) e)) refl

  -- And a scan of the text writes it.
  pub counted : tested ≡ passed → {count : ℕ} {after : List ℕ} → count ≡ comparisons (word_of p) (text_of p t)
      → after ≡ lengths_in (word_of p) (text_of p t) lent → Answers (Ok count) after
  unfolding answer_of listed
  counted e count after =
      rw (count, after) (answers (counted_is (admitted p (length t)) (word_of p) (text_of p t) (length lent) (rw (length_text p t) e)) refl)

  -- ---- The promises

  -- What holds of the scans, and of every refusal, holds of the answer.
  promised : (P : List ℕ → ℕ → Type 0)
      → (IsAdmitted p (length t) → P (lengths_in (word_of p) (text_of p t) lent) (comparisons (word_of p) (text_of p t)))
      → {r : Result ℕ Refusal} {after : List ℕ} → Answers r after → IfOk r (P after)
  promised P holds A = rw (A.answer, A.list) (at tested refl)
    where
      from : {r : Result ℕ Refusal} {after : List ℕ} → Answers r after → IfOk r (P after) → IfOk (answer_of p t (length lent)) (P (list_of p t lent))
      from B h = rw (← B.answer, ← B.list) h

      at : (a : Tested) → tested ≡ a → IfOk (answer_of p t (length lent)) (P (list_of p t lent))
      at (Ok tt) e = from (counted e refl refl) (holds (tested_is e).0)
      at (Err why) e = from (refused e) tt

  -- Through the classes that give each value itself, it is the same of the bytes.
  plain : p.classes ≡ identity → {r : Result ℕ Refusal} {after : List ℕ} → Answers r after
      → (r ≡ plain_answer_of p t (length lent)) × (after ≡ plain_list_of p t lent)
  unfolding answer_of list_of plain_answer_of plain_list_of
  plain e A = (A.answer ∙ rw (word_plain p e, text_plain p e t) refl, A.list ∙ rw (word_plain p e, text_plain p e t) refl)

  some_letter : IsAdmitted p (length t) → 1 ≤ length (word_of p)
  some_letter I = let F = fields_of p I.prepared in omega (arith, F.some, F.word)

  -- What `prefix_lengths` ensures of its answer and its list.
  pub promises : {r : Result ℕ Refusal} {after : List ℕ} → Answers r after → record {
    answer : r ≡ answer_of p t (length lent);
    list : after ≡ list_of p t lent;
    longest : IfOk r (λ count. EachLongest p.classes (own_bytes p) t after);
    whole : IfOk r (λ count. WholeWhere p.classes (own_bytes p) t (occurrences (word_of p) (text_of p t)) after);
    ceiling : IfOk r (FewFor (length t));
    kmp : IfOk r (λ count. AsKmp (word_of p) (text_of p t));
    plain : p.classes ≡ identity → (r ≡ plain_answer_of p t (length lent)) × (after ≡ plain_list_of p t lent);
  }
  promises A = record {
    answer = A.answer;
    list = A.list;
    longest = promised (λ after count. EachLongest p.classes (own_bytes p) t after)
        (λ I. rw (word_through p, text_through p t) (each_longest p.classes (own_bytes p) t lent)) A;
    whole = promised (λ after count. WholeWhere p.classes (own_bytes p) t (occurrences (word_of p) (text_of p t)) after)
        (λ I. rw (word_through p, text_through p t) record {
          occurs = whole_occurs_by p.classes (own_bytes p) t lent;
          stands = whole_listed p.classes (own_bytes p) t lent;
        }) A;
    ceiling = promised (λ after. FewFor (length t)) (λ I. rw (length_text p t) at (carried_few (word_of p) (text_of p t) (some_letter I))) A;
    kmp = promised (λ after count. AsKmp (word_of p) (text_of p t)) (λ I. as_kmp (word_of p) (text_of p t) (some_letter I)) A;
    plain = λ e. plain e A;
  }
