-- What a correction answers in each case, and what it leaves in the list. Assumes nothing.
use Prim.Native.Nat.{ℕ, ◌≤◌, ◌<◌}
use mathlib.Core.Path.{◌≡◌, refl, sym, ap, ◌∙◌}
use mathlib.Core.Logic.{◌⊎◌, ⊎_elim}
use mathlib.Core.Bool.{Bool, true, false}
use mathlib.Core.List.{List, ◌++◌}
use native.Mathlib.Omega.{arith}
use lib.Dec.{leb}
use lib.ListN.{length, take, drop, take-append-drop}
use lib.Seq.{length-take-le}
use borrow.Author.Tests.{le-leb}
use Rattle.std.specs.Prelude.{Result, Ok, Err}
use Rattle.words.proofs.Cases.{not_both}
use Rattle.admission.specs.Admitted.{longest_text, judged, admitted, also_judged}
use Rattle.admission.proofs.Admitting.{refused_before, as_before, passes_all, admitted_is}
use Rattle.lists.specs.Lists.{in_order}
use Rattle.lists.proofs.Ascending.{in_order_is}
use Rattle.pattern.specs.Letters.{word_of, text_of}
use Rattle.pattern.specs.declared.Pattern.{Pattern}
use Rattle.pattern.proofs.Letters.{length_text}
use Rattle.refusal.specs.Tests.{Tested, passed}
use Rattle.refusal.specs.declared.Refusal.{Refusal}
use Rattle.refusal.specs.declared.Refusal.TheVariants.{FalseList, ShortList}
use Rattle.update.specs.Update.{updated}
use Rattle.update.proofs.Joining.{updated_outside}
use Rattle.correct.specs.Answer.{admitted_list, with_room, answered, listed, answer_of, list_of}

-- ---- Of what the door says

module _ {a : Tested} (used : ℕ) where
  pub answered_in : a ≡ passed → answered a used ≡ Ok used
  unfolding answered
  answered_in e = rw (e, answered) refl

  pub answered_not : {why : Refusal} → a ≡ Err why → answered a used ≡ Err why
  unfolding answered
  answered_not e = rw (e, answered) refl

module _ {a : Tested} (new lent : List ℕ) where
  pub listed_in : a ≡ passed → listed a new lent ≡ new ++ drop (length new) lent
  unfolding listed
  listed_in e = rw (e, listed) refl

  pub listed_not : {why : Refusal} → a ≡ Err why → listed a new lent ≡ lent
  unfolding listed
  listed_not e = rw (e, listed) refl

-- Who is not let in is refused.
refused_by : (a : Tested) → (a ≡ passed → ⊥) → (why : Refusal) × (a ≡ Err why)
refused_by (Ok tt) none = absurd (none refl)
refused_by (Err why) none = (why, refl)

-- ---- Of the tests

module _ (p : Pattern) (t : List ℕ) (place : ℕ) (lent : List ℕ) (used : ℕ) where
  -- The answer r, and the list afterwards.
  pub record Answers (r : Result ℕ Refusal) (after : List ℕ) : Type 0 where
    pub answer : r ≡ answer_of p t place lent used
    pub list : after ≡ list_of p t place lent used

  -- The entries brought up to date.
  abbrev pub new_of : List ℕ
  new_of = updated (word_of p) (text_of p t) place (take used lent)

  -- Tests 4, 5 and 19; and all.
  abbrev pub before20 : Tested
  before20 = admitted_list p (length t) lent used

  abbrev pub tested : Tested
  tested = with_room before20 new_of lent

  -- It is the answer of the door that makes these tests.
  pub answers_as : {r : Result ℕ Refusal} {after : List ℕ} → r ≡ answered tested (length new_of) → after ≡ listed tested new_of lent → Answers r after
  unfolding answer_of list_of
  answers_as e f = record { answer = e; list = f }

  pub as_answer : answer_of p t place lent used ≡ answered tested (length new_of)
  unfolding answer_of
  as_answer = refl

  pub as_list : list_of p t place lent used ≡ listed tested new_of lent
  unfolding list_of
  as_list = refl

  -- A refusal before test 20 is the answer.
  tested_not : {why : Refusal} → before20 ≡ Err why → tested ≡ Err why
  unfolding with_room
  tested_not e = refused_before (leb (length new_of) (length lent)) ShortList e

  pub refused : {why : Refusal} → before20 ≡ Err why → Answers (Err why) lent
  refused e = answers_as (sym (answered_not _ (tested_not e))) (sym (listed_not new_of lent (tested_not e)))

  -- So where nothing is searched since a test is not passed.
  not_in : (before20 ≡ passed → ⊥) → {r : Result ℕ Refusal} → r ≡ answered before20 used → Answers r lent
  not_in none e =
      let R = refused_by before20 none in
      rw (e ∙ answered_not used R.1) (refused R.1)

  pub long_text : longest_text < length t → {r : Result ℕ Refusal} → r ≡ answered before20 used → Answers r lent
  unfolding admitted_list
  long_text l = not_in (λ e. omega (arith, (admitted_is p (length t) (passes_all (admitted p (length t)) (in_order lent used) FalseList e).0).fits))

  pub false_list : in_order lent used ≡ false → {r : Result ℕ Refusal} → r ≡ answered before20 used → Answers r lent
  unfolding admitted_list
  false_list f = not_in (λ e. not_both (in_order lent used) (passes_all (admitted p (length t)) (in_order lent used) FalseList e).1 f)

  -- And where the place is not in the text: the list stays as it is.
  module _ (fits : used ≤ length lent) (outside : length t ≤ place) where
    new_same : new_of ≡ take used lent
    new_same = updated_outside (word_of p) (text_of p t) place (take used lent) (omega (arith, length_text p t))

    new_length : length new_of ≡ used
    new_length = ap length new_same ∙ length-take-le used lent fits

    tested_same : tested ≡ before20
    unfolding with_room
    tested_same = as_before before20 ShortList (le-leb (length new_of) (length lent) (omega (arith, new_length)))

    list_same : (a : Tested) → listed a new_of lent ≡ lent
    list_same (Ok tt) = listed_in new_of lent refl ∙ rw (new_length, new_same) (take-append-drop used lent)
    list_same (Err why) = listed_not new_of lent refl

    pub place_outside : {r : Result ℕ Refusal} → r ≡ answered before20 used → Answers r lent
    place_outside e = answers_as (e ∙ rw (tested_same, new_length) refl) (sym (list_same tested))

  -- These are the cases where nothing is searched: the door answers, by how the list was found.
  pub unsearched : {listing : Bool} → listing ≡ in_order lent used
      → (longest_text < length t) ⊎ ((listing ≡ false) ⊎ ((listing ≡ true) × (length t ≤ place)))
      → {r : Result ℕ Refusal} → r ≡ answered (also_judged (admitted p (length t)) listing FalseList) used → Answers r lent
  unfolding admitted_list
  unsearched is cases e =
      let f = rw is at e in
      ⊎_elim (λ l. long_text l f)
      (λ more. ⊎_elim (λ l. false_list (sym is ∙ l) f) (λ l. place_outside (in_order_is lent used (sym is ∙ l.0)).0 l.1 f) more)
      cases

  -- ---- In a list that is in order only tests 4, 5 and 20 are left

  module _ (order : in_order lent used ≡ true) where
    pub before_is : before20 ≡ admitted p (length t)
    unfolding admitted_list
    before_is = as_before (admitted p (length t)) FalseList order

    -- Who passes the first two is told by the room.
    pub updates : admitted p (length t) ≡ passed → {r : Result ℕ Refusal} {new after : List ℕ} → new ≡ new_of
        → r ≡ answered (with_room passed new lent) (length new) → after ≡ listed (with_room passed new lent) new lent → Answers r after
    updates e is f g =
        let h = before_is ∙ e in
        answers_as (f ∙ rw (h, is) refl) (g ∙ rw (h, is) refl)

-- A part of a text has the same answer at the door.
pub door_of_part : (p : Pattern) (k n : ℕ) → k ≤ longest_text → n ≤ longest_text → admitted p k ≡ admitted p n
unfolding admitted judged
door_of_part p k n f g = rw (le-leb k longest_text f, le-leb n longest_text g) refl
