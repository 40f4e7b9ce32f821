-- What a search of one record answers in each case; a promise of the search of the record's bytes is one of all answers. Assumes nothing.
use Prim.Native.Nat.{ℕ}
use mathlib.Core.Path.{◌≡◌, refl, sym, ap, ◌∙◌}
use mathlib.Core.Bool.{Bool, true, false}
use mathlib.Core.List.{List}
use lib.ListN.{length}
use Rattle.std.specs.Prelude.{Option, Some, None, Result, Ok, Err, IfOk}
use Rattle.admission.specs.Admitted.{judged, admitted}
use Rattle.admission.proofs.Admitting.{false_pattern, lets_in}
use Rattle.checked.specs.Check.{is_prepared}
use Rattle.classes.specs.Classes.{identity}
use Rattle.directory.specs.Archive.{bounds_by, record_of}
use Rattle.directory.specs.declared.Bounds.{Bounds}
use Rattle.directory.proofs.Records.{lies_at}
use Rattle.pattern.specs.Letters.{own_bytes, word_of, text_of}
use Rattle.pattern.specs.declared.Pattern.{Pattern}
use Rattle.pattern.proofs.Letters.{word_plain, text_plain}
use Rattle.refusal.specs.Tests.{passed}
use Rattle.refusal.specs.Unless.{unless}
use Rattle.refusal.specs.declared.Refusal.{Refusal}
use Rattle.refusal.specs.declared.Refusal.TheVariants.{FalsePattern}
use Rattle.rules.specs.Rules.{End, Search}
use Rattle.rules.specs.declared.Report.{Report}
use Rattle.search.specs.Answer as searching
use Rattle.archive.specs.Answer.{answered, listed, answer_by, list_by, plain_answer_by, plain_list_by, of_search}
use Rattle.archive.specs.Promise.{IfRan}
use Rattle.archive.specs.Internal.{to_search}

-- An answer of the search of the record's bytes.
of_search_lem : (P : Report → Type 0) (s : Result Report Refusal) → IfOk s P → IfRan P (of_search s)
of_search_lem P (Ok r) h = h
of_search_lem P (Err why) h = tt

module _ (search : Search) (p : Pattern) (a : List ℕ) (r cap : ℕ) (lent : List ℕ) where
  -- The answer x, and the list afterwards.
  pub record Answers (x : Result (Option Report) Refusal) (after : List ℕ) : Type 0 where
    pub answer : x ≡ answer_by search p a r cap (length lent)
    pub list : after ≡ list_by search p a r cap lent

  -- The search that is asked for.
  abbrev asked : End
  asked = search (word_of p) (text_of p (record_of a r)) cap (length lent)

  -- What is answered, and the list then.
  abbrev answer : Result (Option Report) Refusal
  answer = answer_by search p a r cap (length lent)

  abbrev list : List ℕ
  list = list_by search p a r cap lent

  -- The same of the search of the record's bytes by themselves.
  abbrev answer_alone : Result Report Refusal
  answer_alone = searching.answer_by search p (record_of a r) cap (length lent)

  abbrev list_alone : List ℕ
  list_alone = searching.list_by search p (record_of a r) cap lent

  -- Test 4 comes before an answer.
  abbrev after_4 : Result (Option Report) Refusal → Result (Option Report) Refusal
  after_4 x = unless (is_prepared p) (Err FalsePattern) x

  -- ---- No record to search

  unsearched : (x : Result (Option Report) Refusal) {y : Result (Option Report) Refusal} → answer ≡ after_4 x
      → ((b : Bool) → listed (unless b (Err FalsePattern) x) asked lent ≡ lent)
      → y ≡ after_4 x → Answers y lent
  unfolding list_by
  unsearched x e same f =
      record { answer = f ∙ sym e; list = sym (ap (λ (z : Result (Option Report) Refusal). listed z asked lent) e ∙ same (is_prepared p)) }

  pub no_record : bounds_by a r ≡ Ok None → {y : Result (Option Report) Refusal} → y ≡ after_4 (Ok None) → Answers y lent
  unfolding answer_by answered listed
  no_record e = unsearched (Ok None) (rw (e, answer_by) refl) at
    where
      at : (b : Bool) → listed (unless b (Err FalsePattern) (Ok None)) asked lent ≡ lent
      at true = refl
      at false = refl

  pub no_archive : {why : Refusal} → bounds_by a r ≡ Err why → {y : Result (Option Report) Refusal} → y ≡ after_4 (Err why) → Answers y lent
  unfolding answer_by answered listed
  no_archive {why} e = unsearched (Err why) (rw (e, answer_by) refl) at
    where
      at : (b : Bool) → listed (unless b (Err FalsePattern) (Err why)) asked lent ≡ lent
      at true = refl
      at false = refl

  -- So for what is told in place of a search. Else the bounds are those of the record.
  abbrev Told : Result (Option Bounds) Refusal → Type 0
  Told (Ok (Some b)) = bounds_by a r ≡ Ok (Some b)
  Told (Ok None) = Answers (Ok None) lent
  Told (Err why) = Answers (Err why) lent

  pub told : {x : Result (Option Bounds) Refusal} → x ≡ to_search p a r → Told x
  unfolding to_search
  told e = rw (e, to_search) (at (bounds_by a r) refl (is_prepared p) refl)
    where
      at : (b : Result (Option Bounds) Refusal) → bounds_by a r ≡ b → (prepared : Bool) → is_prepared p ≡ prepared → Told (to_search p a r)
      at (Ok (Some b)) e prepared q = rw (e, to_search) e
      at (Ok None) e true q = rw (e, q, to_search) (no_record e (rw q refl))
      at (Ok None) e false q = rw (e, q, to_search) (no_record e (rw q refl))
      at (Err why) e true q = rw (e, q, to_search) (no_archive e (rw q refl))
      at (Err why) e false q = rw (e, q, to_search) (no_archive e (rw q refl))

  -- ---- A record that is searched

  module _ {b : Bounds} (e : bounds_by a r ≡ Ok (Some b)) where
    -- The door of the search makes test 4, and lets every record in.
    at_the_door : (prepared : Bool) → is_prepared p ≡ prepared → (of_search answer_alone ≡ answer) × (list_alone ≡ list)
    unfolding searching.answer_by searching.list_by searching.answered searching.listed answer_by list_by answered listed admitted
    at_the_door true q =
        let passes : judged (is_prepared p) (length (record_of a r)) ≡ passed = lets_in (length (record_of a r)) q (lies_at a r e).fits in
        (rw (passes, q, e, searching.answer_by, answer_by) refl, rw (passes, q, e, searching.list_by, list_by, answer_by) refl)
    at_the_door false q =
        let stopped : judged (is_prepared p) (length (record_of a r)) ≡ Err FalsePattern = false_pattern (length (record_of a r)) q in
        (rw (stopped, q, searching.answer_by, answer_by) refl, rw (stopped, q, searching.list_by, list_by, answer_by) refl)

    searched_answer : of_search answer_alone ≡ answer
    searched_answer = (at_the_door (is_prepared p) refl).0

    searched_list : list_alone ≡ list
    searched_list = (at_the_door (is_prepared p) refl).1

    -- What the search of its bytes t answers.
    pub searched : {t : List ℕ} {s : Result Report Refusal} {x : Result (Option Report) Refusal} {after : List ℕ} → t ≡ record_of a r
        → s ≡ searching.answer_by search p t cap (length lent) → after ≡ searching.list_by search p t cap lent → x ≡ of_search s → Answers x after
    searched h s after x = record { answer = x ∙ ap of_search (rw h at s) ∙ searched_answer; list = (rw h at after) ∙ searched_list }

  -- ---- The promises

  -- What is promised of the search of the record's bytes by themselves holds of every answer.
  pub promised : (P : List ℕ → Report → Type 0) → IfOk answer_alone (P list_alone)
      → {x : Result (Option Report) Refusal} {after : List ℕ} → Answers x after
      → IfRan (P after) x
  promised P holds A = rw (A.answer, A.list) (at (bounds_by a r) refl)
    where
      none : (x : Result (Option Report) Refusal) (b : Bool) → IfRan (P list) x → answer ≡ unless b (Err FalsePattern) x → IfRan (P list) answer
      none x true h e = rw e h
      none x false h e = rw e tt

      at : (b : Result (Option Bounds) Refusal) → bounds_by a r ≡ b → IfRan (P list) answer
      at (Ok (Some b)) e = rw (← searched_answer e, ← searched_list e) (of_search_lem (P list_alone) answer_alone holds)
      at (Ok None) e = none (Ok None) (is_prepared p) tt (unfold answer_by answered in rw (e, answer_by) refl)
      at (Err why) e = none (Err why) (is_prepared p) tt (unfold answer_by answered in rw (e, answer_by) refl)

  -- Through the classes that give each value itself, it is the search for the bytes.
  pub plain : p.classes ≡ identity → {x : Result (Option Report) Refusal} {after : List ℕ} → Answers x after
      → (x ≡ plain_answer_by search p a r cap (length lent)) × (after ≡ plain_list_by search p a r cap lent)
  unfolding answer_by list_by plain_answer_by plain_list_by
  plain e A =
      let same : asked ≡ search (own_bytes p) (record_of a r) cap (length lent) = rw (word_plain p e, text_plain p e (record_of a r)) refl in
      let alike =
      ap (λ w. answered w (is_prepared p) (bounds_by a r) asked) (word_plain p e)
      ∙ ap (λ (s : End). answered (own_bytes p) (is_prepared p) (bounds_by a r) s) same in (
        A.answer ∙ alike,
        A.list ∙ ap (λ (x : Result (Option Report) Refusal). listed x asked lent) alike
            ∙ ap (λ (s : End). listed (plain_answer_by search p a r cap (length lent)) s lent) same,
      )
