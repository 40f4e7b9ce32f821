-- What `find_first` answers in each case, and the promises as laws of its answer. Assumes nothing.
use Prim.Native.Nat.{ℕ, ◌<◌}
use mathlib.Core.Path.{◌≡◌, refl, sym, ◌∙◌}
use mathlib.Core.List.{List}
use native.Mathlib.Omega.{arith}
use lib.ListN.{length}
use Rattle.admission.specs.Admitted.{admitted, IsAdmitted}
use Rattle.admission.proofs.Admitting.{admitted_is}
use Rattle.classes.specs.Classes.{identity, OccursBy}
use Rattle.pattern.specs.Letters.{own_bytes, word_of, text_of}
use Rattle.pattern.specs.declared.Pattern.{Pattern}
use Rattle.pattern.proofs.Letters.{length_text, word_plain, text_plain}
use Rattle.refusal.specs.declared.Refusal.{Refusal}
use Rattle.std.specs.Prelude.{Option, Some, None, MatchOption, Result, Ok, Err, IfOk}
use Rattle.refusal.specs.Tests.{Tested, passed}
use Rattle.rules.specs.Rules.{End}
use Rattle.rules.specs.Occurs.{Occurs, CoversNo}
use Rattle.rules.specs.Stopped.{stopped}
use Rattle.search.specs.Stop.{stop_of, stop_by}
use Rattle.search.specs.declared.Stop.{Stop}
use Rattle.search.proofs.Stops.{stop_refused, stop_ran}
use Rattle.search.proofs.Promises.{occurrence_covers_no_zero, some_letter, bytes_occur, letters_occur}
use Rattle.first.specs.Answer.{first_at, answered, first_by, plain_first_by}
use Rattle.first.specs.Promise.{AtOrAbsent, FirstOfFull, FirstInBytes, FirstUnderCeiling, FirstCoversNoZero}
use Rattle.first.specs.declared.FirstAnswer.{FirstAnswer}
use Rattle.first.proofs.Stopping.{first_occurs, first_ceiling, first_of_full}

-- What holds of an answer in each case holds in another way.
weaker : (P : ℕ → ℕ → Type 0) (Q : ℕ → Type 0) (P' : ℕ → ℕ → Type 0) (Q' : ℕ → Type 0) → ((b count : ℕ) → P b count → P' b count) → ((count : ℕ) → Q count → Q' count)
    → (r : FirstAnswer) → AtOrAbsent P Q r → AtOrAbsent P' Q' r
weaker P Q P' Q' f g r = at r.position
  where
    at : (o : Option ℕ) → MatchOption o (Q r.count) (λ b. P b r.count) → MatchOption o (Q' r.count) (λ b. P' b r.count)
    at (Some b) h = f b r.count h
    at None h = g r.count h

-- Where the letters occur at a position and not before, or nowhere.
abbrev AtIn : Pattern → List ℕ → ℕ → ℕ → Type 0
AtIn p t b count = Occurs (word_of p) (text_of p t) b × ((x : ℕ) → x < b → Occurs (word_of p) (text_of p t) x → ⊥)

abbrev AbsentIn : Pattern → List ℕ → ℕ → Type 0
AbsentIn p t count = (x : ℕ) → Occurs (word_of p) (text_of p t) x → ⊥

module _ (p : Pattern) (t : List ℕ) where
  abbrev end : End
  end = stopped (word_of p) (text_of p t)

  abbrev answer : FirstAnswer
  answer = first_at end.ending (length end.last.made)

  -- ---- In each case

  let_in : admitted p (length t) ≡ passed → first_by p t ≡ Ok answer
  unfolding first_by answered
  let_in e = rw (e, first_by) refl

  turned_away : {why : Refusal} → admitted p (length t) ≡ Err why → first_by p t ≡ Err why
  unfolding first_by answered
  turned_away e = rw (e, first_by) refl

  -- ---- From the answer of the search

  pub from_stop : {r : Stop} → Ok r ≡ stop_by p t → Ok (first_at r.ending r.count) ≡ first_by p t
  unfolding stop_of
  from_stop {r = r} e = at (admitted p (length t)) refl
    where
      at : (a : Tested) → admitted p (length t) ≡ a → Ok (first_at r.ending r.count) ≡ first_by p t
      at (Ok tt) d =
          let other = stop_ran p t d in
          let same : r ≡ stop_of end = cc in
          rw same (sym (let_in d))
      at (Err why) d = let other = stop_refused p t d in let z : ◌≡◌ {A = ℕ} 0 1 = cc in absurd (omega arith)

  pub from_refusal : {why : Refusal} → Err why ≡ stop_by p t → Err why ≡ first_by p t
  from_refusal {why = why} e = at (admitted p (length t)) refl
    where
      at : (a : Tested) → admitted p (length t) ≡ a → Err why ≡ first_by p t
      at (Ok tt) d = let other = stop_ran p t d in let z : ◌≡◌ {A = ℕ} 0 1 = cc in absurd (omega arith)
      at (Err why') d =
          let other = stop_refused p t d in
          let same : why ≡ why' = cc in
          rw same (sym (turned_away d))

  -- ---- The promises

  -- What holds of the searches that are let in holds of the answer.
  promised : (P : FirstAnswer → Type 0) → (IsAdmitted p (length t) → P answer) → {r : Result FirstAnswer Refusal} → r ≡ first_by p t → IfOk r P
  promised P holds e = rw e (at (admitted p (length t)) refl)
    where
      at : (a : Tested) → admitted p (length t) ≡ a → IfOk (first_by p t) P
      at (Ok tt) d = rw (let_in d) (holds (admitted_is p (length t) d))
      at (Err why) d = rw (turned_away d) tt

  plain : p.classes ≡ identity → first_by p t ≡ plain_first_by p t
  unfolding first_by plain_first_by
  plain e = rw (word_plain p e, text_plain p e t) refl

  -- What `find_first` ensures of its answer.
  pub record Promises (r : Result FirstAnswer Refusal) : Type 0 where
    pub answer : r ≡ first_by p t
    pub full : IfOk r (FirstOfFull (word_of p) (text_of p t))
    pub classed : IfOk r (FirstInBytes p.classes (own_bytes p) t)
    pub ceiling : IfOk r (FirstUnderCeiling (length (word_of p)) (length t))
    pub zeros : IfOk r (FirstCoversNoZero (length (word_of p)) t)
    pub plain : p.classes ≡ identity → r ≡ plain_first_by p t

  pub promises : {r : Result FirstAnswer Refusal} → r ≡ first_by p t → Promises r
  promises e =
      let letter = some_letter p t in
      record {
        answer = e;
        full = promised (FirstOfFull (word_of p) (text_of p t)) (λ I. first_of_full (word_of p) (text_of p t) (letter I)) e;
        classed = promised (FirstInBytes p.classes (own_bytes p) t)
            (λ I. weaker (AtIn p t) (AbsentIn p t) (λ b count. OccursBy p.classes (own_bytes p) t b × ((x : ℕ) → x < b → OccursBy p.classes (own_bytes p) t x → ⊥))
            (λ count. (x : ℕ) → OccursBy p.classes (own_bytes p) t x → ⊥)
            (λ b count h. (bytes_occur p t b h.0, λ x l O. h.1 x l (letters_occur p t x O))) (λ count h x O. h x (letters_occur p t x O)) answer
            (first_occurs (word_of p) (text_of p t) (letter I))) e;
        ceiling = promised (FirstUnderCeiling (length (word_of p)) (length t))
            (λ I. rw (length_text p t) at (first_ceiling (word_of p) (text_of p t) (letter I))) e;
        zeros = promised (FirstCoversNoZero (length (word_of p)) t)
            (λ I. weaker (AtIn p t) (AbsentIn p t) (λ b count. CoversNo 0 (length (word_of p)) t b) (λ count. Unit {0})
            (λ b count h. occurrence_covers_no_zero p t b I.prepared h.0) (λ count h. tt) answer
            (first_occurs (word_of p) (text_of p t) (letter I))) e;
        plain = λ q. e ∙ plain q;
      }
