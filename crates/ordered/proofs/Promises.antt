-- What `ordered` answers in each case, and its promises as laws of its answer. Assumes nothing.
use Prim.Native.Nat.{ℕ}
use mathlib.Core.Path.{◌≡◌, refl, sym, ap, ◌∙◌}
use mathlib.Core.List.{List}
use Rattle.std.specs.Prelude.{Result, Ok, Err, IfOk}
use lib.ListN.{length}
use Rattle.admission.specs.Admitted.{IsAdmitted}
use Rattle.checked.proofs.Reading.{fields_of}
use Rattle.classes.specs.Classes.{identity}
use Rattle.custom.specs.Order.{Arrangement}
use Rattle.custom.specs.Custom.{custom}
use Rattle.custom.proofs.CustomMethod.{custom_finds, same_as_colussi}
use Rattle.pattern.specs.Letters.{own_bytes, word_of, text_of}
use Rattle.pattern.specs.declared.Pattern.{Pattern}
use Rattle.pattern.proofs.Letters.{word_plain, text_plain}
use Rattle.refusal.specs.Tests.{passed}
use Rattle.refusal.specs.declared.Refusal.{Refusal}
use Rattle.rules.specs.Rules.{End}
use Rattle.rules.specs.Report.{report_of, filled, Reported, Columns}
use Rattle.rules.specs.declared.Report.{Report}
use Rattle.rules.proofs.Method.{Finds}
use Rattle.search.specs.Answer.{listed}
use Rattle.search.specs.Promise.{Located, ListedBy, AsColussi, NoZeroCovered}
use Rattle.search.proofs.Answers.{AnswersAt, refused_at, ran_at, promised_at}
use Rattle.search.proofs.Promises.{begins_with_found, located, in_columns, some_letter, no_zero_covered, listed_by}
use Rattle.ordered.specs.Answer.{admitted_in, answer_of, list_of, plain_answer_of, plain_list_of}
use Rattle.ordered.proofs.Admitting.{admitted_is}

module _ (order : List ℕ) (p : Pattern) (t : List ℕ) (cap : ℕ) (lent : List ℕ) where
  -- The search that is asked for.
  abbrev asked : End
  asked = custom order (word_of p) (text_of p t) cap (length lent)

  -- The answer r, and the list afterwards.
  abbrev Answers : Result Report Refusal → List ℕ → Type 0
  Answers r after = AnswersAt (admitted_in order p (length t)) (word_of p) asked lent r after

  pub refused : {why : Refusal} → admitted_in order p (length t) ≡ Err why → Answers (Err why) lent
  refused e = refused_at _ _ _ _ e

  -- A scan reports the search that is asked for.
  pub scanned : admitted_in order p (length t) ≡ passed → {r : Report} {after : List ℕ}
      → Reported (word_of p) asked lent after r
      → Answers (Ok r) after
  scanned e R = ran_at _ _ _ _ e R

  -- An arrangement of the pattern's places is one of its letters'.
  finds : IsAdmitted p (length t) × Arrangement p.len order → Finds (custom order) (word_of p) (text_of p t) cap (length lent)
  finds (I, A) =
      let word : p.len ≡ length (word_of p) = sym (fields_of p I.prepared).word in
      custom_finds order (word_of p) (text_of p t) (some_letter p t I) (rw word at A) cap (length lent)

  -- Run to its end, it lists what the search in Colussi's order lists.
  as_colussi : IsAdmitted p (length t) × Arrangement p.len order → AsColussi (word_of p) (text_of p t) (filled asked lent) (report_of (word_of p) asked)
  unfolding report_of
  as_colussi (I, A) done cap' size' done' =
      let word : p.len ≡ length (word_of p) = sym (fields_of p I.prepared).word in
      begins_with_found (word_of p) asked lent
      ∙ sym (same_as_colussi order (word_of p) (text_of p t) (some_letter p t I) (rw word at A) cap' size' cap (length lent) done' done)

  -- Through the classes that give each value itself, it is the search for the bytes.
  plain : p.classes ≡ identity → {r : Result Report Refusal} {after : List ℕ} → Answers r after
      → (r ≡ plain_answer_of p order t cap (length lent)) × (after ≡ plain_list_of p order t cap lent)
  unfolding plain_answer_of plain_list_of
  plain e A =
      let same : asked ≡ custom order (own_bytes p) t cap (length lent) = rw (word_plain p e, text_plain p e t) refl in (
        A.answer ∙ rw (same, word_plain p e) refl,
        A.list ∙ ap (λ (s : End). listed (admitted_in order p (length t)) s lent) same,
      )

  -- What `ordered` ensures of its answer and its list.
  pub promises : {r : Result Report Refusal} {after : List ℕ} → Answers r after → record {
    answer : r ≡ answer_of p order t cap (length lent);
    list : after ≡ list_of p order t cap lent;
    accurate : IfOk r (Located (custom order) (word_of p) (text_of p t) cap after);
    classed : IfOk r (ListedBy p.classes (own_bytes p) t after);
    columns : IfOk r (Columns (word_of p) asked.last.made);
    same : IfOk r (AsColussi (word_of p) (text_of p t) after);
    zeros : IfOk r (NoZeroCovered (length (word_of p)) t after);
    plain : p.classes ≡ identity → (r ≡ plain_answer_of p order t cap (length lent)) × (after ≡ plain_list_of p order t cap lent);
  }
  unfolding answer_of list_of
  promises {r} {after} A = record {
    answer = A.answer;
    list = A.list;
    accurate = promise (Located (custom order) (word_of p) (text_of p t) cap)
        (λ I. located (custom order) (word_of p) (text_of p t) cap lent (finds I));
    classed = promise (ListedBy p.classes (own_bytes p) t) (λ I. listed_by p t cap lent (custom order) (finds I));
    columns = promise (λ after r. Columns (word_of p) asked.last.made r) (λ I. in_columns (word_of p) asked);
    same = promise (AsColussi (word_of p) (text_of p t)) as_colussi;
    zeros = promise (NoZeroCovered (length (word_of p)) t) (λ I. no_zero_covered p t cap lent (custom order) I.0 (finds I));
    plain = λ e. plain e A;
  }
    where
      promise : (P : List ℕ → Report → Type 0)
          → (IsAdmitted p (length t) × Arrangement p.len order → P (filled asked lent) (report_of (word_of p) asked)) → IfOk r (P after)
      promise P holds = promised_at _ _ _ _ P (λ e. holds (admitted_is order p (length t) e)) A
