-- What the replay answers in each case, and its promises in plain terms as laws of that. Assumes nothing.
use Prim.Native.Nat.{ℕ, ◌≤◌}
use mathlib.Core.Path.{◌≡◌, refl, sym, ap, ◌∙◌}
use mathlib.Core.Logic.{⊎_elim}
use mathlib.Core.Bool.{true, false, true≢false}
use mathlib.Core.List.{List}
use native.Mathlib.Omega.{arith}
use lib.ListN.{length}
use Rattle.words.proofs.Cases.{true_or_false}
use Rattle.std.specs.Prelude.{Option, Some, None, ok_or, Result, Ok, Err, IfOk}
use Rattle.admission.specs.Admitted.{admitted}
use Rattle.admission.proofs.Admitting.{admitted_is, refused_before, refused_then, passes_all, as_before}
use Rattle.checked.proofs.Reading.{fields_of}
use Rattle.classes.specs.Classes.{identity}
use Rattle.journal.specs.Journal.{journal_of}
use Rattle.journal.specs.Replay.{journal_source, replayed, accepted}
use Rattle.journal.proofs.Entries.{length_journal}
use Rattle.journal.proofs.Replaying.{as_in_text, own_replayed, accepted_is, accepted_of}
use Rattle.pattern.specs.Letters.{word_of, text_of}
use Rattle.pattern.specs.declared.Pattern.{Pattern}
use Rattle.pattern.proofs.Letters.{length_text, word_plain}
use Rattle.refusal.specs.Tests.{Tested, passed}
use Rattle.refusal.specs.declared.Refusal.{Refusal}
use Rattle.refusal.specs.declared.Refusal.TheVariants.{FalseJournal}
use Rattle.rules.specs.Rules.{End}
use Rattle.rules.specs.Colussi.{colussi}
use Rattle.rules.specs.Report.{report_of, filled, Columns}
use Rattle.rules.specs.declared.Report.{Report}
use Rattle.rules.proofs.ColussiCeiling.{ceiling_by}
use Rattle.search.specs.Answer.{answer_by, list_by}
use Rattle.search.specs.Promise.{UnderCeiling}
use Rattle.search.proofs.Answers as plain-search
use Rattle.search.proofs.Answers.{AnswersAt, refused_at, ran_at, promised_at}
use Rattle.search.proofs.Promises.{in_columns}
use Rattle.replay.specs.Internal.{Followed}
use Rattle.replay.specs.Answer.{admitted_by, answer_of, list_of, plain_answer_of, plain_list_of}
use Rattle.replay.specs.Promise.{OnAnyText, GivesBack, Whole}

module _ (p : Pattern) (n : ℕ) (journal lent : List ℕ) where
  -- The replay that is asked for, and what the door says.
  abbrev asked : End
  asked = replayed (word_of p) n journal (length lent)

  abbrev said : Tested
  said = admitted_by p n (word_of p) journal (length lent)

  -- The answer r, and the list afterwards.
  abbrev Answers : Result Report Refusal → List ℕ → Type 0
  Answers r after = AnswersAt said (word_of p) asked lent r after

  -- ---- The answer in each case

  pub refused : {why : Refusal} → admitted p n ≡ Err why → Answers (Err why) lent
  unfolding admitted_by
  refused e = refused_at _ _ _ _ (refused_before (accepted (word_of p) n journal (length lent)) FalseJournal e)

  module _ (e : admitted p n ≡ passed) where
    false_journal : accepted (word_of p) n journal (length lent) ≡ false → Answers (Err FalseJournal) lent
    unfolding admitted_by
    false_journal refuses = refused_at _ _ _ _ (refused_then (accepted (word_of p) n journal (length lent)) FalseJournal e refuses)

    -- The first pass, over whatever list, does not accept the journal.
    pub none_accepted : (before after : List ℕ) (first : Option Report) → Followed (word_of p) n (length lent) journal before after first
        → {why : Refusal} → Err why ≡ ok_or first FalseJournal → Answers (Err why) lent
    none_accepted before after None refuses is = rw is (false_journal refuses)
    none_accepted before after (Some r) told is = cc

    -- It does, and so the second one does too, which fills the list.
    pub ran : (before between after : List ℕ) (first second : Option Report) → Followed (word_of p) n (length lent) journal before between first
        → {r : Report} → Ok r ≡ ok_or first FalseJournal → Followed (word_of p) n (length lent) journal lent after second
        → Answers (ok_or second FalseJournal) after
    unfolding admitted_by
    ran before between after None second refuses is again = cc
    ran before between after (Some r) None told is refuses = absurd (true≢false (sym told.accepts ∙ refuses))
    ran before between after (Some r) (Some s) told is again =
        ran_at _ _ _ _ (as_before (admitted p n) FalseJournal told.accepts ∙ e) record { report = again.reported; list = again.list refl }

    -- A pattern that is let in has a letter.
    some : 1 ≤ length (word_of p)
    some = let F = fields_of p (admitted_is p n e).prepared in omega (arith, F.some, F.word)

  -- Who is let in passes all three tests.
  let_in : said ≡ passed → (admitted p n ≡ passed) × (accepted (word_of p) n journal (length lent) ≡ true)
  unfolding admitted_by
  let_in e = passes_all (admitted p n) (accepted (word_of p) n journal (length lent)) FalseJournal e

  -- ---- The promises

  module _ {r : Result Report Refusal} {after : List ℕ} (A : Answers r after) where
    promise : (P : List ℕ → Report → Type 0) → (said ≡ passed → P (filled asked lent) (report_of (word_of p) asked)) → IfOk r (P after)
    promise P holds = promised_at said (word_of p) asked lent P holds A

    -- The answer of a search in a text, if the replay is that search and the journal is accepted.
    as_searched : (t : List ℕ) (cap : ℕ) → length t ≡ n
        → (admitted p n ≡ passed → (asked ≡ colussi (word_of p) (text_of p t) cap (length lent)) × (accepted (word_of p) n journal (length lent) ≡ true))
        → (r ≡ answer_by colussi p t cap (length lent)) × (after ≡ list_by colussi p t cap lent)
    unfolding answer_by list_by admitted_by
    as_searched t cap is holds = at (admitted p n) refl
      where
        at : (a : Tested) → admitted p n ≡ a → (r ≡ answer_by colussi p t cap (length lent)) × (after ≡ list_by colussi p t cap lent)
        at (Ok tt) e =
            let open-door : said ≡ admitted p (length t) = as_before (admitted p n) FalseJournal (holds e).1 ∙ ap (admitted p) (sym is) in
            (A.answer ∙ rw (open-door, (holds e).0) refl, A.list ∙ rw (open-door, (holds e).0) refl)
        at (Err why) e =
            let S = plain-search.refused colussi p t cap lent (ap (admitted p) is ∙ e) in
            (A.answer ∙ sym (refused e).answer ∙ S.answer, A.list ∙ sym (refused e).list ∙ S.list)

    on_any_text : OnAnyText p n journal lent after r
    on_any_text t is so taken = as_searched t (length journal) is λ e. (
      as_in_text (word_of p) (some e) n journal (length lent) (text_of p t) (length_text p t ∙ is) so,
      ⊎_elim (λ accepts. accepts) (λ refuses. absurd (taken (A.answer ∙ sym (false_journal e refuses).answer)))
          (true_or_false (accepted (word_of p) n journal (length lent))),
    )

    gives_back : GivesBack p n journal lent after r
    gives_back t cap is own = as_searched t cap is λ e.
        let same : asked ≡ colussi (word_of p) (text_of p t) cap (length lent) =
        rw (own, ← is, ← length_text p t) (own_replayed (word_of p) (some e) (text_of p t) cap (length lent)) in
        (same, accepted_of (word_of p) (some e) n journal (length lent) (ap (λ (s : End). journal_of s.last.made) same ∙ sym own))

    whole : IfOk r (Whole (word_of p) n journal (length lent))
    unfolding report_of
    whole = promise (λ _. Whole (word_of p) n journal (length lent)) λ e.
        let both = let_in e in
        let own = accepted_is (word_of p) (some both.0) n journal (length lent) both.1 in
        record { count = sym (length_journal asked.last.made) ∙ ap length own; entries = own }

    -- The account behind the ceiling asks for no text.
    under_ceiling : IfOk r (UnderCeiling (length (word_of p)) n)
    unfolding report_of replayed
    under_ceiling = promise (λ _. UnderCeiling (length (word_of p)) n)
        λ e. ceiling_by (word_of p) (some (let_in e).0) (journal_source n journal) (length journal) (length lent)

    -- Through the classes that give each value itself, it is the replay for the bytes.
    plain : p.classes ≡ identity → (r ≡ plain_answer_of p n journal (length lent)) × (after ≡ plain_list_of p n journal lent)
    unfolding plain_answer_of plain_list_of
    plain e = (rw (word_plain p e) at A.answer, rw (word_plain p e) at A.list)

    -- What `replay` ensures of its answer and its list.
    pub promises : record {
      answer : r ≡ answer_of p n journal (length lent);
      list : after ≡ list_of p n journal lent;
      text : OnAnyText p n journal lent after r;
      own : GivesBack p n journal lent after r;
      whole : IfOk r (Whole (word_of p) n journal (length lent));
      columns : IfOk r (Columns (word_of p) asked.last.made);
      ceiling : IfOk r (UnderCeiling (length (word_of p)) n);
      plain : p.classes ≡ identity → (r ≡ plain_answer_of p n journal (length lent)) × (after ≡ plain_list_of p n journal lent);
    }
    unfolding answer_of list_of
    promises = record {
      answer = A.answer;
      list = A.list;
      text = on_any_text;
      own = gives_back;
      whole = whole;
      columns = promise (λ _. Columns (word_of p) asked.last.made) (λ e. in_columns (word_of p) asked);
      ceiling = under_ceiling;
      plain = plain;
    }
