-- What the search answers and leaves in each case, and its promises in plain terms as laws of that. Assumes nothing.
use Prim.Native.Nat.{ℕ, ◌≤◌}
use mathlib.Core.Path.{◌≡◌, refl, sym, ap, ◌∙◌}
use mathlib.Core.Bool.{Bool}
use mathlib.Core.List.{List}
use lib.Dec.{leb}
use lib.ListN.{length}
use borrow.Author.Tests.{le-leb, leb-true}
use Rattle.std.specs.Prelude.{Result, Ok, Err, IfOk}
use Rattle.admission.specs.Admitted.{admitted, also_judged}
use Rattle.admission.proofs.Admitting.{passes_all, as_before}
use Rattle.classes.specs.Classes.{identity}
use Rattle.journal.specs.Journal.{written}
use Rattle.journal.proofs.Recording.{written_begins, written_rest}
use Rattle.pattern.specs.Letters.{own_bytes, word_of, text_of}
use Rattle.pattern.specs.declared.Pattern.{Pattern}
use Rattle.pattern.proofs.Letters.{word_plain, text_plain}
use Rattle.refusal.specs.Tests.{Tested, passed}
use Rattle.refusal.specs.declared.Refusal.{Refusal}
use Rattle.refusal.specs.declared.Refusal.TheVariants.{ShortJournal}
use Rattle.rules.specs.Rules.{End}
use Rattle.rules.specs.Colussi.{colussi}
use Rattle.rules.specs.Report.{report_of, filled, Reported, Columns}
use Rattle.rules.specs.declared.Report.{Report}
use Rattle.search.specs.Answer.{answered, listed, answer_by, list_by}
use Rattle.search.specs.Promise.{Located, ListedBy, UnderCeiling, NoZeroCovered}
use Rattle.search.proofs.Answers as plain-search
use Rattle.search.proofs.Answers.{AnswersAt, refused_at, ran_at, promised_at}
use Rattle.search.proofs.Promises.{colussi_promises}
use Rattle.journaled.specs.Answer.{admitted_with, recorded, answer_of, list_of, journal_in, plain_answer_of, plain_list_of, plain_journal_in}
use Rattle.journaled.specs.Promise.{AsWithout, Recorded}

-- ---- At the door

-- The door is told what `is_prepared` answers, and whether the journal is long enough.
pub door_said : (p : Pattern) (n cap room : ℕ) {a b : Tested} {s : Bool} → b ≡ also_judged a s ShortJournal → s ≡ leb cap room
    → a ≡ admitted p n → admitted_with p n cap room ≡ b
unfolding admitted_with
door_said p n cap room e q is = rw (e, q, is) refl

-- Who is let in passes all three tests.
pub let_in_as : (p : Pattern) (n cap room : ℕ) → admitted_with p n cap room ≡ passed → (admitted p n ≡ passed) × (cap ≤ room)
unfolding admitted_with
let_in_as p n cap room e = let h = passes_all (admitted p n) (leb cap room) ShortJournal e in (h.0, leb-true cap room h.1)

-- ---- The answers

module _ (p : Pattern) (t : List ℕ) (cap : ℕ) (lent lent_journal : List ℕ) where
  -- The search that is asked for, and what the door says.
  abbrev asked : End
  asked = colussi (word_of p) (text_of p t) cap (length lent)

  abbrev said : Tested
  said = admitted_with p (length t) cap (length lent_journal)

  -- The answer r, and the list and the journal afterwards.
  pub record Answers (r : Result Report Refusal) (after records : List ℕ) : Type 0 where
    pub search : AnswersAt said (word_of p) asked lent r after
    pub entries : records ≡ recorded said asked lent_journal

  pub refused : {why : Refusal} → said ≡ Err why → Answers (Err why) lent lent_journal
  unfolding recorded
  refused e = record { search = refused_at _ _ _ _ e; entries = rw (e, recorded) refl }

  -- ---- Who is let in

  module _ (e : said ≡ passed) where
    recorded_written : recorded said asked lent_journal ≡ written asked.last.made lent_journal
    unfolding recorded
    recorded_written = rw (e, recorded) refl

    -- A scan reports the search, and writes its journal.
    pub scanned : {r : Report} {after records : List ℕ} → Reported (word_of p) asked lent after r → records ≡ written asked.last.made lent_journal
        → Answers (Ok r) after records
    scanned R J = record { search = ran_at _ _ _ _ e R; entries = J ∙ sym recorded_written }

    -- It answers as `colussi` does, and so keeps its promises.
    own : plain-search.Answers colussi p t cap lent (Ok (report_of (word_of p) asked)) (filled asked lent)
    own = record {
      answer = sym (plain-search.ran_answer colussi p t cap lent (let_in_as p (length t) cap (length lent_journal) e).0);
      list = sym (plain-search.ran_list colussi p t cap lent (let_in_as p (length t) cap (length lent_journal) e).0);
    }

  -- ---- The promises

  module _ {r : Result Report Refusal} {after records : List ℕ} (A : Answers r after records) where
    promise : (P : List ℕ → Report → Type 0) → (said ≡ passed → P (filled asked lent) (report_of (word_of p) asked)) → IfOk r (P after)
    promise P holds = promised_at said (word_of p) asked lent P holds A.search

    -- A journal that is long enough for the cap is never a reason to refuse.
    as_without : AsWithout p t cap (length lent_journal) lent after r
    unfolding answer_by list_by admitted_with
    as_without l =
        let same : said ≡ admitted p (length t) = as_before (admitted p (length t)) ShortJournal (le-leb cap (length lent_journal) l) in
        (A.search.answer ∙ ap (λ a. answered (word_of p) a asked) same, A.search.list ∙ ap (λ a. listed a asked lent) same)

    each_entry : IfOk r (Recorded asked.last.made lent_journal records)
    unfolding report_of
    each_entry = promise (λ _. Recorded asked.last.made lent_journal records)
        (λ e. rw (A.entries, recorded_written e)
        record { entries = written_begins asked.last.made lent_journal; rest = written_rest asked.last.made lent_journal })

    -- Through the classes that give each value itself, it is the search for the bytes.
    plain : p.classes ≡ identity
        → (r ≡ plain_answer_of p t cap (length lent) (length lent_journal)) × (after ≡ plain_list_of p t cap (length lent_journal) lent)
        × (records ≡ plain_journal_in p t cap (length lent) lent_journal)
    unfolding plain_answer_of plain_list_of plain_journal_in
    plain e =
        let same : asked ≡ colussi (own_bytes p) t cap (length lent) = rw (word_plain p e, text_plain p e t) refl in (
          A.search.answer ∙ rw (same, word_plain p e) refl,
          A.search.list ∙ ap (λ (s : End). listed said s lent) same,
          A.entries ∙ ap (λ (s : End). recorded said s lent_journal) same,
        )

    -- What `journaled` ensures of its answer, its list and its journal.
    pub promises : record {
      answer : r ≡ answer_of p t cap (length lent) (length lent_journal);
      list : after ≡ list_of p t cap (length lent_journal) lent;
      journal : records ≡ journal_in p t cap (length lent) lent_journal;
      same : AsWithout p t cap (length lent_journal) lent after r;
      entries : IfOk r (Recorded asked.last.made lent_journal records);
      accurate : IfOk r (Located colussi (word_of p) (text_of p t) cap after);
      classed : IfOk r (ListedBy p.classes (own_bytes p) t after);
      columns : IfOk r (Columns (word_of p) asked.last.made);
      ceiling : IfOk r (UnderCeiling (length (word_of p)) (length t));
      zeros : IfOk r (NoZeroCovered (length (word_of p)) t after);
      plain : p.classes ≡ identity
          → (r ≡ plain_answer_of p t cap (length lent) (length lent_journal)) × (after ≡ plain_list_of p t cap (length lent_journal) lent)
          × (records ≡ plain_journal_in p t cap (length lent) lent_journal);
    }
    unfolding answer_of list_of journal_in
    promises = record {
      answer = A.search.answer;
      list = A.search.list;
      journal = A.entries;
      same = as_without;
      entries = each_entry;
      accurate = promise (Located colussi (word_of p) (text_of p t) cap) (λ e. (colussi_promises p t cap lent (own e)).accurate);
      classed = promise (ListedBy p.classes (own_bytes p) t) (λ e. (colussi_promises p t cap lent (own e)).classed);
      columns = promise (λ _. Columns (word_of p) asked.last.made) (λ e. (colussi_promises p t cap lent (own e)).columns);
      ceiling = promise (λ _. UnderCeiling (length (word_of p)) (length t)) (λ e. (colussi_promises p t cap lent (own e)).ceiling);
      zeros = promise (NoZeroCovered (length (word_of p)) t) (λ e. (colussi_promises p t cap lent (own e)).zeros);
      plain = plain;
    }
