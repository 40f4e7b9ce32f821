-- Code that writes a journal, or reads one, as it follows a search: the entries before number c are the search's own. Assumes nothing.
use Prim.Native.Nat.{ℕ, suc, ◌+◌, ◌*◌, ◌≤◌, ◌<◌}
use mathlib.Core.Path.{◌≡◌, refl, sym, ap, ◌∙◌}
use mathlib.Core.Bool.{Bool, true, false, cond}
use mathlib.Core.List.{List, [], ◌∷◌, ◌++◌}
use native.Mathlib.Omega.{arith}
use native.Mathlib.Numerals.{add-one}
use lib.ListN.{length, get_or, take, drop, set, length-set, length-append, take-append-drop}
use lib.Seq.{take-suc, take-suc-set, take-length, take-append_seam, drop-append_seam, drop-set-lt, drop-drop}
use Rattle.rules.specs.Rules.{Plan, Source, Compared, State, go, leave, compared, matched, missed, turn, search}
use Rattle.rules.specs.Internal.Passing.{Due, at, one}
use Rattle.rules.proofs.Rules.{Moving, turn_matched, turn_missed}
use Rattle.rules.proofs.Runs.{turn_later}
use Rattle.rules.proofs.Scans.{Scans}
use Rattle.journal.specs.Journal.{entry, journal_of, written}
use Rattle.journal.proofs.Entries.{length_journal, entry_at}

-- ---- The entry that comes next

-- Entry c of the journal of all the comparisons is v.
pub record EntryIs (all : List Compared) (c v : ℕ) : Type 0 where
  pub inside : c < length all
  pub is : get_or (journal_of all) c 0 ≡ v

module _ {q : ℕ → Bool} {plan : Plan} {source : Source} {cap : ℕ} {before after : List ℕ} {b i e c x k : ℕ} (moving : Moving plan)
    (F : Scans q plan source cap before after b i e c x k) (fits : b + plan.m ≤ source.n) (due : Due plan b i e) (more : c ≡ cap → ⊥) where
  -- All comparisons of the search.
  abbrev all : List Compared
  all = (search plan source cap (length before)).last.made

  after_turn : (r : State) (a : Bool) → r.made ≡ one plan b i a ∷ F.made
      → turn plan source cap (length before) (at b i e F.made (take k after)) ≡ go r → EntryIs all c (entry (one plan b i a))
  after_turn r a is turned =
      let L = (turn_later plan source moving cap (length before) (at b i e F.made (take k after)) r F.follows.stands.visits turned).made in
      let whole : all ≡ L.0 ++ (one plan b i a ∷ F.made) = L.1 ∙ ap (λ l. L.0 ++ l) is in
      record {
        inside = omega (arith, ap length whole, length-append L.0 (one plan b i a ∷ F.made), F.count);
        is = ap (λ l. get_or (journal_of l) c 0) whole ∙ rw (← F.count) (entry_at L.0 (one plan b i a) F.made);
      }

  -- A comparison is made at rank i of window b: entry c tells its position, and the answer.
  pub next_entry : (a : Bool) → source.agree b (plan.place i) c ≡ a → EntryIs all c (2 * (b + plan.place i) + cond a 1 0)
  unfolding entry matched missed compared leave
  next_entry true answer = after_turn _ true refl (turn_matched plan source cap (length before) (at b i e F.made (take k after)) fits due
      (λ z. more (sym F.count ∙ z)) (ap (source.agree b (plan.place i)) F.count ∙ answer))
  next_entry false answer = after_turn _ false refl (turn_missed plan source cap (length before) (at b i e F.made (take k after)) fits due
      (λ z. more (sym F.count ∙ z)) (ap (source.agree b (plan.place i)) F.count ∙ answer))

-- ---- The entries so far

-- A journal's first c entries are those of all the comparisons.
pub record Begins (all : List Compared) (journal : List ℕ) (c : ℕ) : Type 0 where
  pub same : take c journal ≡ take c (journal_of all)

pub begins_start : (all : List Compared) (journal : List ℕ) → Begins all journal 0
begins_start all journal = record { same = refl }

module _ {all : List Compared} {c v : ℕ} (E : EntryIs all c v) where
  -- One entry more.
  one_more : {journal : List ℕ} → Begins all journal c → take c journal ++ (v ∷ []) ≡ take (suc c) (journal_of all)
  one_more B = rw (take-suc (journal_of all) c 0 (omega (arith, length_journal all, E.inside)), ← B.same, E.is) refl

  -- It is read.
  pub begins_more : {journal : List ℕ} → Begins all journal c → c < length journal → get_or journal c 0 ≡ v → Begins all journal (c + 1)
  begins_more {journal} B l is = record {
    same = rw (add-one c) (take-suc journal c 0 l ∙ ap (λ u. take c journal ++ (u ∷ [])) is ∙ one_more B);
  }

-- The first c entries of a journal that was lent are written, and the others are as they were.
pub record Records (all : List Compared) (before after : List ℕ) (c : ℕ) : Type 0 where
  pub size : length after ≡ length before
  pub begins : Begins all after c
  pub rest : drop c after ≡ drop c before

pub records_start : (all : List Compared) (before : List ℕ) → Records all before before 0
records_start all before = record { size = refl; begins = begins_start all before; rest = refl }

module _ {all : List Compared} {before after : List ℕ} {c : ℕ} (R : Records all before after c) where
  -- It is written.
  pub records_more : {v : ℕ} → EntryIs all c v → c < length after → Records all before (set after c v) (c + 1)
  records_more {v} E l = record {
    size = length-set after c v ∙ R.size;
    begins = record { same = rw (add-one c) (take-suc-set after c v l ∙ one_more E R.begins) };
    rest = drop-set-lt (c + 1) after c v (omega arith) ∙ sym (drop-drop 1 c after) ∙ ap (drop 1) R.rest ∙ drop-drop 1 c before;
  }

  -- All are.
  pub records_all : length all ≡ c → after ≡ written all before
  unfolding written
  records_all e = sym (take-append-drop c after)
      ∙ ap (λ l. l ++ drop c after)
      (R.begins.same ∙ ap (λ n. take n (journal_of all)) (sym (length_journal all ∙ e)) ∙ take-length (journal_of all))
      ∙ ap (λ l. journal_of all ++ l) (R.rest ∙ ap (λ n. drop n before) (sym e))

-- ---- A journal that was written

module _ (all : List Compared) (lent : List ℕ) where
  pub written_begins : take (length all) (written all lent) ≡ journal_of all
  unfolding written
  written_begins = rw (← length_journal all) (take-append_seam (journal_of all) (drop (length (journal_of all)) lent))

  pub written_rest : drop (length all) (written all lent) ≡ drop (length all) lent
  unfolding written
  written_rest = rw (← length_journal all) (drop-append_seam (journal_of all) (drop (length (journal_of all)) lent))

-- ---- A journal that is read to its end

module _ {all : List Compared} {journal : List ℕ} {c : ℕ} (B : Begins all journal c) (e : length all ≡ c) where
  pub read_whole : c ≡ length journal → journal_of all ≡ journal
  read_whole whole = sym (take-length (journal_of all)) ∙ ap (λ n. take n (journal_of all)) (length_journal all ∙ e)
      ∙ sym B.same ∙ ap (λ n. take n journal) whole ∙ take-length journal

  pub entries_remain : c < length journal → journal_of all ≡ journal → ⊥
  entries_remain l is = omega (arith, ap length is, length_journal all)
