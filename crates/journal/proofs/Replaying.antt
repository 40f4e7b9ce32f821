-- The replay of a journal: of which texts it is the search, which journals are accepted, and that a search's own is. Assumes nothing.
use Prim.Native.Nat.{ℕ, ◌≤◌}
use mathlib.Core.Path.{◌≡◌, refl, sym, ap, ◌∙◌}
use mathlib.Core.Bool.{true}
use mathlib.Core.List.{List}
use native.Mathlib.Omega.{arith}
use lib.ListN.{length, take}
use lib.Seq.{take-length}
use borrow.Author.Tests.{eqb-true, eq-eqb}
use Rattle.words.proofs.Cases.{both_true}
use Rattle.rules.specs.Rules.{Compared, text_source, search}
use Rattle.rules.specs.Answered.{Answered}
use Rattle.rules.specs.Colussi.{colussi_plan, colussi}
use Rattle.rules.proofs.Rules.{Moving}
use Rattle.rules.proofs.ColussiRanges.{colussi_ranges}
use Rattle.rules.proofs.Runs.{search_answered, capped_at_count, same_answers}
use Rattle.journal.specs.Journal.{journal_of}
use Rattle.journal.specs.Replay.{journal_source, replayed, accepted}
use Rattle.journal.proofs.Entries.{length_journal, own_answers, own_placed, placed_begins}

module _ (w : List ℕ) (some : 1 ≤ length w) where
  moving : Moving (colussi_plan w)
  moving = (colussi_ranges w some).moving

  -- ---- Of a text

  -- Of any text of n letters that answers the comparisons of the replay as the journal does, the replay is the search, capped at the journal's
  -- length: ending, positions and comparisons.
  pub as_in_text : (n : ℕ) (journal : List ℕ) (size : ℕ) (t : List ℕ) → length t ≡ n
      → Answered (text_source w t) (replayed w n journal size).last.made → replayed w n journal size ≡ colussi w t (length journal) size
  unfolding replayed colussi
  as_in_text n journal size t is so = sym (same_answers (colussi_plan w) (journal_source n journal) (text_source w t) moving
      (length journal) size (sym is) so)

  -- The journal that a search writes gives that search back.
  pub own_replayed : (t : List ℕ) (cap size : ℕ)
      → replayed w (length t) (journal_of (colussi w t cap size).last.made) size ≡ colussi w t cap size
  unfolding replayed colussi
  own_replayed t cap size =
      let s = search (colussi_plan w) (text_source w t) cap size in
      let journal : List ℕ = journal_of s.last.made in
      let by-journal : search (colussi_plan w) (journal_source (length t) journal) cap size ≡ s =
      same_answers (colussi_plan w) (text_source w t) (journal_source (length t) journal) moving cap size refl
      (own_answers (length t) s.last.made) in
      ap (λ c. search (colussi_plan w) (journal_source (length t) journal) c size)
      (length_journal s.last.made ∙ ap (λ e. length e.last.made) (sym by-journal))
      ∙ capped_at_count (colussi_plan w) (journal_source (length t) journal) moving cap size
      ∙ by-journal

  -- ---- Accepted

  module _ (n : ℕ) (journal : List ℕ) (size : ℕ) where
    abbrev made : List Compared
    made = (replayed w n journal size).last.made

    -- The comparisons of the replay are answered by the journal.
    made_answered : Answered (journal_source n journal) made
    unfolding replayed
    made_answered = search_answered (colussi_plan w) (journal_source n journal) moving (length journal) size

    -- A journal is accepted exactly if it is that of the comparisons that its replay makes.
    pub accepted_is : accepted w n journal size ≡ true → journal_of made ≡ journal
    unfolding accepted
    accepted_is e =
        let h = both_true _ _ e in
        let all : length made ≡ length journal = eqb-true (length made) (length journal) h.1 in
        placed_begins n journal made made_answered h.0 (omega arith) ∙ ap (λ k. take k journal) all ∙ take-length journal

    pub accepted_of : journal_of made ≡ journal → accepted w n journal size ≡ true
    unfolding accepted
    accepted_of e = rw (rw e at (own_placed made), eq-eqb _ _ (sym (length_journal made) ∙ ap length e)) refl
