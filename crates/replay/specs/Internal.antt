-- What the functions within the crate promise each other. No public contract cites it.
use Rattle.std.specs.Prelude.{ℕ, ◌≡◌, true, false, List, length, take, Option, MatchOption}
use Rattle.journal.specs.Replay.{replayed, accepted}
use Rattle.rules.specs.Report.{report_of, filled}
use Rattle.rules.specs.declared.Report.{Report}
use Rattle.search.specs.Internal.ColussiScan.{LentOrder, LentMoves}

-- The tables are some pattern's: those of the first m of some letters.
pub record Lent (order shifts nexts : List ℕ) (m d : ℕ) : Type 0 where
  pub letters : List ℕ
  pub places : LentOrder letters order m d
  pub moves : LentMoves letters shifts nexts m

-- What a pass over a journal that is accepted for the pattern w tells: the report of its replay with a list of a size. A list of that size is filled;
-- what a shorter one then holds is not told.
pub record Accepting (w : List ℕ) (n size : ℕ) (journal before after : List ℕ) (report : Report) : Type 0 where
  pub accepts : accepted w n journal size ≡ true
  pub reported : report ≡ report_of w (replayed w n journal size)
  pub list : length before ≡ size → after ≡ filled (replayed w n journal size) before

-- What it tells: that the journal is not accepted, or that.
abbrev pub Followed : List ℕ → ℕ → ℕ → List ℕ → List ℕ → List ℕ → Option Report → Type 0
Followed w n size journal before after answer = MatchOption answer (accepted w n journal size ≡ false) (Accepting w n size journal before after)

-- The same of whatever pattern the tables are.
abbrev pub FollowedFor : List ℕ → List ℕ → List ℕ → ℕ → ℕ → ℕ → ℕ → List ℕ → List ℕ → List ℕ → Option Report → Type 0
FollowedFor order shifts nexts m d n size journal before after answer =
    (letters : List ℕ) → LentOrder letters order m d → LentMoves letters shifts nexts m
    → Followed (take m letters) n size journal before after answer
