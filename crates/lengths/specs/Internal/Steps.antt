-- The steps of a scan: what each has found, and what it has written into the list.
use Rattle.std.specs.Prelude.{ℕ, suc, ◌+◌, ◌-◌, ◌≤◌, ◌<◌, min, ◌≡◌, ◌⊎◌, List, length, get_or, drop}
use Rattle.words.specs.Tables.{letter}
use Rattle.classes.specs.Classes.{through}
use Rattle.hmax.specs.Table.{HasHmax}
use Rattle.intake.specs.Sizes.{longest_pattern}
use Rattle.lengths.specs.declared.steps.Text.{Text}

-- The letters of a text.
abbrev pub letters_of : Text → List ℕ
letters_of text = through text.classes.now text.bytes.now

-- The letters of a pattern, and a table of hmax for them.
pub record Tables (w table : List ℕ) : Type 0 where
  pub some : 1 ≤ length w
  pub short : length w ≤ longest_pattern
  pub room : length w < length table
  pub known : HasHmax w table (suc (length w))

-- The entries from b on, s of them, are written, and no others.
pub record Writes (entry : ℕ → ℕ) (before after : List ℕ) (b s : ℕ) : Type 0 where
  pub here : (k : ℕ) → k < s → get_or after (b + k) 0 ≡ entry k
  pub front : (x : ℕ) → x < b → get_or after x 0 ≡ get_or before x 0
  pub rest : drop (b + s) after ≡ drop (b + s) before
  pub size : length after ≡ length before

-- No position from b on and below r has the letter x, and the entries of these are 0.
pub record Passes (t : List ℕ) (x : ℕ) (before after : List ℕ) (b r : ℕ) : Type 0 where
  pub from : b ≤ r
  pub upto : r ≤ length t
  pub missed : (y : ℕ) → b ≤ y → y < r → x ≡ letter t y → ⊥
  pub zeros : Writes (λ k. 0) before after b (r - b)

-- r is the first position from b on that has the letter x. The entries of those before it are 0.
pub record Finds (t : List ℕ) (x : ℕ) (before after : List ℕ) (b r : ℕ) : Type 0 where
  pub passes : Passes t x before after b r
  pub inside : r < length t
  pub found : x ≡ letter t r

-- From window b and the matched length i to those at which letters are compared on: the same where something is matched; else a window that begins
-- with x, with that letter matched, or the text's end.
abbrev pub Begins : List ℕ → ℕ → List ℕ → List ℕ → ℕ → ℕ → ℕ → ℕ → Type 0
Begins t x before after b i b' i' = ((1 ≤ i) × (b' ≡ b) × (i' ≡ i) × (after ≡ before))
    ⊎ ((i ≡ 0) × (((i' ≡ 1) × Finds t x before after b b') ⊎ ((i' ≡ 0) × (b' ≡ length t) × Passes t x before after b b')))

-- r is the first place from i on and below an end whose letter differs from the text's in window b, or that end.
pub record Extends (w t : List ℕ) (b i end r : ℕ) : Type 0 where
  pub from : i ≤ r
  pub upto : r ≤ end
  pub same : (p : ℕ) → i ≤ p → p < r → letter w p ≡ letter t (b + p)
  pub ends : r < end → letter w r ≡ letter t (b + r) → ⊥

-- s is the first k from 1 on and below an end whose entry in the table is i, or that end. The windows up to b + s are written by the table.
pub record LeavesBy (table before after : List ℕ) (b i end s : ℕ) : Type 0 where
  pub on : 1 ≤ s
  pub upto : s ≤ end
  pub passed : (k : ℕ) → 1 ≤ k → k < s → get_or table k 0 ≡ i → ⊥
  pub found : s < end → get_or table s 0 ≡ i
  pub entries : Writes (λ k. min (get_or table k 0) i - k) before after b s

-- A comparison that is counted: the letters at r, below the end, differ, and the window is left by at most r, so that the text's letter there is
-- compared again.
abbrev pub Stays : ℕ → ℕ → ℕ → ℕ → Type 0
Stays s r end c = (c ≤ 1) × ((s ≤ r) → (r < end) → c ≡ 1) × (r < s → c ≡ 0) × (end ≤ r → c ≡ 0)
