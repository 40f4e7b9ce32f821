-- What the functions within the crate promise each other. No public contract cites it.
use Rattle.std.specs.Prelude.{ℕ, ◌+◌, ◌≤◌, ◌<◌, ◌≡◌, List, length, get_or}
use Rattle.words.specs.Numbers.{count}
use Rattle.words.specs.Tables.{letter, nohole}
use Rattle.classes.specs.Classes.{through}
use Rattle.custom.specs.Order.{Arrangement}
use Rattle.custom.specs.Custom.{custom_shift}
use Rattle.intake.specs.Sizes.{longest_pattern}
use Rattle.ones.specs.Marks.{marked}
use Rattle.ordered.specs.declared.scan.Text.{Text}

-- The letters of a text.
abbrev pub letters_of : Text → List ℕ
letters_of text = through text.classes.now text.bytes.now

-- Entry i, for each i up to n, tells how many of the first i places of an order are marked.
abbrev pub MarkedAmong : List ℕ → List ℕ → List ℕ → ℕ → Type 0
MarkedAmong order marks among n = (i : ℕ) → i ≤ n → get_or among i 0 ≡ count i (λ j. marked marks (get_or order j 0))

-- The noholes of w among the first i places of an order.
unfoldable pub noholes_among : List ℕ → List ℕ → ℕ → ℕ
unfolding count nohole
noholes_among w order i = count i λ j. nohole w (get_or order j 0)

-- The letters of the ranks from 1 on and below an end are the text's in window b.
pub record Agreed (w order t : List ℕ) (b end : ℕ) : Type 0 where
  pub same : (i : ℕ) → i < end → 1 ≤ i → letter w (get_or order i 0) ≡ letter t (b + get_or order i 0)

-- r is the first rank from 1 on and below an end whose letter differs from the text's in window b.
pub record Reaches (w order t : List ℕ) (b end r : ℕ) : Type 0 where
  pub from : 1 ≤ r
  pub upto : r < end
  pub agreed : Agreed w order t b r
  pub differs : letter w (get_or order r 0) ≡ letter t (b + get_or order r 0) → ⊥

-- A pattern's letters, an arrangement of its places, and the tables of this order by rank.
pub record LentTables (w order shifts among : List ℕ) : Type 0 where
  pub some : 1 ≤ length w
  pub short : length w ≤ longest_pattern
  pub arrangement : Arrangement (length w) order
  pub length_shifts : length w < length shifts
  pub length_among : length w < length among
  pub shift_at : (i : ℕ) → i ≤ length w → get_or shifts i 0 ≡ custom_shift w order i
  pub among_at : (i : ℕ) → i ≤ length w → get_or among i 0 ≡ noholes_among w order i
