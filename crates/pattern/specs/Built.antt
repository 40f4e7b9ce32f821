-- What a pattern is, and what its building leaves in the scratch.
use Rattle.std.specs.Prelude.{ℕ, suc, ◌+◌, Bool, true, false, ◌&&◌, List, ◌++◌, leb, eqb, length, take, drop, replicate}
use Rattle.words.specs.Numbers.{tabulate}
use Rattle.words.specs.Tables as words
use Rattle.classes.specs.Classes.{class_count, through}
use Rattle.intake.specs.Sizes.{longest_pattern, scratch_size}
use Rattle.hmax.specs.FastMethod.{comparisons}
use Rattle.hmax.specs.Table.{table_after}
use Rattle.pattern.specs.Sizes.{ranks, kmins_at}
use Rattle.pattern.specs.Lists.{padded}
use Rattle.pattern.specs.Marks.{mark_word}
use Rattle.pattern.specs.declared.Pattern.{Pattern}
use Rattle.pattern.specs.declared.Built.{Built}

-- The pattern of the bytes w and their classes, if their letters are l: the tables are those of the letters, with zeros past the entries
-- defined.
unfoldable pub pattern_with : List ℕ → List ℕ → List ℕ → Pattern
unfolding tabulate padded mark_word words.noholes words.order words.shift words.next
pattern_with w classes l = record {
  len = length w;
  noholes = words.noholes l;
  bytes = padded longest_pattern w;
  classes = classes;
  order = padded longest_pattern (words.order l);
  shift = padded ranks (tabulate (suc (length l)) (words.shift l));
  next = padded ranks (tabulate (suc (length l)) (words.next l));
  marks = tabulate 4 (mark_word l);
}

-- The letters are the bytes read through the classes.
unfoldable pub pattern_of : List ℕ → List ℕ → Pattern
unfolding through pattern_with
pattern_of w classes = pattern_with w classes (through classes w)

-- What stands where there is none.
unfoldable pub zero_pattern : Pattern
zero_pattern = record {
  len = 0;
  noholes = 0;
  bytes = replicate longest_pattern 0;
  classes = replicate class_count 0;
  order = replicate longest_pattern 0;
  shift = replicate ranks 0;
  next = replicate ranks 0;
  marks = replicate 4 0;
}

-- The pattern of w with the comparisons made in building hmax, and what stands where there is none.
unfoldable pub built_with : List ℕ → List ℕ → List ℕ → Built
unfolding comparisons pattern_with
built_with w classes l = record { pattern = pattern_with w classes l; compared = comparisons l }

unfoldable pub built : List ℕ → List ℕ → Built
unfolding through built_with
built w classes = built_with w classes (through classes w)

unfoldable pub unbuilt : Built
unfolding zero_pattern
unbuilt = record { pattern = zero_pattern; compared = 0 }

-- Of m bytes, through k classes, in a scratch of n numbers, a pattern can be built.
unfoldable pub buildable : ℕ → ℕ → ℕ → Bool
buildable m k n = leb 1 m && (leb m longest_pattern && (eqb k class_count && leb scratch_size n))

-- The answer to the bytes w, classes and a scratch of n numbers.
unfoldable pub built_from : List ℕ → List ℕ → ℕ → Built
unfolding buildable built unbuilt
built_from w classes n = elim (buildable (length w) (length classes) n) [ true ↦ built w classes | false ↦ unbuilt ]

-- A scratch into which kmin(p) of the letters l was put for p from 0 to m, from its place for kmin on.
unfoldable pub kmins_after : List ℕ → List ℕ → List ℕ
unfolding tabulate words.kmin
kmins_after l s = take kmins_at s ++ (tabulate (suc (length l)) (words.kmin l) ++ drop (kmins_at + suc (length l)) s)

-- First hmax was put into it, and then kmin.
unfoldable pub tables_after : List ℕ → List ℕ → List ℕ
unfolding table_after kmins_after
tables_after l s = kmins_after l (table_after l s)

-- What a scratch holds afterwards.
unfoldable pub scratch_with : List ℕ → List ℕ → List ℕ → List ℕ
unfolding buildable through tables_after
scratch_with w classes s = elim (buildable (length w) (length classes) (length s)) [ true ↦ tables_after (through classes w) s | false ↦ s ]
