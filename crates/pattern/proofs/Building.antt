-- What building answers in each case, and what it leaves in the scratch. Assumes nothing.
use Prim.Native.Nat.{ℕ, suc, ◌+◌, ◌≤◌, ◌<◌}
use mathlib.Core.Path.{◌≡◌, refl, ◌∙◌}
use mathlib.Core.Logic.{⊎_elim}
use mathlib.Core.Bool.{true, false}
use mathlib.Core.List.{List, ◌++◌}
use native.Mathlib.Omega.{arith}
use lib.Dec.{leb, eqb}
use lib.ListN.{length, get_or, take, drop, length-append, length-drop, get_or-append}
use lib.Seq.{length-take-le, get_or-take, get_or-append-add, drop-append-add, drop_at}
use borrow.Author.Tests.{leb-true, le-leb, eqb-true, eq-eqb}
use Rattle.words.specs.Numbers.{tabulate}
use Rattle.words.specs.Tables.{noholes, kmin}
use Rattle.words.proofs.Cases.{true_or_false, both_true}
use Rattle.words.proofs.Tabulate.{length_tabulate, tabulate_at}
use Rattle.classes.specs.Classes.{class_count, through}
use Rattle.classes.proofs.Through.{length_through}
use Rattle.intake.specs.Sizes.{longest_pattern, scratch_size}
use Rattle.hmax.specs.FastMethod.{comparisons}
use Rattle.hmax.specs.Table.{table_after, HasHmax}
use Rattle.hmax.specs.Internal.Steps.{Room}
use Rattle.hmax.proofs.Stores.{KeptFrom, kept_same, kept_both, kept_later}
use Rattle.hmax.proofs.Tables.{after_kept}
use Rattle.pattern.specs.Sizes.{kmins_at}
use Rattle.pattern.specs.Lists.{padded}
use Rattle.pattern.proofs.Lists.{padded_full}
use Rattle.pattern.specs.Marks.{mark_word}
use Rattle.pattern.specs.Built.{pattern_with, built_with, built, unbuilt, buildable, built_from, kmins_after, tables_after, scratch_with}
use Rattle.pattern.specs.Internal.Scratch.{Sizes, HasKmin, HasTables}
use Rattle.pattern.specs.Internal.Ranked.{RankedAll}
use Rattle.pattern.specs.declared.Pattern.{Pattern}
use Rattle.pattern.specs.declared.Built.{Built}
use Rattle.pattern.proofs.Ranked.{places_order}

-- The pattern of w with the letters l, field by field.
pub fields : (w c l : List ℕ) {d : ℕ} {bytes classes orders shifts nexts marks : List ℕ} → length c ≡ class_count
    → d ≡ noholes l → bytes ≡ padded longest_pattern w → classes ≡ padded class_count c → RankedAll l orders shifts nexts → marks ≡ tabulate 4 (mark_word l)
    → ◌≡◌ {A = Pattern}
    (record { len = length w; noholes = d; bytes = bytes; classes = classes; order = orders; shift = shifts; next = nexts; marks = marks })
    (pattern_with w c l)
unfolding pattern_with
fields w c l size ed eb ec R em = rw (ed, eb, ec, padded_full class_count c size, R.order, R.shift, R.next, em, places_order l) refl

pub built_is : (w c l : List ℕ) {p : Pattern} {n : ℕ} → p ≡ pattern_with w c l → n ≡ comparisons l
    → ◌≡◌ {A = Built} (record { pattern = p; compared = n }) (built_with w c l)
unfolding built_with
built_is w c l ep en = rw (ep, en) refl

-- Read through classes, the bytes are no more and no fewer.
pub letters_sizes : (w c s : List ℕ) → Sizes w s → Sizes (through c w) s
letters_sizes w c s S = let same = length_through c w in record { some = omega (arith, S.some); short = omega (arith, S.short); room = S.room }

-- ---- The scratch

module _ (w s : List ℕ) (S : Sizes w s) where
  pub room : Room w s
  room = record { some = S.some; entries = omega (arith, S.short, S.room); small = omega (arith, S.short) }

  -- After hmax,
  pub hmax_sizes : {t : List ℕ} → t ≡ table_after w s → Sizes w t
  hmax_sizes e = record { some = S.some; short = S.short; room = omega (arith, S.room, (after_kept w s room e).size) }

-- kmin leaves the entries before its own and after them, and has its own.
module _ (w s : List ℕ) (S : Sizes w s) {t : List ℕ} (e : t ≡ kmins_after w s) where
  abbrev n : ℕ
  n = suc (length w)

  abbrev table : List ℕ
  table = tabulate n (kmin w)

  front_size : length (take kmins_at s) ≡ kmins_at
  front_size = length-take-le kmins_at s (omega (arith, S.room))

  table_size : length table ≡ n
  table_size = length_tabulate n (kmin w)

  abbrev behind : List ℕ
  behind = drop (kmins_at + n) s

  parts : t ≡ take kmins_at s ++ (table ++ behind)
  unfolding kmins_after
  parts = e

  kmins_front : (i : ℕ) → i < kmins_at → get_or t i 0 ≡ get_or s i 0
  kmins_front i l =
      rw parts (get_or-append (take kmins_at s) (table ++ behind) 0 i (omega (arith, front_size)) ∙ get_or-take kmins_at s i 0 l)

  kmins_has : HasKmin w t
  kmins_has p l =
      rw parts (rw front_size at (get_or-append-add (take kmins_at s) (table ++ behind) p 0)
      ∙ get_or-append table behind 0 p (omega (arith, table_size)) ∙ tabulate_at n (kmin w) p (omega arith))

  pub kmins_kept : KeptFrom (kmins_at + n) s t
  kmins_kept = rw parts record {
    rest = rw front_size at (drop-append-add (take kmins_at s) (table ++ behind) n) ∙ drop_at table behind n table_size;
    size =
        length-append (take kmins_at s) (table ++ behind)
        ∙ omega (arith, front_size, table_size, length-append table behind, length-drop (kmins_at + n) s, S.short, S.room);
  }

  pub kmin_sizes : Sizes w t
  kmin_sizes = record { some = S.some; short = S.short; room = omega (arith, S.room, kmins_kept.size) }

  pub tables : HasHmax w s n → HasTables w t
  tables H = record { hmaxes = λ k l. kmins_front k (omega (arith, S.short)) ∙ H k l; kmins = kmins_has }

-- ---- The answer

-- Where the lengths allow it a pattern is built,
module _ (w c : List ℕ) (n : ℕ) (some : 1 ≤ length w) (short : length w ≤ longest_pattern) (size : length c ≡ class_count) (room : scratch_size ≤ n) where
  buildable_is : buildable (length w) (length c) n ≡ true
  unfolding buildable
  buildable_is =
      rw (le-leb 1 (length w) some, le-leb (length w) longest_pattern short, eq-eqb (length c) class_count size, le-leb scratch_size n room) refl

  pub build_answer : built_from w c n ≡ built w c
  unfolding built_from
  build_answer = rw (buildable_is, built_from) refl

module _ (w c s : List ℕ) where
  pub after_build : Sizes w s → length c ≡ class_count → scratch_with w c s ≡ tables_after (through c w) s
  unfolding scratch_with
  after_build S size = rw (buildable_is w c (length s) S.some S.short size S.room, scratch_with) refl

  -- and not where one of them does not.
  not_buildable : ((1 ≤ length w) → (length w ≤ longest_pattern) → (length c ≡ class_count) → (scratch_size ≤ length s) → ⊥)
      → buildable (length w) (length c) (length s) ≡ false
  unfolding buildable
  not_buildable fails = ⊎_elim
      (λ (yes : buildable (length w) (length c) (length s) ≡ true).
      let tests = both_true (leb 1 (length w)) _ yes in
      let more = both_true (leb (length w) longest_pattern) _ tests.1 in
      let last = both_true (eqb (length c) class_count) _ more.1 in
      absurd (fails (leb-true _ _ tests.0) (leb-true _ _ more.0) (eqb-true _ _ last.0) (leb-true _ _ last.1)))
      (λ no. no)
      (true_or_false (buildable (length w) (length c) (length s)))

  pub no_answer : ((1 ≤ length w) → (length w ≤ longest_pattern) → (length c ≡ class_count) → (scratch_size ≤ length s) → ⊥)
      → built_from w c (length s) ≡ unbuilt
  unfolding built_from
  no_answer fails = rw (not_buildable fails, built_from) refl

  after_none : buildable (length w) (length c) (length s) ≡ false → scratch_with w c s ≡ s
  unfolding scratch_with
  after_none fails = rw (fails, scratch_with) refl

  pub no_change : ((1 ≤ length w) → (length w ≤ longest_pattern) → (length c ≡ class_count) → (scratch_size ≤ length s) → ⊥) → scratch_with w c s ≡ s
  no_change fails = after_none (not_buildable fails)

  -- Past its first scratch_size numbers, a scratch is always kept.
  pub build_kept : {t : List ℕ} → t ≡ scratch_with w c s → KeptFrom scratch_size s t
  unfolding buildable tables_after
  build_kept e = rw e (⊎_elim
      (λ (yes : buildable (length w) (length c) (length s) ≡ true).
      let tests = both_true (leb 1 (length w)) _ yes in
      let more = both_true (leb (length w) longest_pattern) _ tests.1 in
      let last = both_true (eqb (length c) class_count) _ more.1 in
      let S : Sizes w s =
      record { some = leb-true _ _ tests.0; short = leb-true _ _ more.0; room = leb-true _ _ last.1 } in
      let L = letters_sizes w c s S in
      let l = through c w in
      let first = after_kept l s (room l s L) refl in
      let then = kmins_kept l (table_after l s) (hmax_sizes l s L refl) refl in
      let short = L.short in
      rw (after_build S (eqb-true _ _ last.0)) (kept_both (kept_later (omega arith) first) (kept_later (omega arith) then)))
      (λ fails. rw (after_none fails) (kept_same s))
      (true_or_false (buildable (length w) (length c) (length s))))
