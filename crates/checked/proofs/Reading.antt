-- What a reader of a prepared pattern finds in its fields: the promise that a search builds on. Assumes nothing.
use Prim.Native.Nat.{ℕ, suc, ◌≤◌, ◌<◌}
use mathlib.Core.Path.{◌≡◌, refl, sym, ap, ◌∙◌}
use mathlib.Core.List.{List}
use native.Mathlib.Omega.{arith}
use lib.ListN.{length, get_or}
use Rattle.words.specs.Numbers.{tabulate}
use Rattle.words.specs.Tables.{nohole, noholes, order, place, shift, next}
use Rattle.words.proofs.Tabulate.{length_tabulate}
use Rattle.words.proofs.Ranks.{length_order}
use Rattle.words.specs.Holds.{Lacks}
use Rattle.intake.specs.Sizes.{longest_pattern, scratch_size}
use Rattle.intake.specs.Outcomes.{outcome_of, Usable}
use Rattle.refusal.specs.Tests.{passed}
use Rattle.std.specs.Prelude.{Result, Ok, Err}
use Rattle.refusal.specs.declared.Refusal.{Refusal}
use Rattle.intake.proofs.Outcomes.{ready_is}
use Rattle.ones.specs.Marks.{marked}
use Rattle.pattern.specs.Sizes.{ranks}
use Rattle.pattern.specs.Lists.{padded}
use Rattle.pattern.specs.Built.{pattern_with, pattern_of, built, built_with}
use Rattle.checked.specs.Check.{prepared_again, Gives, IsPrepared}
use Rattle.pattern.specs.Letters.{own_bytes, word_of}
use Rattle.pattern.specs.declared.Pattern.{Pattern}
use Rattle.pattern.proofs.Bits.{marked_nohole}
use Rattle.pattern.proofs.Letters.{length_word}
use Rattle.pattern.proofs.Lists.{length_padded, padded_at, padded_tabulate_at}
use Rattle.pattern.specs.declared.Built.{Built}
use Rattle.preparation.proofs.Answers.{ready, ready_answer}

pub record Fields (p : Pattern) : Type 0 where
  pub some : 1 ≤ p.len
  pub short : p.len ≤ longest_pattern
  pub word : length (word_of p) ≡ p.len
  pub no_zero : Lacks 0 (own_bytes p)
  pub usable : Usable p.classes
  pub noholes : p.noholes ≡ noholes (word_of p)
  pub length_bytes : length p.bytes ≡ longest_pattern
  pub length_order : length p.order ≡ longest_pattern
  pub length_shift : length p.shift ≡ ranks
  pub length_next : length p.next ≡ ranks
  pub place_at : (i : ℕ) → i < p.len → get_or p.order i 0 ≡ place (word_of p) i
  pub shift_at : (i : ℕ) → i ≤ p.len → get_or p.shift i 0 ≡ shift (word_of p) i
  pub next_at : (i : ℕ) → i ≤ p.len → get_or p.next i 0 ≡ next (word_of p) i
  pub marked_at : (q : ℕ) → q < longest_pattern → marked p.marks q ≡ nohole (word_of p) q

-- A prepared pattern is the pattern of its own bytes and classes, which were not refused.
prepared_is : (p : Pattern) → IsPrepared p → (outcome_of (own_bytes p) p.classes scratch_size ≡ passed) × (p ≡ pattern_of (own_bytes p) p.classes)
unfolding IsPrepared prepared_again built built_with pattern_of
prepared_is p G = go (prepared_again p) refl G
  where
    go : (a : Result Built Refusal) → prepared_again p ≡ a → Gives a p
        → (outcome_of (own_bytes p) p.classes scratch_size ≡ passed) × (p ≡ pattern_of (own_bytes p) p.classes)
    go (Ok own) e gives =
        let tests = ready (own_bytes p) p.classes scratch_size e in
        let same : Ok own ≡ Ok (built (own_bytes p) p.classes) = sym e ∙ ready_answer (own_bytes p) p.classes scratch_size tests in
        let whole : own ≡ built (own_bytes p) p.classes = cc in
        (tests, sym gives ∙ ap (λ (b : Built). b.pattern) whole)
    go (Err why) e gives = absurd gives

-- A table of m + 1 entries.
by_rank : (w : List ℕ) (f : ℕ → ℕ) {l : List ℕ} → length w ≤ longest_pattern → l ≡ padded ranks (tabulate (suc (length w)) f)
    → (length l ≡ ranks) × ((i : ℕ) → i ≤ length w → get_or l i 0 ≡ f i)
by_rank w f short e = (
  ap length e ∙ length_padded ranks _ (omega (arith, length_tabulate (suc (length w)) f)),
  λ i l. ap (λ (x : List ℕ). get_or x i 0) e ∙ padded_tabulate_at ranks (suc (length w)) f i (omega arith),
)

pub fields_of : (p : Pattern) → IsPrepared p → Fields p
unfolding word_of pattern_of pattern_with place
fields_of p G =
    let bytes = own_bytes p in
    let w = word_of p in
    let same : length w ≡ length bytes = length_word p in
    let is = (prepared_is p G).1 in
    let tests = ready_is bytes p.classes scratch_size (prepared_is p G).0 in
    let taken = tests.0 in
    let short : length w ≤ longest_pattern = omega (arith, taken.short) in
    let len : p.len ≡ length bytes = ap (λ (q : Pattern). q.len) is in
    let orders : p.order ≡ padded longest_pattern (order w) = ap (λ (q : Pattern). q.order) is in
    let shifts = by_rank w (shift w) short (ap (λ (q : Pattern). q.shift) is) in
    let nexts = by_rank w (next w) short (ap (λ (q : Pattern). q.next) is) in
    record {
      some = omega (arith, taken.some);
      short = omega (arith, taken.short);
      word = same ∙ sym len;
      no_zero = taken.no_zero;
      usable = tests.1;
      noholes = ap (λ (q : Pattern). q.noholes) is;
      length_bytes = ap (λ (q : Pattern). length q.bytes) is ∙ length_padded longest_pattern bytes taken.short;
      length_order = ap length orders ∙ length_padded longest_pattern (order w) (omega (arith, length_order w));
      length_shift = shifts.0;
      length_next = nexts.0;
      place_at = λ i l. ap (λ (x : List ℕ). get_or x i 0) orders ∙ padded_at longest_pattern (order w) i (omega (arith, length_order w));
      shift_at = λ i l. shifts.1 i (omega arith);
      next_at = λ i l. nexts.1 i (omega arith);
      marked_at = λ q l. ap (λ (r : Pattern). marked r.marks q) is ∙ marked_nohole w q l;
    }
