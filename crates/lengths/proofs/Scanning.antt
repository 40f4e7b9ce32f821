-- A scan at a window: how it stands, and how it goes on to the next. Assumes nothing.
use Prim.Native.Nat.{ℕ, suc, ◌+◌, ◌-◌, ◌≤◌, ◌<◌, min}
use mathlib.Core.Path.{◌≡◌, sym, ap, ◌∙◌}
use mathlib.Core.Logic.{⊎_elim, inl, inr}
use mathlib.Core.List.{List}
use native.Mathlib.Omega.{arith}
use lib.ListN.{length, get_or}
use Rattle.words.specs.Tables.{letter}
use Rattle.words.proofs.Cases.{less_or}
use Rattle.words.proofs.Noholes.{hmax_zero}
use Rattle.rules.proofs.KmpMethod.{kmp_shift_moves}
use Rattle.prefixes.specs.Longest.{longest, lengths_in}
use Rattle.prefixes.specs.CarriedOn.{comparisons}
use Rattle.prefixes.proofs.Entries.{longest_of, hmax_from_zero}
use Rattle.prefixes.specs.Internal.{Stands}
use Rattle.prefixes.proofs.Leaving.{Leaves, leaves_shift, leaves_entries}
use Rattle.prefixes.proofs.Standing.{stands_start, stands_over, stands_matched, stands_extended, stands_missed, stands_whole, stands_after, stands_passed}
use Rattle.lengths.specs.Internal.Steps.{Tables, Passes, Begins, Extends, LeavesBy, Stays}
use Rattle.lengths.specs.Internal.Scan.{Right, Scans}
use Rattle.lengths.proofs.Writing.{right_start, right_more, right_all}

-- No entry of the table is below its k.
pub from_k : {w table : List ℕ} → Tables w table → (i : ℕ) → i ≤ length w → (k : ℕ) → k < suc i → k ≤ min (get_or table k 0) i
from_k {w} T i l k h = rw (T.known k (omega arith)) (omega (arith, (hmax_from_zero w k (omega arith)).from))

-- The first entry of the table is the pattern's length, and the next is not 0.
pub first_entry : {w table : List ℕ} → Tables w table → get_or table 0 0 ≡ length w
first_entry {w} T = T.known 0 (omega arith) ∙ hmax_zero w

pub next_entry : {w table : List ℕ} → Tables w table → 1 ≤ get_or table 1 0
next_entry {w} T = omega (arith, T.known 1 (omega (arith, T.some)), (hmax_from_zero w 1 T.some).from)

-- Below how many windows end before the text does, there is more than one letter, and a window that ends before the text.
pub ends_before : {m n last : ℕ} → (1 < m → last ≡ n - m) × (m ≤ 1 → last ≡ 0) → (b : ℕ) → b < last → (1 < m) × (b + m < n)
ends_before {m} counted b l =
    ⊎_elim (λ (h : 1 < m). (h, omega (arith, counted.0 h))) (λ (h : m ≤ 1). absurd (omega (arith, counted.1 h))) (less_or 1 m)

module _ (w t before : List ℕ) (some : 1 ≤ length w) where
  pub scans_start : Scans w t before before 0 0 0
  scans_start = record { stands = stands_start w t some; right = right_start w t before }

  -- At the text's end: the count, and the list.
  pub scans_over : {after : List ℕ} {b i again : ℕ} → Scans w t before after b i again → length t ≤ b → length t ≤ length before
      → (again + length t ≡ comparisons w t) × (after ≡ lengths_in w t before)
  scans_over {b = b} S over room =
      let end : b ≡ length t = omega (arith, S.stands.inside) in
      (omega (arith, stands_over w t some S.stands (omega arith), S.stands.inside), right_all w t before (rw end at S.right) room)

  -- ---- Windows that miss at place 0

  module _ {s after : List ℕ} {b again r : ℕ} (S : Scans w t before s b 0 again) (P : Passes t (letter w 0) s after b r) where
    passed : Stands w t r 0 (again + r)
    passed =
        let sum : again + (b + 0) + (r - b) ≡ again + r = omega (arith, P.from) in
        rw sum at (stands_passed w t some r S.stands P.from P.upto P.missed)

    right : Right w t before after r
    right =
        let sum : b + (r - b) ≡ r = omega (arith, P.from) in
        rw sum at (right_more w t before S.right P.zeros (omega (arith, P.upto)) none)
      where
        none : (k : ℕ) → k < r - b → longest w t (b + k) ≡ 0
        none k l = longest_of w t (b + k) 0 record {
          upto = omega arith;
          inside = omega (arith, P.upto);
          same = λ p h. absurd (omega arith);
          ends = λ a h e. P.missed (b + k) (omega arith) (omega arith) (e ∙ ap (letter t) (omega arith));
        }

  pub scans_begun : {s after : List ℕ} {b i again b' i' : ℕ} → Scans w t before s b i again → Begins t (letter w 0) s after b i b' i'
      → Scans w t before after b' i' again
  scans_begun S (inl h) = rw (h.1, h.2, h.3) S
  scans_begun {s} {after} {b} {i} {again} {b'} {i'} S (inr (none, inl (one, N))) = at (rw none at S)
    where
      at : Scans w t before s b 0 again → Scans w t before after b' i' again
      at S =
          let z : again + (b' + 1) ≡ suc (again + b') = omega arith in
          rw one record {
            stands = rw z (stands_matched w t some (passed S N.passes) some (omega (arith, N.inside)) (N.found ∙ ap (letter t) (omega arith)));
            right = right S N.passes;
          }
  scans_begun {s} {after} {b} {i} {again} {b'} {i'} S (inr (none, inr (zero, end, P))) = at (rw none at S)
    where
      at : Scans w t before s b 0 again → Scans w t before after b' i' again
      at S =
          let z : again + (b' + 0) ≡ again + b' = omega arith in
          rw zero record { stands = rw z (passed S P); right = right S P }

  -- ---- A window compared and left

  module _ {table : List ℕ} (T : Tables w table) where
    leaves_of : {s after : List ℕ} {b i end k : ℕ} → i ≤ length w → end ≤ suc i → LeavesBy table s after b i end k → Leaves w i end k
    leaves_of le near L = record {
      on = L.on;
      upto = L.upto;
      passed = λ k a h e. L.passed k a h (T.known k (omega (arith, L.upto)) ∙ e);
      found = λ l. sym (T.known _ (omega arith)) ∙ L.found l;
    }

    -- The letters are compared up to the end of the pattern or the text, and the window is left for one that lies in the text.
    module _ {s after : List ℕ} {b i again r d k end stop : ℕ} (S : Scans w t before s b i again) (e : end ≡ min (length w) (length t - b))
        (E : Extends w t b i end r) (f : stop ≡ min (r + 1) (length t - b)) (L : LeavesBy table s after b r stop k) (D : Stays k r end d) where
      within : r ≤ length w
      within = omega (arith, e, E.upto)

      inside : b + r ≤ length t
      inside = omega (arith, e, E.upto, S.stands.inside)

      extended : Stands w t b r (again + (b + r))
      extended =
          let sum : again + (b + i) + (r - i) ≡ again + (b + r) = omega (arith, E.from) in
          rw sum at (stands_extended w t some r S.stands E.from within inside E.same)

      near : stop ≤ suc r
      near = omega (arith, f)

      leaves : Leaves w r stop k
      leaves = leaves_of within near L

      -- What is counted in it is what b + i does not tell.
      counted : {c : ℕ} → c ≡ again + d + (b + k + (r - k)) → Stands w t (b + k) (r - k) c → Stands w t (b + k) (r - k) (again + d + (b + k + (r - k)))
      counted z S = rw z at S

      stands : Stands w t (b + k) (r - k) (again + d + (b + k + (r - k)))
      stands = ⊎_elim
          (λ (l : b + r < length t).
          let z : stop ≡ suc r = omega (arith, f) in
          let N = rw z at leaves in
          ⊎_elim
          (λ (h : r < length w).
          let more : r < end = omega (arith, e) in
          let stays : k ≤ r → d ≡ 1 = λ a. D.1 a more in
          counted
          (⊎_elim (λ (a : r < k). omega (arith, D.2 a, N.upto)) (λ (a : k ≤ r). omega (arith, stays a)) (less_or r k))
          (stands_missed w t some k extended l N h (E.ends more)))
          (λ (h : length w ≤ r).
          let by = leaves_shift w some r k within N in
          counted (omega (arith, D.3 (omega (arith, e)), by, (kmp_shift_moves w r some within).upto)) (stands_whole w t some k extended l N h))
          (less_or r (length w)))
          (λ (l : length t ≤ b + r).
          let z : stop ≡ r = omega (arith, f, inside) in
          counted (omega (arith, D.3 (omega (arith, e)), L.upto)) (stands_after w t some k extended l (rw z at leaves)))
          (less_or (b + r) (length t))

      pub scans_left : Scans w t before after (b + k) (r - k) (again + d)
      scans_left = record {
        stands = stands;
        right = right_more w t before S.right L.entries (omega (arith, f, L.upto, inside)) (λ j l.
            leaves_entries w r stop k within near leaves t b inside extended.agree (λ a h. E.ends (omega (arith, e))) j l
            ∙ ap (λ h. min h r - j) (sym (T.known j (omega (arith, near, L.upto, within)))));
      }
