-- What the longest prefix at a position is, and which follow from the pattern's own periods. Assumes nothing.
use Prim.Native.Nat.{ℕ, zero, suc, ◌+◌, ◌-◌, ◌≤◌, ◌<◌, min}
use mathlib.Core.Path.{◌≡◌, refl, sym, ap, ◌∙◌}
use mathlib.Core.Logic.{⊎_elim, ◌↔◌}
use mathlib.Core.Bool.{Bool, not}
use mathlib.Core.List.{List}
use native.Mathlib.Omega.{arith}
use lib.Dec.{eqb}
use lib.ListN.{length, get_or, take, drop, take-append-drop, get_or-append}
use lib.Seq.{length-take-le, get_or-take}
use borrow.Author.Tests.{eqb-true, eqb-false, eq-eqb, ne_eqb, not-true, not-false}
use Rattle.words.specs.Tables.{letter, hmax}
use Rattle.words.proofs.Cases.{less_or}
use Rattle.words.proofs.Numbers.{First, first_is, first_unique}
use Rattle.words.proofs.Tabulate.{length_tabulate, tabulate_at, by_entries}
use Rattle.words.proofs.Noholes.{Hmax, hmax_is, hmax_zero}
use Rattle.rules.specs.Occurs.{Occurs}
use Rattle.rules.proofs.Excluded.{Same}
use Rattle.prefixes.specs.Longest.{longest, lengths, lengths_in}

-- hmax from k = 0 on, where it is m.
pub hmax_from_zero : (w : List ℕ) (k : ℕ) → k ≤ length w → Hmax w k (hmax w k)
hmax_from_zero w zero l = record {
  from = omega arith;
  upto = omega (arith, hmax_zero w);
  periodic = λ x y e h. ap (letter w) (omega arith);
  longest = λ h. absurd (omega (arith, hmax_zero w));
}
hmax_from_zero w (suc k) l = hmax_is w (suc k) (omega arith) l

module _ (w t : List ℕ) where
  -- r letters of the pattern stand at x, inside the text, and no more.
  pub record Longest (x r : ℕ) : Type 0 where
    pub upto : r ≤ length w
    pub inside : x + r ≤ length t
    pub same : (p : ℕ) → p < r → Same w t x p
    pub ends : r < length w → x + r < length t → Same w t x r → ⊥

  differs : ℕ → ℕ → Bool
  differs x p = not (eqb (letter w p) (letter t (x + p)))

  longest_first : (x : ℕ) → First 0 (min (length w) (length t - x)) (differs x) (longest w t x)
  unfolding longest differs
  longest_first x = first_is 0 (min (length w) (length t - x)) (differs x) (omega arith)

  pub longest_is : (x : ℕ) → x ≤ length t → Longest x (longest w t x)
  unfolding differs
  longest_is x l =
      let F = longest_first x in
      record {
        upto = omega (arith, F.upto);
        inside = omega (arith, F.upto);
        same = λ p h. eqb-true _ _ (not-false _ (F.passed p (omega arith) h));
        ends = λ a b. eqb-false _ _ (not-true _ (F.found (omega arith)));
      }

  pub longest_of : (x r : ℕ) → Longest x r → longest w t x ≡ r
  unfolding differs
  longest_of x r L = first_unique 0 (min (length w) (length t - x)) (differs x) (longest w t x) r (longest_first x) record {
    from = omega arith;
    upto = omega (arith, L.upto, L.inside);
    passed = λ p a b. ap not (eq-eqb _ _ (L.same p b));
    found = λ l. ap not (ne_eqb _ _ (L.ends (omega arith) (omega arith)));
  }

  -- It is the whole pattern exactly where the pattern occurs.
  pub whole_occurs : (x : ℕ) → x ≤ length t → (longest w t x ≡ length w) ↔ Occurs w t x
  whole_occurs x l = (
    λ e. let L = longest_is x l in record { inside = omega (arith, L.inside); same = λ p h. L.same p (omega arith) },
    λ O. longest_of x (length w) record { upto = omega arith; inside = O.inside; same = O.same; ends = λ a b. absurd (omega arith) },
  )

  -- Where the first i letters stand at b, the longest prefix at b + k follows from the letters k places apart: they agree up to hmax(k). If that
  -- is i or more, the next letter is to be known to differ.
  pub entry : (b i k : ℕ) → i ≤ length w → b + i ≤ length t → ((p : ℕ) → p < i → Same w t b p) → k ≤ i
      → (i ≤ hmax w k → i - k < length w → b + i < length t → letter w (i - k) ≡ letter t (b + i) → ⊥)
      → longest w t (b + k) ≡ min (hmax w k) i - k
  entry b i k upto inside agree le stop = ⊎_elim
      (λ (a : hmax w k < i). at (hmax w k) (omega arith) H.from (omega arith) (omega arith)
      (λ u v e. (H.longest (omega arith)).breaks (hmax w k - k) (omega (arith, H.from))
      (agree (hmax w k) a ∙ ap (letter t) (omega (arith, H.from)) ∙ sym e)))
      (λ (a : i ≤ hmax w k). at i (omega arith) le a (omega arith) (λ u v e. stop a u (omega arith) (e ∙ ap (letter t) (omega arith))))
      (less_or (hmax w k) i)
    where
      H : Hmax w k (hmax w k)
      H = hmax_from_zero w k (omega arith)

      at : (q : ℕ) → min (hmax w k) i ≡ q → k ≤ q → q ≤ hmax w k → q ≤ i
          → (q - k < length w → b + k + (q - k) < length t → Same w t (b + k) (q - k) → ⊥) → longest w t (b + k) ≡ min (hmax w k) i - k
      at q e from low high ends = longest_of (b + k) (q - k) record {
        upto = omega arith;
        inside = omega arith;
        same = λ p h. sym (H.periodic p (p + k) refl (omega arith)) ∙ agree (p + k) (omega arith) ∙ ap (letter t) (omega arith);
        ends = ends;
      } ∙ omega arith

  -- ---- A lent list with all of them at its start

  pub lengths_at : (lent : List ℕ) (x : ℕ) → x < length t → get_or (lengths_in w t lent) x 0 ≡ longest w t x
  unfolding lengths_in lengths
  lengths_at lent x l =
      get_or-append (lengths w t) (drop (length t) lent) 0 x (omega (arith, length_tabulate (length t) (longest w t)))
      ∙ tabulate_at (length t) (longest w t) x l

  -- By its entries and what follows them.
  pub lengths_of : (before after : List ℕ) → length t ≤ length after → ((x : ℕ) → x < length t → get_or after x 0 ≡ longest w t x)
      → drop (length t) after ≡ drop (length t) before → after ≡ lengths_in w t before
  unfolding lengths_in lengths
  lengths_of before after room entries rest =
      let n = length t in
      let front : take n after ≡ lengths w t =
      by_entries n (longest w t) (take n after) (length-take-le n after room) (λ x l. get_or-take n after x 0 l ∙ entries x l) in
      sym (take-append-drop n after) ∙ rw (front, rest) refl
