-- Why Colussi's Algorithm 7 finds hmax. Assumes nothing.
use Prim.Native.Nat.{ℕ, ◌+◌, ◌-◌, ◌≤◌, ◌<◌}
use mathlib.Core.Path.{◌≡◌, refl, ap, ◌∙◌}
use mathlib.Core.Logic.{⊎_elim}
use mathlib.Core.List.{List}
use native.Mathlib.Omega.{arith}
use lib.ListN.{length}
use Rattle.words.specs.Tables.{letter, hmax}
use Rattle.words.proofs.Cases.{less_or}
use Rattle.words.proofs.Periods.{longest_up, longest_down}
use Rattle.words.proofs.Noholes.{hmax_is, hmax_of}

-- A place i that is not past hmax(k): letters that differ end the prefix there, letters that agree lead on, and the word's end ends it.
module _ (w : List ℕ) (k i : ℕ) (pos : 1 ≤ k) (le : k ≤ length w) (from : k ≤ i) (upto : i ≤ hmax w k) where
  pub ends_where_differ : (letter w i ≡ letter w (i - k) → ⊥) → i ≡ hmax w k
  ends_where_differ differ = ⊎_elim
      (λ (a : i < hmax w k). absurd (differ ((hmax_is w k pos le).periodic (i - k) i (omega arith) a)))
      (λ (a : hmax w k ≤ i). omega arith)
      (less_or i (hmax w k))

  pub leads_on : i < length w → letter w i ≡ letter w (i - k) → i + 1 ≤ hmax w k
  leads_on inside same = ⊎_elim
      (λ (a : i < hmax w k). omega arith)
      (λ (a : hmax w k ≤ i).
      let here : hmax w k ≡ i = omega arith in
      absurd (((hmax_is w k pos le).longest (omega arith)).breaks (i - k) (omega arith) (ap (letter w) here ∙ same)))
      (less_or i (hmax w k))

  pub ends_with_word : length w ≤ i → i ≡ hmax w k
  ends_with_word l = omega (arith, (hmax_is w k pos le).upto)

-- hmax(k) is no place past the word's end.
pub hmax_upto : (w : List ℕ) (k : ℕ) → 1 ≤ k → k ≤ length w → hmax w k ≤ length w
hmax_upto w k pos le = (hmax_is w k pos le).upto

-- hmax(q) for a q above k, told by hmax(q - k).
module _ (w : List ℕ) (k q : ℕ) (pos : 1 ≤ k) (above : k < q) (le : q ≤ length w) where
  -- Where the prefix of q - k, shifted up by k, ends before that of k, it is that of q;
  pub given : hmax w (q - k) + k < hmax w k → hmax w q ≡ hmax w (q - k) + k
  given l =
      let K = hmax_is w k pos (omega arith) in
      hmax_of w q (hmax w (q - k) + k) (omega arith)
      (longest_up (letter w) k (hmax w k) (q - k) (hmax w (q - k)) q _ (omega arith) refl l K.periodic
      ((hmax_is w (q - k) (omega arith) (omega arith)).longest (omega arith)))

  -- where it does not, the prefix of k has the period q too.
  pub not_given : hmax w k ≤ hmax w (q - k) + k → hmax w k ≤ hmax w q
  not_given l = ⊎_elim
      (λ (a : hmax w q < hmax w k).
      let K = hmax_is w k pos (omega arith) in
      let Q = hmax_is w q (omega arith) le in
      let e : hmax w (q - k) ≡ hmax w q - k =
      hmax_of w (q - k) (hmax w q - k) (omega arith)
      (longest_down (letter w) k (hmax w k) (q - k) (hmax w q - k) q (hmax w q) (omega arith) (omega arith) a (omega arith) K.periodic
      (Q.longest (omega arith))) in
      absurd (omega arith))
      (λ (a : hmax w k ≤ hmax w q). a)
      (less_or (hmax w q) (hmax w k))
