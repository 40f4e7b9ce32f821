-- Both searches, run to their ends, list the same positions; and with a cap and a list that are large enough a search runs to its end. Assumes
-- nothing.
use Prim.Native.Nat.{ℕ, ◌*◌, ◌≤◌}
use mathlib.Core.Path.{◌≡◌, refl, sym, ap, ◌∙◌}
use mathlib.Core.List.{List}
use native.Mathlib.Omega.{arith}
use lib.ListN.{length}
use Rattle.words.proofs.Numbers.{count_le}
use Rattle.words.proofs.Listing.{length_ascending}
use Rattle.rules.specs.Occurs.{occurs, occurrences_below}
use Rattle.rules.specs.Colussi.{colussi}
use Rattle.rules.specs.Kmp.{kmp}
use Rattle.rules.specs.Promise.{accounted, CutOff}
use Rattle.rules.specs.declared.Ending.{Ending}
use Rattle.rules.specs.declared.Ending.TheVariants.{Done, Spent, Full}
use Rattle.rules.proofs.ColussiMethod.{colussi_finds}
use Rattle.rules.proofs.KmpMethod.{kmp_finds}
use Rattle.rules.proofs.Uncapped.{never_spent}

-- Whatever the caps and the lists' sizes are.
pub same_positions : (w t : List ℕ) → 1 ≤ length w → (cap size cap' size' : ℕ)
    → (colussi w t cap size).ending ≡ Done → (kmp w t cap' size').ending ≡ Done
    → (colussi w t cap size).last.found ≡ (kmp w t cap' size').last.found
same_positions w t some cap size cap' size' C K =
    (rw C at (colussi_finds w t some cap size).exactly) ∙ sym (rw K at (kmp_finds w t some cap' size').exactly)

-- There are at most b occurrences below b.
few_below : (w t : List ℕ) (b : ℕ) → length (occurrences_below b w t) ≤ b
unfolding occurrences_below
few_below w t b = omega (arith, length_ascending (occurs w t) b, count_le b (occurs w t))

-- A cap of 2n is above the ceiling, and there are fewer than n occurrences in n letters and more than none.
pub runs_to_its_end : (w t : List ℕ) → 1 ≤ length w → (cap size : ℕ) → 2 * length t ≤ cap → length t ≤ size → (colussi w t cap size).ending ≡ Done
runs_to_its_end w t some cap size high long =
    at (colussi w t cap size).ending (length (colussi w t cap size).last.made) (colussi w t cap size).last.found
    (colussi_finds w t some cap size).exactly (colussi_finds w t some cap size).cut_off (never_spent w t some cap size high)
  where
    at : (e : Ending) (c : ℕ) (found : List ℕ) → found ≡ accounted w t e → CutOff colussi w t cap size e c (length found)
        → ((b : ℕ) → e ≡ Spent b → ⊥) → e ≡ Done
    at Done c found F C n = refl
    at (Spent b) c found F C n = absurd (n b refl)
    at (Full b) c found F C n = absurd (omega (arith, C.0.inside, C.2, ap length F, few_below w t b))
