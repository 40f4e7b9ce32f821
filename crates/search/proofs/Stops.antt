-- What the search up to the first occurrence answers in each case. Assumes nothing.
use Prim.Native.Nat.{ℕ}
use mathlib.Core.Path.{◌≡◌, refl, sym, ap, ◌∙◌}
use mathlib.Core.List.{List}
use lib.ListN.{length}
use Rattle.admission.specs.Admitted.{admitted}
use Rattle.classes.specs.Classes.{through}
use Rattle.pattern.specs.Letters.{word_of, text_of}
use Rattle.pattern.specs.declared.Pattern.{Pattern}
use Rattle.pattern.proofs.Letters.{text_through}
use Rattle.refusal.specs.declared.Refusal.{Refusal}
use Rattle.std.specs.Prelude.{Ok, Err}
use Rattle.refusal.specs.Tests.{passed}
use Rattle.rules.specs.Stopped.{stopped}
use Rattle.search.specs.Stop.{stop_of, stop_by}
use Rattle.search.specs.declared.Stop.{Stop}

module _ (p : Pattern) (t : List ℕ) where
  pub stop_refused : {why : Refusal} → admitted p (length t) ≡ Err why → stop_by p t ≡ Err why
  unfolding stop_by
  stop_refused e = rw (e, stop_by) refl

  module _ (e : admitted p (length t) ≡ passed) where
    pub stop_ran : stop_by p t ≡ Ok (stop_of (stopped (word_of p) (text_of p t)))
    unfolding stop_by
    stop_ran = rw (e, stop_by) refl

    -- A scan stops as the search for the letters w does.
    pub stop_scanned : {r : Stop} {w : List ℕ} → w ≡ word_of p → r ≡ stop_of (stopped w (through p.classes t)) → Ok r ≡ stop_by p t
    stop_scanned word is = ap Ok (is ∙ rw (word, text_through p t) refl) ∙ sym stop_ran
