-- The pattern that preparation gives is prepared: prepared again from its own bytes and classes, it is the same. Assumes nothing.
use Prim.Native.Nat.{ℕ}
use mathlib.Core.Path.{◌≡◌, refl, ap, ◌∙◌}
use mathlib.Core.Bool.{true}
use mathlib.Core.List.{List}
use native.Mathlib.Omega.{arith}
use Rattle.intake.specs.Sizes.{longest_pattern, scratch_size}
use Rattle.intake.specs.Outcomes.{Preparable, Usable}
use Rattle.intake.proofs.Outcomes.{ready_of}
use Rattle.pattern.proofs.Lists.{padded_first}
use Rattle.pattern.specs.Built.{pattern_with, pattern_of, built, built_with}
use Rattle.checked.specs.Check.{is_prepared, IsPrepared, prepared_again}
use Rattle.pattern.specs.Letters.{own_bytes}
use Rattle.preparation.specs.Prepared.{prepared}
use Rattle.preparation.proofs.Answers.{ready_answer}
use Rattle.checked.proofs.Checked.{own_classes, is_prepared_lem}

module _ (w c : List ℕ) where
  pub own_bytes_lem : own_bytes (pattern_of w c) ≡ w
  unfolding pattern_of pattern_with
  own_bytes_lem = padded_first longest_pattern w

  pub prepared_again_lem : Preparable w → Usable c → is_prepared (pattern_of w c) ≡ true
  unfolding IsPrepared prepared_again built built_with pattern_of
  prepared_again_lem P U =
      let p = pattern_of w c in
      let again : prepared_again p ≡ prepared w c scratch_size =
      ap (λ (l : List ℕ). prepared l p.classes scratch_size) own_bytes_lem ∙ ap (λ (l : List ℕ). prepared w l scratch_size) (own_classes w c) in
      let answer = again ∙ ready_answer w c scratch_size (ready_of w c scratch_size P U (omega arith)) in
      (is_prepared_lem p).1 (rw answer refl)
