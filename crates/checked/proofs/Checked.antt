-- When a pattern is prepared, as the test decides it. Assumes nothing.
use Prim.Native.Nat.{ℕ}
use mathlib.Core.Path.{◌≡◌, refl, sym, ap, ◌∙◌}
use mathlib.Core.Logic.{◌↔◌}
use mathlib.Core.Bool.{Bool, true, false}
use mathlib.Core.List.{List}
use Rattle.words.proofs.Cases.{not_both}
use Rattle.classes.specs.Classes.{identity}
use Rattle.intake.specs.Sizes.{scratch_size}
use Rattle.std.specs.Prelude.{Result, Ok, Err}
use Rattle.refusal.specs.declared.Refusal.{Refusal}
use Rattle.checked.specs.Check.{same_tables, same_pattern, prepared_again, is_prepared, Gives, IsPrepared, PlainIsPrepared}
use Rattle.pattern.specs.Built.{pattern_with, pattern_of, built, built_with}
use Rattle.pattern.specs.Letters.{own_bytes}
use Rattle.pattern.specs.declared.Pattern.{Pattern}
use Rattle.preparation.specs.Prepared.{prepared}
use Rattle.pattern.specs.declared.Built.{Built}
use Rattle.preparation.proofs.Answers.{ready, ready_answer, plain_prepared_lem}
use Rattle.checked.proofs.Same.{tables_decide, same_pattern_lem}

pub own_classes : (w c : List ℕ) → (pattern_of w c).classes ≡ c
unfolding pattern_of pattern_with
own_classes w c = refl

-- An answer is Ok, and its pattern is the same as p.
abbrev matches : Pattern → Result Built Refusal → Bool
matches p a = elim a [ Ok own ↦ same_pattern p own.pattern | Err why ↦ false ]

matches_iff : (p : Pattern) (a : Result Built Refusal) → (matches p a ≡ true) ↔ Gives a p
matches_iff p (Ok own) = (λ same. sym ((same_pattern_lem p own.pattern).0 same), λ is. (same_pattern_lem p own.pattern).1 (sym is))
matches_iff p (Err why) = (λ same. absurd (not_both false same refl), λ is. absurd is)

module _ (p : Pattern) where
  pub is_prepared_lem : (is_prepared p ≡ true) ↔ IsPrepared p
  unfolding is_prepared IsPrepared
  is_prepared_lem = matches_iff p (prepared_again p)

  plain : p.classes ≡ identity → IsPrepared p ≡ PlainIsPrepared p
  unfolding IsPrepared prepared_again PlainIsPrepared
  plain e = rw (e, plain_prepared_lem (own_bytes p) scratch_size) refl

  -- Prepared again, it has the classes that it was lent, so that the tables decide.
  pub tables_tell : {own : Built} → Ok own ≡ prepared (own_bytes p) p.classes scratch_size → same_tables p own.pattern ≡ same_pattern p own.pattern
  unfolding built built_with pattern_of pattern_with
  tables_tell {own} again =
      let tests = ready (own_bytes p) p.classes scratch_size (sym again) in
      let whole : Ok own ≡ Ok (built (own_bytes p) p.classes) = again ∙ ready_answer (own_bytes p) p.classes scratch_size tests in
      let same : own ≡ built (own_bytes p) p.classes = cc in
      tables_decide p own.pattern (ap (λ (b : Built). b.pattern.classes) same)

  -- What `is_prepared` ensures of its answer r, where preparation answered a to the pattern's own bytes and classes.
  pub tested : {a : Result Built Refusal} {r : Bool} → a ≡ prepared (own_bytes p) p.classes scratch_size → r ≡ matches p a
      → (r ≡ is_prepared p) × (((r ≡ true) ↔ IsPrepared p) × (p.classes ≡ identity → ((r ≡ true) ↔ PlainIsPrepared p)))
  unfolding is_prepared
  tested {a} {r} again e =
      let test : r ≡ is_prepared p = e ∙ ap (matches p) again in
      let meaning : (r ≡ true) ↔ IsPrepared p = rw test is_prepared_lem in
      (test, (meaning, λ c. rw (plain c) at meaning))
