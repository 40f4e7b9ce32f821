-- Occurrences of letters, in terms of bytes and their classes. Assumes nothing.
use Prim.Native.Nat.{ℕ, ◌+◌, ◌≤◌, ◌<◌}
use mathlib.Core.Path.{sym, ap, ◌∙◌}
use mathlib.Core.List.{List}
use native.Mathlib.Omega.{arith}
use lib.ListN.{length}
use Rattle.words.specs.Tables.{letter}
use Rattle.words.specs.Holds.{Lacks}
use Rattle.classes.specs.Classes.{class_of, through, OccursBy}
use Rattle.classes.proofs.Through.{length_through, through_at}
use Rattle.intake.specs.Outcomes.{Usable}
use Rattle.rules.specs.Occurs.{Occurs, CoversNo}
use Rattle.rules.proofs.Occurs.{covers_none_lacked}

module _ (c w t : List ℕ) (b : ℕ) where
  pub occurs_by : Occurs (through c w) (through c t) b → OccursBy c w t b
  occurs_by O =
      let inside : b + length w ≤ length t = omega (arith, O.inside, length_through c w, length_through c t) in
      record {
        inside = inside;
        same = λ p l. sym (through_at c w p l) ∙ O.same p (omega (arith, length_through c w)) ∙ through_at c t (b + p) (omega arith);
      }

  pub occurs_through : OccursBy c w t b → Occurs (through c w) (through c t) b
  occurs_through O = record {
    inside = omega (arith, O.inside, length_through c w, length_through c t);
    same = λ p l.
        let here : p < length w = omega (arith, length_through c w) in
        through_at c w p here ∙ O.same p here ∙ sym (through_at c t (b + p) (omega (arith, O.inside)));
  }

  -- Bytes that are not 0 have not the class of 0.
  lacks_class : Usable c → Lacks 0 w → Lacks (class_of c 0) (through c w)
  lacks_class U L p l e =
      let here : p < length w = omega (arith, length_through c w) in
      let some : 1 ≤ letter w p = omega (arith, L p here) in
      U.zero_alone (letter w p) some (sym (through_at c w p here) ∙ e)

  -- Their occurrence covers no 0.
  pub covers_no_zero : Usable c → Lacks 0 w → Occurs (through c w) (through c t) b → CoversNo 0 (length (through c w)) t b
  covers_no_zero U L O x from upto e =
      covers_none_lacked (through c w) (through c t) (class_of c 0) b (lacks_class U L) O x from upto
      (through_at c t x (omega (arith, O.inside, length_through c t)) ∙ ap (class_of c) e)
