-- What tests come to.
use Rattle.std.specs.Prelude.{Result, Ok}
use Rattle.refusal.specs.declared.Refusal.{Refusal}

-- The refusal of the first test that is not passed, or none.
abbrev pub Tested : Type 0
Tested = Result (Unit {0}) Refusal

abbrev pub passed : Tested
passed = Ok tt
