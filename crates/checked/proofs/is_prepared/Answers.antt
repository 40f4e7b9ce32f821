-- It goes by what preparation answers again, and then by its pattern.
use mathlib.Core.Path.{refl, ◌∙◌}
use Rattle.checked.proofs.Checked.{tables_tell, tested}
use Rattle.checked.proofs.is_prepared.Goals as goal

pub returns-in-Ok : goal.returns-in-Ok
returns-in-Ok c =
    let T = tested c.args.pattern c.in-Ok.ensures (c.same_tables.ensures ∙ tables_tell c.args.pattern c.in-Ok.ensures) in
    record { test = T.0; meaning = T.1.0; plain = T.1.1 }

pub returns-in-Err : goal.returns-in-Err
returns-in-Err c = let T = tested c.args.pattern c.in-Err.ensures refl in record { test = T.0; meaning = T.1.0; plain = T.1.1 }
