-- Each step needs what those before it ensure.
use Rattle.std.proofs.Common.{◌∙◌, ap}
use Rattle.hmax.proofs.Tables.{after_known, after_compared}
use Rattle.pattern.specs.Built.{kmins_after, tables_after}
use Rattle.pattern.proofs.Building.{room, hmax_sizes, kmin_sizes, tables, built_is}
use Rattle.pattern.proofs.whole.of_letters.Goals as goal

pub fill_kmin-requires-clause-has_hmax : goal.fill_kmin-requires-clause-has_hmax
fill_kmin-requires-clause-has_hmax c = after_known _ _ (room _ _ c.requires.sizes) c.fill_hmax-compared.ensures.filled

pub invariant_of-tables : goal.invariant_of-tables
invariant_of-tables c =
    let filled = c.fill_hmax-compared.ensures.filled in
    let sizes = hmax_sizes _ _ c.requires.sizes filled in
    record {
      sizes = kmin_sizes _ _ sizes c.fill_kmin.ensures;
      filled = tables _ _ sizes c.fill_kmin.ensures (after_known _ _ (room _ _ c.requires.sizes) filled);
    }

pub returns-clause-value : goal.returns-clause-value
returns-clause-value c =
    built_is _ _ _ c.read_off-pattern.ensures (after_compared _ _ (room _ _ c.requires.sizes) c.fill_hmax-compared.ensures.compared)

pub returns-clause-scratch_after : goal.returns-clause-scratch_after
unfolding tables_after
returns-clause-scratch_after c = c.fill_kmin.ensures ∙ ap (kmins_after c.args.letters.now) c.fill_hmax-compared.ensures.filled
