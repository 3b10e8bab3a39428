use Rattle.std.proofs.Common.{◌∙◌}
use Rattle.dh_changes.specs.World.{facts}
use Rattle.table_build.proofs.InYearLemmas.{regs-of-year}
use Rattle.table_build.proofs.in_year.regs_in.Goals as goal

pub returns : goal.returns
returns c =
    regs-of-year c.args.meta.now (facts c.args.world.now) c.args.year.now c.args.keys.now _ c.in_ok-regs.regs.items
    (c.deref.ensures.value ∙ c.in_ok-found.ensures) c.in_ok-regs.ensures
