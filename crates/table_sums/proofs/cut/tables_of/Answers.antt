use Rattle.std.proofs.Common.{◌∙◌, ap, sym, subst}
use Rattle.table_sums.specs.YearParts.{ArePartitions, listed_as, together, years_in}
use Rattle.table_sums.proofs.CutLemmas.{cut-parts, cut-whole, cut-years}
use Rattle.table_sums.proofs.cut.tables_of.Goals as goal

pub of-requires : goal.of-requires
of-requires c =
    subst ArePartitions (sym c.in_ok-parts.ensures)
    (cut-parts (listed_as c.args.rows.items c.args.events.items c.args.regs.items) c.args.years.now c.requires)

pub returns-clause-contents : goal.returns-clause-contents
returns-clause-contents c =
    ap together c.in_ok-tables.ensures.parts
    ∙ cut-whole (listed_as c.args.rows.items c.args.events.items c.args.regs.items) c.args.years.now c.in_ok-parts.parts.items
    c.requires c.in_ok-parts.ensures

pub returns-clause-years : goal.returns-clause-years
returns-clause-years c =
    ap years_in c.in_ok-tables.ensures.parts
    ∙ cut-years (listed_as c.args.rows.items c.args.events.items c.args.regs.items) c.args.years.now c.in_ok-parts.parts.items
    c.in_ok-parts.ensures
