use Rattle.std.proofs.Common.{◌∙◌, map, ap, sym, subst}
use Rattle.std.specs.Arc.{arc_value}
use Rattle.table_rows.specs.Store.{contents_in}
use Rattle.table_sums.specs.YearParts.{ArePartitions, together, years_in}
use Rattle.table_sums.proofs.CutLemmas.{cut-parts, cut-whole, cut-years}
use Rattle.table_build.specs.Log.{writes_of}
use Rattle.table_build.specs.Listed.{listed_in}
use Rattle.table_build.proofs.SlotLemmas.{listed-are, years-are}
use Rattle.table_build.proofs.slots.build_with.Goals as goal

pub of-requires : goal.of-requires
of-requires c =
    let writes = writes_of (map arc_value c.args.changes.now) in
    let listed = listed_in c.args.meta.now writes in
    subst ArePartitions (sym (years-are listed c.args.slots.items c.in_ok-parts.field-0.items c.requires.slots c.in_ok-parts.ensures))
    (cut-parts (contents_in listed) listed.years (listed-are c.args.meta.now writes c.requires.few c.requires.days c.requires.slots.own))

pub returns-clause-contents : goal.returns-clause-contents
returns-clause-contents c =
    let writes = writes_of (map arc_value c.args.changes.now) in
    let listed = listed_in c.args.meta.now writes in
    ap together c.in_ok-tables.ensures.parts
    ∙ cut-whole (contents_in listed) listed.years c.in_ok-parts.field-0.items
    (listed-are c.args.meta.now writes c.requires.few c.requires.days c.requires.slots.own)
    (years-are listed c.args.slots.items c.in_ok-parts.field-0.items c.requires.slots c.in_ok-parts.ensures)

pub returns-clause-years : goal.returns-clause-years
returns-clause-years c =
    let writes = writes_of (map arc_value c.args.changes.now) in
    let listed = listed_in c.args.meta.now writes in
    ap years_in c.in_ok-tables.ensures.parts
    ∙ cut-years (contents_in listed) listed.years c.in_ok-parts.field-0.items
    (years-are listed c.args.slots.items c.in_ok-parts.field-0.items c.requires.slots c.in_ok-parts.ensures)
