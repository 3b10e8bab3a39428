use Rattle.std.proofs.Common.{◌≡◌, ◌∙◌, true, map, subst, sym}
use Rattle.std.specs.Arc.{arc_value}
use Rattle.table_rows.specs.Store.{Listed, contents_in, is_store}
use Rattle.table_rows.proofs.StoreLemmas.{true_from}
use Rattle.table_sums.specs.YearParts.{YearParts, rows_together, events_together, regs_together, years_in}
use Rattle.table_build.specs.Listed.{listed_in}
use Rattle.table_build.specs.Log.{writes_of}
use Rattle.table_latest.specs.Latest.{IsOverlay, LatestPart, listed_from, overlaid}
use Rattle.table_latest.proofs.LaterLemmas.{bridge-over, bridge-overlay}
use Rattle.latest_build.proofs.OverLemmas.{part-bridges}
use Rattle.latest_build.proofs.over.tables_over.Goals as goal

abbrev listed : YearParts → Listed
listed t = listed_from (rows_together t.parts) (events_together t.parts) (regs_together t.parts) (years_in t.parts)

abbrev IsYearStore : YearParts → Type 0
IsYearStore t = is_store (rows_together t.parts) (events_together t.parts) (regs_together t.parts) (years_in t.parts) ≡ true

pub of-requires : goal.of-requires
of-requires c =
    let base = listed (arc_value c.args.base.now) in
    let bridge = part-bridges arc_value c.args.meta.now c.args.changes.now base (arc_value c.args.base.now).base_cut (arc_value c.args.latest.now)
    c.units_stand.ensures.tree c.units_stand.ensures.numbers c.requires.few c.requires.days
    (subst IsYearStore c.deref.ensures (true_from _ c.years-years.ensures.store)) c.requires.base c.requires.from c.requires.cut c.requires.leads in
    subst (λ (t : YearParts). IsOverlay (listed t) (arc_value c.in_ok-part.part)) (sym c.in_ok-shared.ensures)
    (subst (λ (part : LatestPart). IsOverlay base part) (sym c.in_ok-part.ensures)
    (bridge-overlay base (arc_value c.args.latest.now) (contents_in (listed_in c.args.meta.now (writes_of (map arc_value c.args.changes.now)))) bridge))

pub returns-clause-all : goal.returns-clause-all
returns-clause-all c =
    let base = listed (arc_value c.args.base.now) in
    let bridge = part-bridges arc_value c.args.meta.now c.args.changes.now base (arc_value c.args.base.now).base_cut (arc_value c.args.latest.now)
    c.units_stand.ensures.tree c.units_stand.ensures.numbers c.requires.few c.requires.days
    (subst IsYearStore c.deref.ensures (true_from _ c.years-years.ensures.store)) c.requires.base c.requires.from c.requires.cut c.requires.leads in
    (λ i. overlaid (contents_in (c.in_ok-over.ensures.base i)) (c.in_ok-over.ensures.latest i))
    ∙ (λ i. overlaid (contents_in (listed (c.in_ok-shared.ensures i))) (c.in_ok-part.ensures i))
    ∙ bridge-over base (arc_value c.args.latest.now) (contents_in (listed_in c.args.meta.now (writes_of (map arc_value c.args.changes.now)))) bridge
