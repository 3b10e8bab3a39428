use Rattle.std.proofs.Common.{◌∙◌, map, sym, ap, subst, length, rules, w32, of_z, to_z, FitsSigned, to_z-of_z}
use Rattle.std.specs.Arc.{arc_value}
use Rattle.org_tree.specs.Units.{IsTree}
use Rattle.dh_changes.specs.Facts.{Facts}
use Rattle.dh_changes.specs.World.{facts}
use Rattle.table_sums.specs.YearParts.{listed_as, part_with}
use Rattle.table_build.specs.Log.{writes_of}
use Rattle.table_build.proofs.KeyLemmas.{StandsTree}
use Rattle.table_build.proofs.OtherLemmas.{others-agree}
use Rattle.table_build.proofs.SlotLemmas.{left-own-by}
use Rattle.table_build.proofs.InYearLemmas.{year-lists, store-of-year}
use Rattle.table_build.proofs.reading.Reading.part_of_year.Goals as goal

pub rows_left-requires : goal.rows_left-requires
rows_left-requires c =
    ap (λ (f : Facts). f.approval) c.self.invariant.holds ∙ (others-agree (map arc_value c.self.inside.changes.now)).approval

pub part_from-requires : goal.part_from-requires
part_from-requires c =
    let fits : FitsSigned w32 c.args.year.now = search rules in
    let stands : StandsTree c.args.meta.now (facts c.self.inside.world) = record {
      is_tree = subst IsTree c.tree_of.ensures.value c.count-units.ensures.tree;
      numbers = ap length (sym c.tree_of.ensures.value) ∙ c.tree_of.ensures.numbers;
    } in
    store-of-year c.args.meta.now (writes_of c.args.self.now) c.args.year.now c.in_ok-rows.rows.items c.in_ok-events.events.items c.in_ok-regs.regs.items
    c.requires.few c.requires.days (left-own-by c.args.meta.now (facts c.self.inside.world) (writes_of c.args.self.now) stands)
    (year-lists c.args.meta.now (map arc_value c.self.inside.changes.now) c.args.self.now (facts c.self.inside.world) c.self.inside.regs.items
    c.deref-2.result.now c.self.inside.places.items c.deref.result.now c.args.year.now (to_z w32 (of_z w32 c.args.year.now)) c.in_ok-rows.rows.items
    c.in_ok-events.events.items c.in_ok-regs.regs.items c.self.invariant c.self.view_is c.deref-2.ensures.value c.deref.ensures.value (to_z-of_z fits)
    c.in_ok-rows.ensures.rows c.in_ok-events.ensures c.in_ok-regs.ensures)

pub returns : goal.returns
returns c =
    let fits : FitsSigned w32 c.args.year.now = search rules in
    c.in_ok-part.ensures
    ∙ ap (λ y. part_with y (listed_as c.in_ok-rows.rows.items c.in_ok-events.events.items c.in_ok-regs.regs.items)) (to_z-of_z fits)
    ∙ ap (part_with c.args.year.now)
    (year-lists c.args.meta.now (map arc_value c.self.inside.changes.now) c.args.self.now (facts c.self.inside.world) c.self.inside.regs.items
    c.deref-2.result.now c.self.inside.places.items c.deref.result.now c.args.year.now (to_z w32 (of_z w32 c.args.year.now)) c.in_ok-rows.rows.items
    c.in_ok-events.events.items c.in_ok-regs.regs.items c.self.invariant c.self.view_is c.deref-2.ensures.value c.deref.ensures.value (to_z-of_z fits)
    c.in_ok-rows.ensures.rows c.in_ok-events.ensures c.in_ok-regs.ensures)
