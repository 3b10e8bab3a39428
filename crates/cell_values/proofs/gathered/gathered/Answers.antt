use Rattle.std.proofs.Common.{◌∙◌, List, ◌++◌, append-nil, map, sym, ap}
use Rattle.std.proofs.lemmas.List.{drop_all, map-append}
use Rattle.table_rows.specs.declared.row.Group.{Group}
use Rattle.table_rows.specs.Cells.{gathered}
use Rattle.table_rows.specs.RowSamples.{sample_of}
use Rattle.cell_values.specs.Parts.{ranged_rows}
use Rattle.cell_values.proofs.PlanLemmas.{taken-more}
use Rattle.cell_values.proofs.gathered.gathered.Goals as goal

pub loop-group-init : goal.loop-group-init
loop-group-init g c =
    ap (λ samples. samples ++ map sample_of (gathered (ranged_rows (g.S.RowStore.rows c.args.store.now) c.args.need c.args.ranges.now) c.args.groups.now))
    c.new-samples.ensures.items

pub loop-group-preserved : goal.loop-group-preserved
loop-group-preserved g c =
    let of = ranged_rows (g.S.RowStore.rows c.args.store.now) c.args.need c.args.ranges.now in
    taken-more (λ (groups : List Group). map sample_of (gathered of groups))
    (λ (group : Group). map sample_of (of group))
    (λ group more. map-append sample_of (of group) (gathered of more))
    c.args.groups.now c.loop-group.group-index c.group-item.result c.loop-group.samples.items c.add_group.new.samples.items _
    c.loop-group-test.true c.group-item.is c.loop-group.invariant c.in_ok-add_group.ensures

pub returns : goal.returns
returns g c =
    let of = ranged_rows (g.S.RowStore.rows c.args.store.now) c.args.need c.args.ranges.now in
    sym (append-nil c.loop-group.samples.items)
    ∙ ap (λ (groups : List Group). c.loop-group.samples.items ++ map sample_of (gathered of groups))
    (sym (drop_all c.loop-group.group-index c.args.groups.now c.loop-group-test.false))
    ∙ c.loop-group.invariant
