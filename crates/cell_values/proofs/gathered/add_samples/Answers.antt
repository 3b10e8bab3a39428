use Rattle.std.proofs.Common.{◌∙◌, ◌++◌, append-nil, map, sym, ap}
use Rattle.std.proofs.lemmas.List.{take_all}
use Rattle.table_rows.specs.RowSamples.{sample_of}
use Rattle.cell_values.proofs.PlanLemmas.{mapped-after}
use Rattle.cell_values.proofs.gathered.add_samples.Goals as goal

pub loop-row-init : goal.loop-row-init
loop-row-init c = sym (append-nil c.args.samples.now.items)

pub loop-row-preserved : goal.loop-row-preserved
loop-row-preserved c =
    mapped-after sample_of c.args.rows.now c.args.samples.now.items c.loop-row.samples.items c.push.new.self.items c.loop-row.row-index c.row-item.result
    c.of.result c.loop-row-test.true c.row-item.is c.loop-row.invariant c.in_ok-push.ensures.items c.of.ensures

pub returns : goal.returns
returns c =
    c.loop-row.invariant
    ∙ ap (λ rows. c.args.samples.now.items ++ map sample_of rows) (take_all c.loop-row.row-index c.args.rows.now c.loop-row-test.false)
