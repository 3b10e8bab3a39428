use Rattle.std.proofs.Common.{◌∙◌, ap}
use Rattle.std.specs.Arc.{arc_value}
use Rattle.std.specs.List.{filter_map}
use Rattle.std.specs.Ordering.{int_cmp}
use Rattle.dh_changes.specs.World.{facts}
use Rattle.table_build.specs.Left.{write_year}
use Rattle.table_build.specs.Ordered.{put_all}
use Rattle.table_build.proofs.LeftLemmas.{put-step}
use Rattle.table_build.proofs.left.years_named.Goals as goal

pub loop-change-preserved : goal.loop-change-preserved
loop-change-preserved c =
    c.loop-change.invariant
    ∙ put-step arc_value (write_year c.args.meta.now (facts c.args.world.now)) c.args.changes.now c.loop-change.change-index c.change-item.result
    c.deref.result.now c.loop-change.years.entries c.put_writes.new.years.entries c.loop-change-test.true
    c.change-item.is c.deref.ensures (c.in_ok-put_writes.ensures
    ∙ ap (λ ws. put_all int_cmp (λ year. year) c.loop-change.years.entries (filter_map (write_year c.args.meta.now (facts c.args.world.now)) ws))
    c.as_slice.ensures)
