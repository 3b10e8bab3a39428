use Rattle.std.proofs.Common.{◌∙◌, map}
use Rattle.std.specs.Arc.{arc_value}
use Rattle.dh_changes.specs.World.{facts}
use Rattle.table_rows.specs.Store.{is_store}
use Rattle.table_build.specs.Log.{writes_of}
use Rattle.latest_build.proofs.CoverLemmas.{store-held}
use Rattle.latest_build.proofs.build.store_of.Goals as goal

pub with_sums-requires : goal.with_sums-requires
with_sums-requires c =
    (λ i. is_store (c.requires.rows i) (c.in_ok-events.ensures i) (c.in_ok-regs.ensures i) (c.new.ensures.items i))
    ∙ store-held c.args.meta.now (writes_of (map arc_value c.args.changes.now)) (facts c.args.world.now) c.requires.held c.requires.tree c.requires.numbers
    c.requires.few c.requires.days c.args.keys.now.values.now c.args.keys.now.events.now c.args.keys.now.regs.now
