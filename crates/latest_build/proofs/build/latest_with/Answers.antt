use Rattle.std.proofs.Common.{◌∙◌, map, subst, sym}
use Rattle.std.specs.Arc.{arc_value}
use Rattle.dh_changes.specs.World.{facts}
use Rattle.table_build.specs.Log.{writes_of}
use Rattle.table_latest.specs.Latest.{AreInOrder}
use Rattle.latest_build.proofs.CoverLemmas.{leads-held, touched-ordered}
use Rattle.latest_build.proofs.build.latest_with.Goals as goal

pub of-requires : goal.of-requires
of-requires c =
    let keys = c.args.asked.now.keys in
    subst AreInOrder (sym c.in_ok-touched.ensures) (touched-ordered c.args.meta.now (facts c.args.world.now) keys.values.now keys.events.now keys.regs.now)

pub returns-clause-leads : goal.returns-clause-leads
returns-clause-leads c =
    let keys = c.args.asked.now.keys in
    leads-held c.args.meta.now (writes_of (map arc_value c.args.changes.now)) (facts c.args.world.now) c.requires.held (c.units_stand.ensures.tree (facts
    c.args.world.now))
    (c.units_stand.ensures.numbers (facts c.args.world.now)) keys.values.now keys.events.now keys.regs.now c.of.result
    (c.of.ensures.touched ∙ c.in_ok-touched.ensures) (c.of.ensures.holds ∙ c.in_ok-store.ensures)
