use Rattle.std.proofs.Common.{◌∙◌, ap, map}
use Rattle.std.specs.Arc.{arc_value}
use Rattle.dh_changes.specs.World.{facts}
use Rattle.table_sums.specs.YearParts.{rows_together}
use Rattle.table_build.specs.Log.{writes_of}
use Rattle.latest_build.specs.Places.{value_places}
use Rattle.latest_build.proofs.KeptLemmas.{places-touched, rows-tree, start-rows, touched-covers}
use Rattle.latest_build.proofs.named.keys_touched.Goals as goal

pub returns-clause-same : goal.returns-clause-same
returns-clause-same c =
    let rows = rows_together c.args.base.now.parts in
    let hit = writes_of (map arc_value c.args.last.now) in
    λ start are. ap (value_places c.args.meta.now (facts c.args.world.now)) (c.in_ok-values.ensures.keys)
    ∙ places-touched c.args.meta.now (rows-tree c.args.meta.now c.units_stand.ensures.tree) rows start (start-rows c.args.meta.now start rows are)
    (facts c.args.world.now) hit

pub returns-clause-cover : goal.returns-clause-cover
returns-clause-cover c =
    let rows = rows_together c.args.base.now.parts in
    λ start before first more are held split part.
    touched-covers c.args.meta.now (rows-tree c.args.meta.now c.units_stand.ensures.tree) rows start (start-rows c.args.meta.now start rows are)
    (writes_of (map arc_value c.args.last.now)) (facts c.args.world.now) _ _ _
    (c.in_ok-values.ensures.keys) (c.in_ok-events.ensures)
    (c.in_ok-regs.ensures) before first more held split part
