use Rattle.std.proofs.Common.{◌∙◌}
use Rattle.dh_changes.specs.World.{facts}
use Rattle.table_build.proofs.InYearLemmas.{events-of-year}
use Rattle.table_build.proofs.in_year.events_in.Goals as goal

pub returns : goal.returns
returns c =
    events-of-year c.args.meta.now (facts c.args.world.now) c.args.year.now c.args.places.now _ c.in_ok-events.events.items
    (c.deref.ensures.value ∙ c.in_ok-found.ensures) c.in_ok-events.ensures
