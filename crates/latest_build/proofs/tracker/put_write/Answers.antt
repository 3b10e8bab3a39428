use Rattle.std.proofs.Common.{◌≡◌, ◌∙◌, ◌++◌, ap, sym, subst}
use Rattle.std.specs.Prelude.{OnOk}
use Rattle.dh_changes.specs.World.{facts}
use Rattle.latest_build.specs.Touches.{events_by, events_under}
use Rattle.latest_build.proofs.tracker.put_write.Goals as goal

pub returns-in-EntityWritten : goal.returns-in-EntityWritten
returns-in-EntityWritten c =
    let held = facts c.args.world.now in
    subst (λ found. OnOk c.put_of_entity.result (c.put_of_entity.new.ids.items ≡ c.args.ids.now.items ++ found))
    (ap (λ entity. events_under held entity.id) c.get-in-EntityWritten.ensures ∙ sym (ap (events_by held) c.in-EntityWritten.is)) c.put_of_entity.ensures
