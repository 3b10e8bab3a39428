use Rattle.std.proofs.Common.{◌≡◌, ℕ, List, [], Option, IfOk, subst, refl}
use Rattle.std.specs.Map.{keys_of}
use Rattle.dh_changes.specs.Said.{same_id}
use Rattle.dh_changes.specs.Maps.{held}
use Rattle.dh_changes.specs.Holds.{contents, event_held}
use Rattle.dh_changes.specs.Hanging.{event_parent, hanging}
use Rattle.dh_changes.proofs.HangingLemmas.{noted-from_linked}
use Rattle.dh_changes.proofs.OrderLemmas.{hanging-same, covers-entries}
use Rattle.dh_changes.proofs.world.World.events_of.Goals as goal

pub returns : goal.returns
unfolding Rattle.dh_changes.specs.World.facts
returns c =
    let index = c.self.inside.index in
    let parent_of : List ℕ → Option (List ℕ) = λ id. event_parent (event_held (contents index) id) in
    subst (λ w. IfOk c.live.result (λ ids. ids ≡ hanging (λ id. event_parent (event_held w.held id)) (keys_of w.held.events) c.args.enrollment)) c.self.view_is
    (subst (λ xs. IfOk c.live.result (λ ids. ids ≡ xs))
    (hanging-same parent_of parent_of (held same_id [] index.events_of c.args.enrollment) (keys_of index.events.entries) c.args.enrollment (λ id. refl)
    (λ id. noted-from_linked index.events_of (parent_of id) c.args.enrollment id (c.self.invariant.0.events id))
    (covers-entries event_parent refl index.events.entries c.args.enrollment))
    c.live.ensures)
