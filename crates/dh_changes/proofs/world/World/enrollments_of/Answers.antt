use Rattle.std.proofs.Common.{◌≡◌, ℕ, List, [], Option, IfOk, subst, refl}
use Rattle.std.specs.Map.{keys_of}
use Rattle.dh_changes.specs.Said.{same_id}
use Rattle.dh_changes.specs.Maps.{held}
use Rattle.dh_changes.specs.Holds.{contents, enrollment_held}
use Rattle.dh_changes.specs.Hanging.{enrollment_parent, hanging}
use Rattle.dh_changes.proofs.HangingLemmas.{noted-from_linked}
use Rattle.dh_changes.proofs.OrderLemmas.{hanging-same, covers-entries}
use Rattle.dh_changes.proofs.world.World.enrollments_of.Goals as goal

pub returns : goal.returns
unfolding Rattle.dh_changes.specs.World.facts
returns c =
    let index = c.self.inside.index in
    let parent_of : List ℕ → Option (List ℕ) = λ id. enrollment_parent (enrollment_held (contents index) id) in
    subst (λ w. IfOk c.live.result (λ ids. ids ≡ hanging (λ id. enrollment_parent (enrollment_held w.held id)) (keys_of w.held.enrollments) c.args.entity)) c.self.view_is
    (subst (λ xs. IfOk c.live.result (λ ids. ids ≡ xs))
    (hanging-same parent_of parent_of (held same_id [] index.enrollments_of c.args.entity) (keys_of index.enrollments.entries) c.args.entity (λ id. refl)
    (λ id. noted-from_linked index.enrollments_of (parent_of id) c.args.entity id (c.self.invariant.0.enrollments id))
    (covers-entries enrollment_parent refl index.enrollments.entries c.args.entity))
    c.live.ensures)
