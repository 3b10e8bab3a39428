use Rattle.std.proofs.Common.{◌≡◌, [], None, take}
use Rattle.std.specs.List.{filter}
use Rattle.dh_changes.specs.Said.{same_id}
use Rattle.dh_changes.specs.Maps.{held}
use Rattle.dh_changes.specs.Hanging.{hangs_on}
use Rattle.dh_changes.proofs.hanging.live.Given as goal

abbrev pub invariant-loop-id : goal.invariant-loop-id
invariant-loop-id g l =
    l.found.items ≡ filter (λ id. hangs_on (g.V.Hangs.parent (held same_id None l.objects id)) l.parent) (take l.id-index (held same_id [] l.children l.parent))
