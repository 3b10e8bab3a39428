use Rattle.std.proofs.Common.{ap, refl, Option, Ok}
use Rattle.dh_outside.specs.declared.Failed.{Failed}
use Rattle.dh_outside.proofs.PieceLemmas.{rose_after}
use Rattle.net_doors.specs.Doors.{links_in}
use Rattle.net_doors.proofs.ServingLemmas.{still_served, is_closed}
use Rattle.net_doors.proofs.door.Door.next.Goals as goal

pub invariant_of-self-in-Ok-None : goal.invariant_of-self-in-Ok-None
invariant_of-self-in-Ok-None g c = (
  c.self.invariant.0,
  c.self.invariant.1,
  (
    c.self.invariant.2.0,
    c.self.invariant.2.1,
    still_served (ap (λ (f : Option g.row.N.Denot). links_in {E = Failed} (Ok f)) c.in-Ok-None.field-0-is) c.self.invariant.2.2 c.in-Ok-None.ensures.accepts,
  ),
  is_closed c.in-Ok-None.field-0-is c.in-Ok-None.ensures.accepts,
)

pub invariant_of-self-in-Err : goal.invariant_of-self-in-Err
invariant_of-self-in-Err g c = (
  c.self.invariant.0,
  c.self.invariant.1,
  (c.self.invariant.2.0, c.self.invariant.2.1, still_served refl c.self.invariant.2.2 c.in-Err.ensures.accepts),
  rose_after _ _ _ c.self.invariant.2.2.faults c.in-Err.ensures.failed,
)
