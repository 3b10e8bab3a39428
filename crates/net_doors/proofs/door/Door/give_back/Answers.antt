use Rattle.std.proofs.Common.{◌∙◌}
use Rattle.net_doors.proofs.ServingLemmas.{given_back, ends_kept}
use Rattle.net_doors.proofs.door.Door.give_back.Goals as goal

pub invariant_of-self : goal.invariant_of-self
invariant_of-self g c = (
  c.self.invariant.0,
  c.self.invariant.1,
  (
    _,
    c.take_back.ensures _ c.self.invariant.2.0 c.self.invariant.2.1,
    given_back _ _ _ _ _ _ _ _ _ _ _ c.self.invariant.2.2 (c.sub.ensures.total ∙ c.audit.ensures.total) c.requires.served c.give_back.ensures,
  ),
  ends_kept _ _ _ _ _ _ _ c.self.invariant.3 c.give_back.ensures,
)
