use Rattle.dh_periods.proofs.HeldLemmas.{held-inside, held-outside}
use Rattle.dh_periods.proofs.period.Period.inside.Goals as goal

pub returns-then-other-self : goal.returns-then-other-self
returns-then-other-self c =
    held-inside c.self.inside c.other.inside c.args.self c.args.other c.self.invariant c.other.invariant c.self.view_is c.other.view_is c.if-other-self.true

pub returns-else-other-self : goal.returns-else-other-self
returns-else-other-self c =
    held-outside c.self.inside c.other.inside c.args.self c.args.other c.self.invariant c.other.invariant c.self.view_is c.other.view_is c.if-other-self.false
