use Rattle.dh_periods.proofs.BoundLemmas.{day-bounds}
use Rattle.dh_periods.proofs.HeldLemmas.{inside-first, inside-last}
use Rattle.dh_periods.proofs.period.Period.days.Goals as goal

pub days_between-requires-clause-from : goal.days_between-requires-clause-from
days_between-requires-clause-from c =
    let a = c.self.inside in
    rw (inside-first a c.self.invariant) (day-bounds a.name c.self.invariant.0).0

pub days_between-requires-clause-order : goal.days_between-requires-clause-order
days_between-requires-clause-order c =
    let a = c.self.inside in
    rw (inside-first a c.self.invariant, inside-last a c.self.invariant) (day-bounds a.name c.self.invariant.0).1

pub days_between-requires-clause-to : goal.days_between-requires-clause-to
days_between-requires-clause-to c =
    let a = c.self.inside in
    rw (inside-last a c.self.invariant) (day-bounds a.name c.self.invariant.0).2
