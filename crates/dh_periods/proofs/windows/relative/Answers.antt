use Rattle.std.proofs.Common.{FitsSigned, to_z-of_z, w32}
use Rattle.dh_periods.proofs.RunLemmas.{relative_of-some, relative_of-none, relative-reach}
use Rattle.dh_periods.proofs.windows.relative.Goals as goal

pub periods_on-requires-clause-reach : goal.periods_on-requires-clause-reach
periods_on-requires-clause-reach c = relative-reach c.args.name.now c.in-Some.relative c.in-Some.ensures

pub returns-in_default : goal.returns-in_default
returns-in_default c = relative_of-none c.args.name.now c.args.day c.in_default.ensures

pub returns : goal.returns
returns c =
    let fits : FitsSigned w32 c.args.day = c.ranges.day in
    let place = rw (to_z-of_z fits) at c.place_of.ensures.value in
    relative_of-some c.args.name.now c.args.day c.place_of.result c.in-Some.relative _ place c.in-Some.ensures c.in_ok-periods_on.ensures
