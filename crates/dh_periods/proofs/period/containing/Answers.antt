use Rattle.std.proofs.Common.{◌≡◌, FitsSigned, to_z-of_z, w32}
use Rattle.dh_periods.specs.Places.{containing_of}
use Rattle.dh_periods.proofs.ContainingLemmas.{containing-found, containing-none}
use Rattle.dh_periods.proofs.period.containing.Goals as goal

pub returns-clause-found : goal.returns-clause-found
returns-clause-found c =
    let f : FitsSigned w32 c.args.first = c.ranges.first in
    let l : FitsSigned w32 c.args.last = c.ranges.last in
    let e : c.period_with.result ≡ containing_of c.args.kind c.args.first c.args.last = rw (to_z-of_z f, to_z-of_z l) at c.period_with.ensures in
    containing-found c.args.kind c.args.first c.args.last c.period_with.result e

pub returns-clause-none : goal.returns-clause-none
returns-clause-none c =
    let f : FitsSigned w32 c.args.first = c.ranges.first in
    let l : FitsSigned w32 c.args.last = c.ranges.last in
    let e : c.period_with.result ≡ containing_of c.args.kind c.args.first c.args.last = rw (to_z-of_z f, to_z-of_z l) at c.period_with.ensures in
    containing-none c.args.kind c.args.first c.args.last c.period_with.result e
