use Rattle.std.proofs.Common.{◌≡◌, true, false, Some, sym, ap, ◌∙◌, to_z-of_z, FitsSigned, w32, rules}
use Rattle.dh_periods.specs.Days.{listed}
use Rattle.dh_periods.specs.Places.{candidate}
use Rattle.dh_periods.proofs.ContainingLemmas.{candidate-at, containing_of-listed, containing_of-unlisted, has_days-is}
use Rattle.dh_periods.proofs.period.period_at.Goals as goal

pub returns-in_default : goal.returns-in_default
returns-in_default c =
    let f : FitsSigned w32 c.args.first = c.ranges.first in
    let place = rw (to_z-of_z f) at c.place_of.ensures.value in
    let same = candidate-at c.args.kind c.args.first c.place_of.result c.candidate.result place c.candidate.ensures in
    containing_of-unlisted c.args.kind c.args.first c.args.last (c.in_default.ensures ∙ ap listed same)

pub returns-then-are_in : goal.returns-then-are_in
returns-then-are_in c =
    let f : FitsSigned w32 c.args.first = c.ranges.first in
    let l : FitsSigned w32 c.args.last = c.ranges.last in
    let a : FitsSigned w32 c.first.result = search rules in
    let b : FitsSigned w32 c.last.result = search rules in
    let place = rw (to_z-of_z f) at c.place_of.ensures.value in
    let same = candidate-at c.args.kind c.args.first c.place_of.result c.candidate.result place c.candidate.ensures in
    let listed_is : Some c.in-Some.period ≡ listed (candidate c.args.kind c.args.first) = c.in-Some.ensures ∙ ap listed same in
    let test = rw (to_z-of_z a, to_z-of_z b, to_z-of_z f, to_z-of_z l, c.first.ensures.value, c.last.ensures.value) at c.are_in.ensures in
    let has = has_days-is c.in-Some.period c.args.first c.args.last c.are_in.result test in
    containing_of-listed c.args.kind c.args.first c.args.last c.in-Some.period true listed_is (sym c.if-are_in.true ∙ has)

pub returns-else-are_in : goal.returns-else-are_in
returns-else-are_in c =
    let f : FitsSigned w32 c.args.first = c.ranges.first in
    let l : FitsSigned w32 c.args.last = c.ranges.last in
    let a : FitsSigned w32 c.first.result = search rules in
    let b : FitsSigned w32 c.last.result = search rules in
    let place = rw (to_z-of_z f) at c.place_of.ensures.value in
    let same = candidate-at c.args.kind c.args.first c.place_of.result c.candidate.result place c.candidate.ensures in
    let listed_is : Some c.in-Some.period ≡ listed (candidate c.args.kind c.args.first) = c.in-Some.ensures ∙ ap listed same in
    let test = rw (to_z-of_z a, to_z-of_z b, to_z-of_z f, to_z-of_z l, c.first.ensures.value, c.last.ensures.value) at c.are_in.ensures in
    let has = has_days-is c.in-Some.period c.args.first c.args.last c.are_in.result test in
    containing_of-listed c.args.kind c.args.first c.args.last c.in-Some.period false listed_is (sym c.if-are_in.false ∙ has)
