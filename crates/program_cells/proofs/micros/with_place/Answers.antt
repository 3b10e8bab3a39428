use Rattle.std.proofs.Common.{◌≡◌, Some, rules, FitsSigned, w64, to_z-of_z, subst}
use Rattle.std.specs.Prelude.{IfSome}
use Rattle.dh_base.specs.Fractions.{of_micros, add_of}
use Rattle.program_cells.specs.Value.{unless_fault}
use Rattle.program_cells.specs.declared.micros.MicroSum.{MicroSum}
use Rattle.program_cells.proofs.MicroLemmas.{place-summed, place-numbered}
use Rattle.program_cells.proofs.micros.with_place.Goals as goal

pub returns-then-place-list-clause-sum : goal.returns-then-place-list-clause-sum
returns-then-place-list-clause-sum c = λ rest.
    let fits : FitsSigned w64 c.at.result = search rules in
    place-summed (λ (next : MicroSum). next.number) c.args.sum.now.number c.args.list.now c.args.place c.at.result rest c.with_micros.result
    c.if-place-list.true c.at.ensures
    (subst (λ micros. IfSome c.with_micros.result
    (λ next. unless_fault (add_of (of_micros c.args.sum.now.number) (of_micros micros)) ≡ Some (of_micros next.number))) (to_z-of_z fits)
    c.with_micros.ensures.next)

pub returns-then-place-list-clause-count : goal.returns-then-place-list-clause-count
returns-then-place-list-clause-count c = λ count rest.
    place-numbered count c.args.list.now c.args.place rest c.with_micros.result c.if-place-list.true
