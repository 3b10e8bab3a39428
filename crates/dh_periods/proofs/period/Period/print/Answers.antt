use Rattle.std.proofs.Common.{arith, ap, ◌∙◌, Some}
use Rattle.std.proofs.lemmas.Result.{IfOk-weaker}
use Rattle.dh_periods.specs.Texts.{period_of}
use Rattle.dh_periods.proofs.TextLemmas.{period_of-printed}
use Rattle.dh_periods.proofs.BoundLemmas.{place-bounds}
use Rattle.dh_periods.proofs.period.Period.print.Goals as goal

pub print_name-requires-clause-year : goal.print_name-requires-clause-year
print_name-requires-clause-year c = let b = place-bounds c.self.inside.name c.self.invariant.0 in omega arith

pub print_name-requires-clause-number : goal.print_name-requires-clause-number
print_name-requires-clause-number c = let b = place-bounds c.self.inside.name c.self.invariant.0 in omega arith

pub returns-clause-again : goal.returns-clause-again
returns-clause-again c =
    let again = period_of-printed c.self.inside.name c.self.invariant.0 in
    IfOk-weaker c.print_name.result _ _ (λ text e. ap period_of e ∙ again ∙ ap Some c.self.view_is) c.print_name.ensures
