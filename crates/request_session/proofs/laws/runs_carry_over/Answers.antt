use Rattle.std.proofs.Common.{◌≡◌, true}
use Rattle.request_session.proofs.AlongLemmas.{ran_along, ran_over_along}
use Rattle.request_session.proofs.laws.runs_carry_over.Goals as goal

pub returns-clause-ran : goal.returns-clause-ran
returns-clause-ran g c = λ f known carries most left left' written written' old new how is ran.
    ran_along f (λ m. known m ≡ true) g.M.Machine.step g.N.Machine.step carries most left left' written written' old new how is ran

pub returns-clause-over : goal.returns-clause-over
returns-clause-over g c = λ f known carries most bytes written written' old new how is ran.
    ran_over_along f (λ m. known m ≡ true) g.M.Machine.step g.N.Machine.step carries most bytes written written' old new how is ran
