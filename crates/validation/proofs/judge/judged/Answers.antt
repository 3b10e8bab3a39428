use Rattle.std.proofs.Common.{sym, subst}
use Rattle.validation.specs.declared.outcome.Outcome.{Outcome}
use Rattle.validation.specs.Run.{IsOutcomeOf}
use Rattle.validation.proofs.CheckLemmas.{judged_by_rule}
use Rattle.validation.proofs.judge.judged.Goals as goal

pub returns-clause-rule : goal.returns-clause-rule
returns-clause-rule c = λ r there.
    subst (λ (o : Outcome). IsOutcomeOf r c.args.rule o) (sym c.judged_by.ensures)
    (judged_by_rule r c.args.operator c.args.rule c.number_in.result c.number_in-2.result there)
