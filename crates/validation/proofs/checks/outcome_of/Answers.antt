use Rattle.std.proofs.Common.{◌∙◌, sym}
use Rattle.validation.proofs.RuleLemmas.{unread}
use Rattle.validation.proofs.checks.outcome_of.Goals as goal

pub returns-then-not-may_read-clause-value : goal.returns-then-not-may_read-clause-value
returns-then-not-may_read-clause-value g c = unread _ _ _ _ c.args.number (sym c.may_read.ensures ∙ c.if-not-may_read.true)
