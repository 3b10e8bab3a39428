use Rattle.query_answer.proofs.plans.plan_of.Goals as goal

pub returns-in_ok-plan-in-Element : goal.returns-in_ok-plan-in-Element
returns-in_ok-plan-in-Element g c =
    (c.in-Element.is, (c.in_ok-plan-in-Element.ensures.plan, c.in_ok-plan-in-Element.ensures.operand))
