use Rattle.std.proofs.Common.{◌∙◌, map, sym, ap}
use Rattle.cell_values.specs.Plans.{groups_inside}
use Rattle.query_answer.proofs.BothLemmas.{had}
use Rattle.query_answer.proofs.plans.plan_groups.Goals as goal

pub returns-in_ok-own-in-Element-clause-plan : goal.returns-in_ok-own-in-Element-clause-plan
returns-in_ok-own-in-Element-clause-plan g c = sym c.in-Element.is

pub returns-in_ok-own-in-Element-clause-groups : goal.returns-in_ok-own-in-Element-clause-groups
returns-in_ok-own-in-Element-clause-groups g c = c.in_ok-own-in-Element.ensures

pub returns-in_ok-over-in-Indicator-clause-plan : goal.returns-in_ok-over-in-Indicator-clause-plan
returns-in_ok-over-in-Indicator-clause-plan g c = sym c.in-Indicator.is

pub returns-in_ok-over-in-Indicator-clause-groups : goal.returns-in_ok-over-in-Indicator-clause-groups
returns-in_ok-over-in-Indicator-clause-groups g c = (
  had _ _ _ c.item_groups-over.ensures c.in_ok-over-in-Indicator.ensures.first ∙ ap (map (groups_inside c.args.periods.now)) c.as_slice.ensures,
  had _ _ _ c.item_groups-under.ensures c.in_ok-over-in-Indicator.ensures.second ∙ ap (map (groups_inside c.args.periods.now)) c.as_slice-in-Indicator.ensures,
)

pub returns-in_ok-due-in-Rate-clause-plan : goal.returns-in_ok-due-in-Rate-clause-plan
returns-in_ok-due-in-Rate-clause-plan g c = sym c.in-Rate.is

pub returns-in_ok-due-in-Rate-clause-groups : goal.returns-in_ok-due-in-Rate-clause-groups
returns-in_ok-due-in-Rate-clause-groups g c = c.in_ok-due-in-Rate.ensures

pub returns-in_ok-subjects-in-Program-clause-plan : goal.returns-in_ok-subjects-in-Program-clause-plan
returns-in_ok-subjects-in-Program-clause-plan g c = sym c.in-Program.is

pub returns-in_ok-subjects-in-Program-clause-groups : goal.returns-in_ok-subjects-in-Program-clause-groups
returns-in_ok-subjects-in-Program-clause-groups g c = c.in_ok-subjects-in-Program.ensures
