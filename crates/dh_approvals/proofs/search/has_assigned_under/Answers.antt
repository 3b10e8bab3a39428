use Rattle.std.proofs.Common.{rules, ◌∙◌, sym}
use Rattle.dh_approvals.specs.Units.{is_assigned_in}
use Rattle.dh_approvals.proofs.SearchLemmas.{some-under, none-under}
use Rattle.dh_approvals.proofs.search.has_assigned_under.Goals as goal

pub returns-then-is_assigned_in : goal.returns-then-is_assigned_in
returns-then-is_assigned_in c =
    sym (some-under c.args.tree.now (is_assigned_in c.args.meta.now c.args.workflow) c.args.unit c.interval-first.result.0 c.interval-first.result.1
    c.unit_at.result c.loop-order.order c.interval-first.ensures.members c.unit_at.ensures.in_range c.unit_at.ensures.unit
    (search rules) (search rules) (sym c.is_assigned_in.ensures ∙ c.if-is_assigned_in.true))

pub returns : goal.returns
returns c =
    sym (none-under c.args.tree.now c.count-count.ensures.tree (is_assigned_in c.args.meta.now c.args.workflow) c.args.unit
    c.interval-first.result.0 c.interval-first.result.1 c.interval-first.ensures.members (search rules))
