use Rattle.std.proofs.Common.{◌&&◌, ◌∙◌, sym, arith, length}
use Rattle.dh_metadata.specs.Sets.{is_assigned}
use Rattle.dh_approvals.specs.Units.{uses}
use Rattle.dh_approvals.proofs.SearchLemmas.{first-some}
use Rattle.dh_approvals.proofs.search.is_assigned_in.Goals as goal

pub returns-then-is_assigned_by : goal.returns-then-is_assigned_by
returns-then-is_assigned_by c =
    sym (first-some (λ set. uses c.args.meta.now c.args.workflow set && is_assigned c.args.meta.now set c.args.unit)
    (length c.args.meta.now.data_sets) c.loop-set.set c.loop-set.invariant
    (sym c.is_assigned_by.ensures ∙ c.if-is_assigned_by.true) (omega (arith, c.loop-set-test.true, c.count-set-end.ensures)))
