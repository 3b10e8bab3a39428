use Rattle.std.proofs.Common.{◌≡◌, ◌∙◌, ◌<◌, None, length, subst, ap, sym, get_or, arith}
use Rattle.dh_metadata.specs.Workflows.{workflow_of}
use Rattle.dh_metadata.specs.Linked.{IsBelow}
use Rattle.dh_metadata.proofs.LinkLemmas.{workflow_below}
use Rattle.dh_metadata.proofs.metadata.Metadata.workflow_of.Goals as goal

pub workflow_at-requires : goal.workflow_at-requires
workflow_at-requires c =
    let within : c.args.element < length c.self.inside.records.data_elements =
    subst (λ s. c.args.element < length s.data_elements) (sym c.self.view_is) c.requires in
    omega (arith, c.self.invariant.workflows.same_length, ap length c.as_slice.ensures.value)

pub returns-clause-value : goal.returns-clause-value
returns-clause-value c =
    let within : c.args.element < length c.self.inside.records.data_elements =
    subst (λ s. c.args.element < length s.data_elements) (sym c.self.view_is) c.requires in
    c.workflow_at.ensures ∙ ap (λ l. get_or l c.args.element None) c.as_slice.ensures.value
    ∙ c.self.invariant.workflows.each c.args.element within ∙ ap (λ s. workflow_of s.data_sets c.args.element) c.self.view_is

pub returns-clause-in_range : goal.returns-clause-in_range
returns-clause-in_range c =
    let r = c.self.inside.records in
    let within : c.args.element < length r.data_elements = subst (λ s. c.args.element < length s.data_elements) (sym c.self.view_is) c.requires in
    let value : c.workflow_at.result ≡ workflow_of r.data_sets c.args.element =
    c.workflow_at.ensures ∙ ap (λ l. get_or l c.args.element None) c.as_slice.ensures.value ∙ c.self.invariant.workflows.each c.args.element within in
    subst (λ s. IsBelow (length s.data_approval_workflows) c.workflow_at.result) c.self.view_is
    (subst (λ w. IsBelow (length r.data_approval_workflows) w) (sym value)
    (workflow_below (length r.data_approval_workflows) r.data_sets c.args.element (λ n set at. (c.self.invariant.linked.data_sets n set at).workflow)))
