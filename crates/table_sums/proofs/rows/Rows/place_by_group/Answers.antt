use Rattle.std.proofs.Common.{◌∙◌, List, length, sym, ap, subst, cond, ℕ, get_or}
use Rattle.std.specs.Prelude.{nat_lt}
use Rattle.table_rows.specs.declared.row.Group.{Group}
use Rattle.table_rows.specs.Order.{group_cmp}
use Rattle.table_rows.specs.Store.{rises}
use Rattle.table_sums.specs.Bounds.{is_group_before, IsCut}
use Rattle.table_sums.proofs.SpanLemmas.{cut-by-group}
use Rattle.table_sums.proofs.rows.Rows.place_by_group.Goals as goal

pub groups_before-groups-requires : goal.groups_before-groups-requires
groups_before-groups-requires c = ap (rises group_cmp) c.as_slice.ensures.value ∙ c.self.invariant.rise

pub returns : goal.returns
returns c =
    let groups = c.self.inside.groups.items in
    let g = c.groups_before-groups.result in
    let cut : IsCut (is_group_before c.args.bound.now) groups g =
    subst (λ (gs : List Group). IsCut (is_group_before c.args.bound.now) gs g) c.as_slice.ensures.value c.groups_before-groups.ensures in
    cut-by-group (is_group_before c.args.bound.now) groups c.self.inside.starts.items c.self.inside.members.items c.self.inside.numbers.items
    c.args.self.now g c.start_of.result c.self.invariant (sym c.self.view_is) cut
    (c.start_of.ensures
    ∙ ap (λ (n : ℕ). cond (nat_lt g (length c.as_slice-2.result.now)) (get_or c.as_slice-2.result.now g 0) n) (c.len.ensures
    ∙ c.self.inside.members.ok.0)
    ∙ ap (λ (ss : List ℕ). cond (nat_lt g (length ss)) (get_or ss g 0) (length c.self.inside.members.items)) c.as_slice-2.ensures.value)
