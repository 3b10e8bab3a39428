use Rattle.std.proofs.Common.{◌≡◌, ◌∙◌, List, length, sym, ap, subst, cond, ℕ, get_or}
use Rattle.std.specs.Prelude.{nat_lt}
use Rattle.std.specs.Ordering.{is_lt}
use Rattle.table_rows.specs.declared.row.Group.{Group}
use Rattle.table_rows.specs.Order.{group_cmp}
use Rattle.table_rows.specs.Store.{rises}
use Rattle.table_sums.specs.declared.search.Bound.TheVariants as bound
use Rattle.table_sums.specs.Bounds.{is_group_before, place_after, IsCut}
use Rattle.table_sums.proofs.SpanLemmas.{cut-by-group, cut-after, span}
use Rattle.table_sums.proofs.rows.Rows.span_of.Goals as goal

pub groups_before-first-requires : goal.groups_before-first-requires
groups_before-first-requires c = ap (rises group_cmp) c.as_slice-groups.ensures.value ∙ c.self.invariant.rise

pub returns : goal.returns
returns c =
    let groups = c.self.inside.groups.items in
    let starts = c.self.inside.starts.items in
    let members = c.self.inside.members.items in
    let g = c.args.group.now in
    let first = c.groups_before-first.result in
    let lent = c.as_slice-starts.result.now in
    let cut : IsCut (λ h. is_lt (group_cmp h g)) groups first =
    subst (λ (gs : List Group). IsCut (λ h. is_lt (group_cmp h g)) gs first) c.as_slice-groups.ensures.value c.groups_before-first.ensures in
    let low : c.start_of.result ≡ cond (nat_lt first (length starts)) (get_or starts first 0) (length members) =
    c.start_of.ensures
    ∙ ap (λ (n : ℕ). cond (nat_lt first (length lent)) (get_or lent first 0) n) (c.len.ensures ∙ c.self.inside.members.ok.0)
    ∙ ap (λ (ss : List ℕ). cond (nat_lt first (length ss)) (get_or ss first 0) (length members)) c.as_slice-starts.ensures.value in
    let next : c.place_after.result ≡ place_after groups first g =
    c.place_after.ensures ∙ ap (λ (gs : List Group). place_after gs first g) c.as_slice-groups.ensures.value in
    let high : c.start_of-2.result ≡ cond (nat_lt (place_after groups first g) (length starts)) (get_or starts (place_after groups first g) 0)
    (length members) =
    c.start_of-2.ensures
    ∙ ap (λ (n : ℕ). cond (nat_lt c.place_after.result (length lent)) (get_or lent c.place_after.result 0) n) (c.len-2.ensures
    ∙ c.self.inside.members.ok.0)
    ∙ ap (λ (ss : List ℕ). cond (nat_lt c.place_after.result (length ss)) (get_or ss c.place_after.result 0) (length members)) c.as_slice-starts.ensures.value
    ∙ ap (λ (n : ℕ). cond (nat_lt n (length starts)) (get_or starts n 0) (length members)) next in
    span g c.args.self.now c.start_of.result c.start_of-2.result
    (cut-by-group (λ h. is_lt (group_cmp h g)) groups starts members c.self.inside.numbers.items c.args.self.now first c.start_of.result
    c.self.invariant (sym c.self.view_is) cut low)
    (cut-by-group (is_group_before (bound.UptoGroup g)) groups starts members c.self.inside.numbers.items c.args.self.now
    (place_after groups first g) c.start_of-2.result
    c.self.invariant (sym c.self.view_is) (cut-after groups g first c.self.invariant.rise cut) high)
