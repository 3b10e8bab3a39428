use Rattle.std.proofs.Common.{◌≡◌, ◌∙◌, ◌+◌, ◌<◌, List, length, sym, ap, subst, cond, ℕ, get_or, rules}
use Rattle.std.specs.Prelude.{nat_lt}
use Rattle.table_sums.specs.declared.gather.Member.{Member}
use Rattle.table_sums.proofs.ColumnLemmas.{within-columns}
use Rattle.table_sums.proofs.SpanLemmas.{group-ends}
use Rattle.table_sums.proofs.rows.Rows.group_end.Goals as goal

pub index-requires : goal.index-requires
index-requires g c =
    subst (λ (n : ℕ). c.args.place < n) (sym c.self.inside.members.ok.0)
    (within-columns c.self.inside.groups.items c.self.inside.starts.items c.self.inside.members.items c.self.inside.numbers.items c.args.self.now
    c.args.place c.self.invariant (sym c.self.view_is) c.requires)

pub returns : goal.returns
returns g c =
    let members = c.self.inside.members.items in
    let m : Member = c.index.result.now in
    let at : m ≡ get_or members c.args.place m = search rules in
    let within = within-columns c.self.inside.groups.items c.self.inside.starts.items members c.self.inside.numbers.items c.args.self.now
    c.args.place c.self.invariant (sym c.self.view_is) c.requires in
    group-ends c.self.inside.groups.items c.self.inside.starts.items members c.self.inside.numbers.items
    c.args.self.now c.args.place c.start_of.result m c.self.invariant (sym c.self.view_is) within
    (c.start_of.ensures
    ∙ ap (λ (n : ℕ). cond (nat_lt (m.group + 1) (length c.as_slice.result.now)) (get_or c.as_slice.result.now (m.group + 1) 0) n) (c.len.ensures
    ∙ c.self.inside.members.ok.0)
    ∙ ap (λ (ss : List ℕ). cond (nat_lt (m.group + 1) (length ss)) (get_or ss (m.group + 1) 0) (length members)) c.as_slice.ensures.value
    ∙ ap (λ (v : Member). cond (nat_lt (v.group + 1) (length c.self.inside.starts.items)) (get_or c.self.inside.starts.items (v.group + 1) 0)
    (length members)) at)
