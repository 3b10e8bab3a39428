use Rattle.std.proofs.Common.{◌≡◌, ◌<◌, sym, subst, ℕ, get_or, rules}
use Rattle.table_sums.specs.declared.gather.Member.{Member}
use Rattle.table_sums.proofs.ColumnLemmas.{within-columns}
use Rattle.table_sums.proofs.SpanLemmas.{member-before}
use Rattle.table_sums.proofs.rows.Rows.stands_before.Goals as goal

pub index-requires : goal.index-requires
index-requires g c =
    subst (λ (n : ℕ). c.args.place < n) (sym c.self.inside.members.ok.0)
    (within-columns c.self.inside.groups.items c.self.inside.starts.items c.self.inside.members.items c.self.inside.numbers.items c.args.self.now
    c.args.place c.self.invariant (sym c.self.view_is) c.requires)

pub returns-clause-before : goal.returns-clause-before
returns-clause-before g c =
    let members = c.self.inside.members.items in
    let m : Member = c.index.result.now in
    let at : m ≡ get_or members c.args.place m = search rules in
    let within = within-columns c.self.inside.groups.items c.self.inside.starts.items members c.self.inside.numbers.items c.args.self.now
    c.args.place c.self.invariant (sym c.self.view_is) c.requires in
    member-before c.self.inside.groups.items c.self.inside.starts.items members c.self.inside.numbers.items c.args.self.now c.args.place m
    c.args.key.now c.is_member_before.result c.self.invariant (sym c.self.view_is) within at c.is_member_before.ensures
