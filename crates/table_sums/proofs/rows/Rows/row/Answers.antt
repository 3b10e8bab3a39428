use Rattle.std.proofs.Common.{◌≡◌, ℕ, ◌<◌, List, length, get_or, rules, sym, ap, subst, ◌∙◌, FitsSigned, to_z-of_z}
use Rattle.std.specs.Int.{w64}
use Rattle.table_sums.specs.Columns.{row_from}
use Rattle.table_sums.specs.declared.gather.Member.{Member}
use Rattle.table_sums.proofs.ColumnLemmas.{row-here, within-columns, within-numbers}
use Rattle.table_sums.proofs.rows.Rows.row.Goals as goal

pub head_at-head-requires-clause-within : goal.head_at-head-requires-clause-within
head_at-head-requires-clause-within g c =
    subst (λ (ms : List Member). c.args.place < length ms) (sym c.as_slice-2.ensures.value)
    (within-columns c.self.inside.groups.items c.self.inside.starts.items c.self.inside.members.items c.self.inside.numbers.items c.args.self.now c.args.place
    c.self.invariant
    (sym c.self.view_is) c.requires)

pub index-requires : goal.index-requires
index-requires g c =
    subst (λ (n : ℕ). c.args.place < n) (sym c.self.inside.numbers.ok.0)
    (within-numbers c.self.inside.groups.items c.self.inside.starts.items c.self.inside.members.items c.self.inside.numbers.items c.args.self.now c.args.place
    c.self.invariant
    (sym c.self.view_is) c.requires)

pub returns-clause-row : goal.returns-clause-row
returns-clause-row g c =
    let at_n : c.index.result.now ≡ get_or c.self.inside.numbers.items c.args.place c.index.result.now = search rules in
    let fits : FitsSigned w64 c.index.result.now = search rules in
    let is = c.row_from.ensures ∙ ap (row_from c.head_at-head.result) (to_z-of_z fits) in
    row-here c.self.inside.groups.items c.as_slice.result.now c.self.inside.starts.items c.self.inside.members.items c.as_slice-2.result.now
    c.self.inside.numbers.items
    c.args.self.now c.args.place c.head_at-head.result c.index.result.now c.row_from.result c.self.invariant (sym c.self.view_is) c.requires
    c.as_slice.ensures.value c.as_slice-2.ensures.value
    c.head_at-head.ensures at_n is
