use Rattle.std.proofs.Common.{◌≡◌, ◌∙◌, ◌++◌, [], sym, ap, subst, rules}
use Rattle.std.specs.List.Sorted.{IsStrictlySortedBy}
use Rattle.table_rows.specs.Groups.{groups_of}
use Rattle.table_rows.specs.Order.{group_cmp}
use Rattle.table_sums.specs.Ascending.{ascending}
use Rattle.table_sums.proofs.YearPartLemmas.{groups-begin, groups-known, groups-next, groups-more, groups-done}
use Rattle.table_sums.proofs.year_gather.groups_in.Goals as goal

pub loop-part-init : goal.loop-part-init
loop-part-init c =
    let none : c.new-groups.result.items ≡ [] = search rules in
    groups-begin c.args.parts.now c.args.element c.new-groups.result.items c.requires none

pub with_groups-requires-clause-known : goal.with_groups-requires-clause-known
with_groups-requires-clause-known c =
    subst (IsStrictlySortedBy group_cmp) (sym c.deref.ensures.value)
    (groups-known c.args.parts.now c.args.element c.loop-part.part-index c.loop-part.groups.items c.requires c.loop-part.invariant)

pub with_groups-requires-clause-more : goal.with_groups-requires-clause-more
with_groups-requires-clause-more c =
    groups-next c.args.parts.now c.part-item.result c.loop-part.part-index c.args.element c.requires c.loop-part-test.true c.part-item.is

pub loop-part-preserved : goal.loop-part-preserved
loop-part-preserved c =
    groups-more c.args.parts.now c.part-item.result c.loop-part.part-index c.args.element c.loop-part.groups.items c.in_ok-groups.groups.items c.requires
    c.loop-part-test.true c.part-item.is c.loop-part.invariant
    (c.in_ok-groups.ensures
    ∙ ap (λ v. ascending group_cmp (v ++ groups_of c.args.element c.part-item.result.contents.rows)) c.deref.ensures.value)

pub returns : goal.returns
returns c =
    c.from.ensures
    ∙ groups-done c.args.parts.now c.args.element c.loop-part.part-index c.loop-part.groups.items c.loop-part-test.false c.loop-part.invariant
