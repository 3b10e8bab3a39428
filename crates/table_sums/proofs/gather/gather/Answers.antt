use Rattle.std.proofs.Common.{arith}
use Rattle.table_sums.proofs.GatherLemmas.{gathered-none, gathered-more, as_many}
use Rattle.table_sums.proofs.gather.gather.Goals as goal

pub loop-row-init : goal.loop-row-init
loop-row-init c =
    gathered-none c.args.rows.now c.in_ok-gathered.gathered.groups.items c.in_ok-gathered.gathered.starts.items
    c.in_ok-gathered.gathered.members.items c.in_ok-gathered.ensures.groups c.in_ok-gathered.ensures.starts c.in_ok-gathered.ensures.members

pub put_row-requires-clause-groups : goal.put_row-requires-clause-groups
put_row-requires-clause-groups c = omega (arith, c.loop-row-test.true, c.requires.few, c.loop-row.invariant.few)

pub put_row-requires-clause-members : goal.put_row-requires-clause-members
put_row-requires-clause-members c =
    let short = c.loop-row-test.true in
    let many = as_many c.args.rows.now c.loop-row.row-index c.loop-row.gathered.groups.items c.loop-row.gathered.starts.items
    c.loop-row.gathered.members.items (omega (arith, short)) c.loop-row.invariant in
    omega (arith, short, many, c.requires.few)

pub loop-row-preserved : goal.loop-row-preserved
loop-row-preserved c =
    gathered-more c.args.rows.now c.loop-row.row-index c.row-item.result c.loop-row.gathered.groups.items c.put_row.new.gathered.groups.items
    c.loop-row.gathered.starts.items c.put_row.new.gathered.starts.items
    c.loop-row.gathered.members.items c.put_row.new.gathered.members.items c.requires.rise c.loop-row-test.true c.row-item.is c.loop-row.invariant
    c.in_ok-put_row.ensures.groups c.in_ok-put_row.ensures.starts c.in_ok-put_row.ensures.members
