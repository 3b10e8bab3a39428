use Rattle.std.proofs.Common.{subst, sym}
use Rattle.meta_rules.specs.Held.{IsHeld}
use Rattle.meta_rules.proofs.BothLemmas.{AllRuled, all_ruled}
use Rattle.meta_rules.proofs.held.rules.Goals as goal

pub returns-in-Ok : goal.returns-in-Ok
returns-in-Ok c =
    let links = c.args.links.now in
    let first = rw c.as_slice.ensures at c.tree_of-tree.ensures in
    let second = rw c.as_slice-2.ensures at (rw c.as_slice-3.ensures at (rw c.as_slice-4.ensures at c.combos_of-combos.ensures)) in
    let all = all_ruled c.args.parts.now links c.tree_of-tree.result c.combos_of-combos.result c.approvals-approvals.result c.both-later.result
    c.both.result first second c.approvals-approvals.ensures c.both-later.ensures c.both.ensures in
    let told = subst (AllRuled c.args.parts.now links) c.in-Ok.is all in
    (told.0, subst (IsHeld links) (sym c.structure.ensures) (record { tree = told.1.0; combos = told.1.1.0; approvals = told.1.1.1 }))

pub returns-in-Err : goal.returns-in-Err
returns-in-Err c =
    let links = c.args.links.now in
    let first = rw c.as_slice.ensures at c.tree_of-tree.ensures in
    let second = rw c.as_slice-2.ensures at (rw c.as_slice-3.ensures at (rw c.as_slice-4.ensures at c.combos_of-combos.ensures)) in
    let all = all_ruled c.args.parts.now links c.tree_of-tree.result c.combos_of-combos.result c.approvals-approvals.result c.both-later.result
    c.both.result first second c.approvals-approvals.ensures c.both-later.ensures c.both.ensures in
    subst (AllRuled c.args.parts.now links) c.in-Err.is all
