use Rattle.std.proofs.Common.{sym, ◌∙◌}
use Rattle.org_tree.proofs.IdLemmas.{meet_at}
use Rattle.org_tree.proofs.own_ids.neighbours_differ.Goals as goal

pub returns-then-eq : goal.returns-then-eq
returns-then-eq c =
    meet_at c.args.ids.now c.loop-i.i c.index-ids-i.result c.index-ids-i-in-loop-i.result c.loop-i.auto.i c.loop-i-test.true
    c.index-ids-i.is c.index-ids-i-in-loop-i.is (sym c.eq.ensures ∙ c.if-eq.true)
