use Rattle.std.proofs.Common.{true, false}
use Rattle.query_lang.proofs.LoopLemmas.{beside-past}
use Rattle.query_lang.proofs.item.beside.Goals as goal

pub loop-entry-preserved : goal.loop-entry-preserved
loop-entry-preserved g c =
    beside-past c.args.table.now (λ entry. (entry.0.now, entry.1)) c.loop-entry.entry-index c.entry-item.result c.args.name.now false _
    c.loop-entry-test.true c.entry-item.is c.if-eq.ensures c.loop-entry.invariant

pub returns-then-eq : goal.returns-then-eq
returns-then-eq g c =
    beside-past c.args.table.now (λ entry. (entry.0.now, entry.1)) c.loop-entry.entry-index c.entry-item.result c.args.name.now true _
    c.loop-entry-test.true c.entry-item.is c.if-eq.ensures c.loop-entry.invariant
