use Rattle.std.proofs.Common.{OnOk, subst}
use Rattle.dh_changes.specs.Index.{AllReady}
use Rattle.dh_changes.proofs.world.prepare_all.Goals as goal

pub returns-clause-ready : goal.returns-clause-ready
returns-clause-ready c =
    subst (λ xs. OnOk c.make_all_ready.result (AllReady c.make_all_ready.new.index xs)) c.deref.ensures.value c.make_all_ready.ensures.ready
