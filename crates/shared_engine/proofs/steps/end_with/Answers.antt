use Rattle.std.proofs.Common.{◌≡◌, Ok, Err, subst}
use Rattle.engine.specs.Seen.{Seen}
use Rattle.shared_engine.specs.Ends.{Goes, end_act}
use Rattle.shared_engine.proofs.Calls.{swapped_goes, dropped_goes, dropped_published}
use Rattle.shared_engine.proofs.steps.end_with.Goals as goal

pub returns-in-Ok-clause-goes : goal.returns-in-Ok-clause-goes
returns-in-Ok-clause-goes g c =
    subst (λ (e : Seen). Goes e (end_act c.args.ticket (Ok c.in-Ok.number)) c.swap.new.self) c.hand_in_all.ensures
    (swapped_goes _ _ c.args.ticket c.in-Ok.number c.in-Ok.ensures.step c.in-Ok.ensures.same)

pub returns-in-Err-clause-goes : goal.returns-in-Err-clause-goes
returns-in-Err-clause-goes g c =
    subst (λ (e : Seen). Goes e (end_act c.args.ticket (Err c.in-Err.fault)) c.drop_update.new.self) c.hand_in_all.ensures
    (dropped_goes _ c.swap.new.self _ c.args.ticket c.in-Err.fault c.in-Err.ensures.step c.in-Err.ensures.same c.drop_update.ensures.step
    c.drop_update.ensures.same)

pub returns-in-Err-clause-published : goal.returns-in-Err-clause-published
returns-in-Err-clause-published g c =
    subst (λ (e : Seen). c.drop_update.new.self.state.published ≡ e.state.published) c.hand_in_all.ensures
    (dropped_published c.hand_in_all.new.engine c.swap.new.self c.drop_update.new.self c.args.ticket c.in-Err.fault
    c.in-Err.ensures.step c.in-Err.ensures.same c.drop_update.ensures.step)
