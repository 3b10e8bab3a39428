use Rattle.std.proofs.Common.{◌∙◌, ap, refl}
use Rattle.engine.specs.Seen.{Seen}
use Rattle.request_replies.proofs.ServeLemmas.{from_start, ran_session, served_over}
use Rattle.request_replies.proofs.serving.serve_session.Goals as goal

pub returns-clause-ran : goal.returns-clause-ran
returns-clause-ran g c =
    let lent = c.of-machine.result.clock.now in
    let begun = c.of-machine.ensures.engine ∙ c.in_ok-engine.ensures in
    from_start g.C.Clock.shows lent c.args.clock.now c.of-machine.result.engine _ _ _ _ c.args.meta c.serve_requests-ended.result
    c.of-machine.ensures.clock begun (
      c.serve_requests-ended.new.machine.engine,
      ran_session (λ m. m.engine) (λ m. m.clock.now) _ g.C.Clock.shows lent (λ keeper. refl) _ _ _ _
          _ _ _ _ refl (ap (λ (seen : Seen). seen.faults) begun) c.serve_requests-ended.ensures.ran,
    )

pub returns-clause-told : goal.returns-clause-told
returns-clause-told g c =
    λ bytes told other. served_over (g.C.Clock.shows c.args.clock.now) bytes _ _ _ _ c.args.meta c.serve_requests-ended.result told other
    (returns-clause-ran g c)

pub returns-clause-read_fault : goal.returns-clause-read_fault
returns-clause-read_fault g c = c.serve_requests-ended.ensures.read_fault

pub returns-clause-write_fault : goal.returns-clause-write_fault
returns-clause-write_fault g c = c.serve_requests-ended.ensures.write_fault
