use Rattle.shared_server.proofs.AlongLemmas.{served_for, lent_still, prompt_for}
use Rattle.shared_server.proofs.serving.serve_by.Goals as goal

pub returns-clause-served : goal.returns-clause-served
returns-clause-served g c =
    served_for g.J.Naming.made g.C.Clock.shows (λ m. m.pass.now) (λ m. m.pass.ghost_name) (λ m. m.clock.now) _ _ _ _ _ _ _ _ c.serve_link.ensures.served

pub returns-clause-lends : goal.returns-clause-lends
returns-clause-lends g c =
    lent_still g.J.Naming.made g.C.Clock.shows (λ m. m.pass.now) (λ m. m.pass.ghost_name) (λ m. m.clock.now) _ _ _ _ _ _ _ _ c.serve_link.ensures.served

pub returns-clause-prompt : goal.returns-clause-prompt
returns-clause-prompt g c =
    prompt_for g.J.Naming.made g.C.Clock.shows (λ m. m.pass.now) (λ m. m.pass.ghost_name) (λ m. m.clock.now) _ _ _ _ c.serve_link.ensures.prompt
