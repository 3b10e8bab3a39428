use Rattle.request_session.proofs.SessionLaws.{sessions_agree}
use Rattle.request_session.proofs.laws.sessions_agree.Goals as goal

pub returns : goal.returns
returns g c = λ most bytes text text' old new old' new' how how' first second one two.
    sessions_agree g.M.Machine.step most bytes old new old' new' how how' text text' first second one two
