use Rattle.request_session.proofs.CodeLaws.{wire_refusals}
use Rattle.request_session.proofs.laws.refusals_are_of_the_wire.Goals as goal

pub returns : goal.returns
returns c = wire_refusals
