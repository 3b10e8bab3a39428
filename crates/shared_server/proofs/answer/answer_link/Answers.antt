use Rattle.std.proofs.Common.{rules}
use Rattle.shared_server.proofs.answer.answer_link.Goals as goal

pub returns : goal.returns
returns g c = search rules
