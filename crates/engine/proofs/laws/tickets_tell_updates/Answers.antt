use Rattle.engine.proofs.HistoryLaws.{staged-is-begun, kind-is, number-is}
use Rattle.engine.proofs.laws.tickets_tell_updates.Goals as goal

pub returns-clause-begun : goal.returns-clause-begun
returns-clause-begun c = staged-is-begun

pub returns-clause-kind : goal.returns-clause-kind
returns-clause-kind c = kind-is

pub returns-clause-number : goal.returns-clause-number
returns-clause-number c = number-is
