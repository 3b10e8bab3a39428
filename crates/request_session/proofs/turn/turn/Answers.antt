use Rattle.std.proofs.Common.{◌≡◌, ℕ, subst}
use Rattle.request_session.proofs.TurnLemmas.{turns_some, turns_err}
use Rattle.request_session.proofs.turn.turn.Goals as goal

pub returns-in-Some-clause-turns : goal.returns-in-Some-clause-turns
returns-in-Some-clause-turns g c =
    turns_some g.M.Machine.step c.args.more c.in-Some.is c.in-Ok.ensures.reads c.next.ensures.written c.respond.ensures.left c.respond.ensures.responds
    c.respond.ensures.speaks

pub returns-in-Some-clause-lends : goal.returns-in-Some-clause-lends
returns-in-Some-clause-lends g c = subst (λ (l : ℕ × ℕ). g.P.Peer.lends c.respond.new.peer ≡ l) c.next.ensures.lends c.respond.ensures.lends

pub returns-in-Err-clause-turns : goal.returns-in-Err-clause-turns
returns-in-Err-clause-turns g c =
    turns_err g.M.Machine.step c.args.more c.in-Err.ensures.reads c.next.ensures.written c.stop.ensures.left c.stop.ensures.stops c.stop.ensures.speaks

pub returns-in-Err-clause-lends : goal.returns-in-Err-clause-lends
returns-in-Err-clause-lends g c = subst (λ (l : ℕ × ℕ). g.P.Peer.lends c.stop.new.peer ≡ l) c.next.ensures.lends c.stop.ensures.lends
