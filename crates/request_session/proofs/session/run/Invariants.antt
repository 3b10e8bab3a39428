use Rattle.std.proofs.Common.{◌≡◌, ◌≤◌, ◌<◌, ◌-◌}
use Rattle.request_session.specs.SoFar.{SoFar}
use Rattle.request_session.proofs.session.run.Given as goal

abbrev pub invariant-loop-keep : goal.invariant-loop-keep
invariant-loop-keep g l =
    SoFar g.M.Machine.step l.fn.most (g.P.Peer.left l.fn.peer) (g.P.Peer.left l.peer) (g.P.Peer.talk l.fn.peer) (g.P.Peer.talk l.peer)
    (g.P.Peer.written l.fn.peer) (g.P.Peer.written l.peer) l.rest l.fn.machine l.machine l.served
    × (l.served < l.most) × (l.most ≡ l.fn.most) × (g.P.Peer.read_faults l.fn.peer ≤ g.P.Peer.read_faults l.peer)
    × (g.P.Peer.write_faults l.fn.peer ≤ g.P.Peer.write_faults l.peer) × (g.P.Peer.lends l.peer ≡ g.P.Peer.lends l.fn.peer)

abbrev pub decreases-loop-keep : goal.decreases-loop-keep
decreases-loop-keep g l = l.most - l.served
