use Rattle.std.proofs.Common.{rules}
use Rattle.net_doors.proofs.sockets.TcpDoorListenerTcpEnd.accept.Goals as goal

pub returns-in-Err-clause-failed : goal.returns-in-Err-clause-failed
returns-in-Err-clause-failed g c = search rules
