use Rattle.net_doors.proofs.workers.serve_all.Given as goal

abbrev pub ghosts-serve_as-J-Opening : goal.ghosts-serve_as-J-Opening
ghosts-serve_as-J-Opening g a = record {
  began = g.L.Listener.shows a.listener;
  serves = λ came given served. g.F.Fn.post a.serve.now (came, (given, tt)) served;
  most = a.connections;
}

abbrev pub ghosts-serve_as-J-Ledger : goal.ghosts-serve_as-J-Ledger
ghosts-serve_as-J-Ledger g a = record { name = a.blank.name; parts = a.blank.parts }
