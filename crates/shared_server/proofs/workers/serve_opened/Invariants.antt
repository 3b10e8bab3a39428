use Rattle.shared_server.proofs.workers.serve_opened.Given as goal

abbrev pub ghosts-serve_named : goal.ghosts-serve_named
ghosts-serve_named g a = record { made = a.opened }
