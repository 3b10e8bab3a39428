use Rattle.std.proofs.Common.{subst}
use Rattle.shared_server.specs.Links.{Answered, Untouched}
use Rattle.shared_server.specs.OverFile.{ServesMeta}
use Rattle.shared_server.proofs.over_file.over_metadata.Goals as goal

pub returns-in-Ok-clause-over : goal.returns-in-Ok-clause-over
returns-in-Ok-clause-over g c =
    subst
    (λ meta. ServesMeta (Untouched g.N.Source.source_talk g.N.Source.source_faults)
    (Answered (g.C.Clock.shows c.args.setup.now.clock.now) g.N.Source.left g.N.Sink.written g.N.Source.source_talk g.N.Source.source_faults)
    (g.L.Listener.shows c.args.listener) (g.L.Listener.shows c.listen_and_serve.result.listener) c.args.setup.now.connections meta
    (g.O.Sink.written c.args.output.now) (g.O.Sink.written c.listen_and_serve.new.output) c.listen_and_serve.result.end)
    c.in-Ok.ensures.meta_is c.listen_and_serve.ensures.over
