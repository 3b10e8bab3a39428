use Rattle.std.proofs.Common.{inl}
use Rattle.shared_server.specs.Links.{Answered, Untouched}
use Rattle.shared_server.proofs.OverLemmas.{kept, listened}
use Rattle.shared_server.proofs.over_file.listen_and_serve.Goals as goal

pub returns-in-Ok-clause-over : goal.returns-in-Ok-clause-over
returns-in-Ok-clause-over g c =
    listened (Untouched g.N.Source.source_talk g.N.Source.source_faults)
    (Answered (g.C.Clock.shows c.args.setup.now.clock.now) g.N.Source.left g.N.Sink.written g.N.Source.source_talk g.N.Source.source_faults)
    (g.L.Listener.shows c.args.listener) (g.L.Listener.shows c.listen.new.self) (g.L.Listener.shows c.serve_opened-listener.result.listener)
    c.args.setup.now.connections c.args.opened.meta (g.O.Sink.written c.args.output.now) (g.O.Sink.written c.finish-end.new.output)
    c.finish-end.result c.listen.ensures.accepted c.listen.ensures.back c.listen.ensures.keeps (
      c.serve_opened-listener.result.links,
      c.serve_opened-listener.result.ending,
      record { made = c.args.opened; made_for = c.requires.made; served = c.serve_opened-listener.ensures },
      c.finish-end.ensures.finishes,
    )

pub returns-in-Err-clause-over : goal.returns-in-Err-clause-over
returns-in-Err-clause-over g c =
    (c.in-Err.ensures.failed, kept _, inl (record { accepted = c.listen.ensures.accepted; closed = c.listen.ensures.closed; back = c.listen.ensures.back }))
