use denote.Param.{param}
use mir.Syntax.{named}
use Rattle.std.proofs.Common.{[]}
use Rattle.shared_server.specs.Links.{Answered, Answers, Untouched}
use Rattle.shared_server.proofs.ServingLemmas.{served_so}
use Rattle.shared_server.proofs.ShareLemmas.{captures_sync}
use Rattle.shared_server.proofs.workers.serve_links.Goals as goal

-- (by its captures, since the rows of this call's parameters are too much for one search)
pub serve_all-requires-sync-F : goal.serve_all-requires-sync-F
serve_all-requires-sync-F g c κs within =
    let bounds = c.type_bounds in
    record {
      shared = (captures_sync [] (record { mir = named 8; lft = κs.1.1.1.1.1.1.1.1.0 }) (record { mir = named 9; lft = κs.1.1.1.1.1.1.1.1.1.0 })
          (record { mir = named 10; lft = κs.1.1.1.1.1.1.1.1.1.1.0 }) (param 0 g.row.J) (param 1 g.row.K) (param 2 g.row.R) (param 3 g.row.C)
          (param 4 g.row.G) g.J.Naming g.K.Keeper bounds.send-K bounds.sync-R bounds.sync-C bounds.sync-G).shared;
    }

-- what was handed out for a link began as its lender says, which is no part of how the link is answered
pub returns : goal.returns
returns g c =
    let served = c.serve_all.ensures in (
      served.0,
      served.1.0,
      served.1.1,
      served_so _
          (Answers (Untouched g.N.Source.source_talk g.N.Source.source_faults)
          (Answered (g.C.Clock.shows c.args.setup.now.clock.now) g.N.Source.left g.N.Sink.written g.N.Source.source_talk g.N.Source.source_faults
          g.J.Naming.made)) (g.L.Listener.shows c.args.listener) (g.L.Listener.shows c.serve_all.result.listener) c.args.setup.now.connections
          c.serve_all.result.links c.serve_all.result.ending served.0 (λ link left s. (s.0, s.2, s.4)) served.2,
    )
