use Rattle.std.proofs.Common.{◌∙◌, ap}
use Rattle.shared_engine.specs.Entries.{Entry}
use Rattle.shared_engine.specs.Views.{FirstView}
use Rattle.shared_server.specs.Links.{Answered, Untouched}
use Rattle.shared_server.proofs.ServingLemmas.{serves_by}
use Rattle.shared_server.proofs.workers.serve_named.Goals as goal

-- what is told in the end is of the callers with whom the links were served
pub returns : goal.returns
returns g c =
    let served = c.serve_links-listener.ensures in
    let first = c.lender.view_is in
    serves_by (Untouched g.N.Source.source_talk g.N.Source.source_faults)
    (Answered (g.C.Clock.shows c.args.setup.now.clock.now) g.N.Source.left g.N.Sink.written g.N.Source.source_talk g.N.Source.source_faults)
    (g.L.Listener.shows c.args.listener) (g.L.Listener.shows c.serve_links-listener.result.listener) g.J.Naming.made c.args.setup.now.connections
    c.serve_links-listener.result.links c.serve_links-listener.result.ending served.0 c.lender.inside.callers.count c.lender.inside.callers.gone
    c.lender.inside.callers.list c.close.ensures.legal c.close.ensures.none c.close.ensures.settled
    (ap (λ (d : FirstView Entry). d.count) first ∙ served.1) (ap (λ (d : FirstView Entry). d.gone) first ∙ served.2) served.3
