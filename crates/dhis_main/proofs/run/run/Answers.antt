use Rattle.std.proofs.Common.{◌∙◌, map, refl, sym}
use Rattle.shared_server.specs.Links.{Answered, Untouched}
use Rattle.dhis_main.specs.Shown.{shown, side, folder}
use Rattle.dhis_main.proofs.RunLemmas.{word_at-listed}
use Rattle.dhis_main.proofs.ServeLemmas.{by_serving}
use Rattle.dhis_main.proofs.run.run.Goals as goal

pub returns-in-Some-clause-runs : goal.returns-in-Some-clause-runs
returns-in-Some-clause-runs g c =
    by_serving (Untouched g.N.Source.source_talk g.N.Source.source_faults)
    (Answered (g.C.Clock.shows c.args.clock.now) g.N.Source.left g.N.Sink.written g.N.Source.source_talk g.N.Source.source_faults)
    _ (c.in-Some.workers, c.in-Some.connections) c.from.result (map (λ word. word.now) c.args.words.now) _ (g.C.Clock.shows c.args.clock.now)
    (shown
    (side (g.S.Source.left c.args.input.now) (g.S.Source.left c.args.input.now) (g.S.Source.source_faults c.args.input.now)
    (g.S.Source.source_faults c.args.input.now))
    (side (g.O.Sink.written c.args.output.now) (g.O.Sink.written c.serve_file.new.output) (g.O.Sink.sink_faults c.args.output.now)
    (g.O.Sink.sink_faults c.serve_file.new.output))
    (folder (g.F.FileSet.file c.args.files.now) (g.F.FileSet.file_faults c.args.files.now) (g.F.FileSet.file_faults c.serve_file.new.files)))
    (g.L.Listener.shows c.args.network.listener) (g.L.Listener.shows c.serve_file.result.listener) c.serve_file.result.status
    (sym c.serving.ensures.value ∙ c.in-Some.is) c.from.ensures (word_at-listed c.args.words.now 1 _ refl) refl c.serve_file.ensures
