use Rattle.std.proofs.Common.{◌≢◌, rules, inl, inr, ap}
use Rattle.meta_reader.specs.declared.fault.MetaFault.TheVariants as fault
use Rattle.meta_reader.proofs.OneMetadata.{is-fault}
use Rattle.shared_server.specs.Links.{Answered, Untouched}
use Rattle.shared_server.proofs.OverLemmas.{unread}
use Rattle.shared_server.proofs.over_file.serve_over.Goals as goal

pub returns-in-Err-Memory-clause-over : goal.returns-in-Err-Memory-clause-over
returns-in-Err-Memory-clause-over g c =
    unread (Untouched g.N.Source.source_talk g.N.Source.source_faults)
    (Answered (g.C.Clock.shows c.args.setup.now.clock.now) g.N.Source.left g.N.Sink.written g.N.Source.source_talk g.N.Source.source_faults)
    (g.L.Listener.shows c.args.listener) c.args.setup.now.connections c.args.file.now (g.O.Sink.written c.args.output.now)

pub returns-in-Ok-clause-over : goal.returns-in-Ok-clause-over
returns-in-Ok-clause-over g c = inr (c.in-Ok.meta, c.in-Ok.ensures.value, c.over_metadata.ensures.over)

pub returns-in-Err-clause-over : goal.returns-in-Err-clause-over
returns-in-Err-clause-over g c =
    let other : c.in-Err.fault ≢ fault.Memory = search rules in
    inl (
      c.in-Err.fault,
      is-fault c.args.file.now c.in-Err.fault other c.in-Err.ensures.value,
      c.refuse_by.ensures.refuses,
      ap g.L.Listener.shows c.refuse_by.ensures.same,
    )
