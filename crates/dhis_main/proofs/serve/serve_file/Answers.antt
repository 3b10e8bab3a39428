use Rattle.std.proofs.Common.{◌≡◌, Err, IfSome, ap, subst, sym}
use Rattle.dh_outside.specs.declared.files.FileFault.TheVariants as fault
use Rattle.request_replies.proofs.OverLemmas.{long_fault}
use Rattle.shared_server.specs.Links.{Answered, Untouched}
use Rattle.dhis_main.specs.Shown.{side, folder}
use Rattle.dhis_main.proofs.HeldLemmas.{long_file}
use Rattle.dhis_main.proofs.ServeLemmas.{served, refused_by}
use Rattle.dhis_main.proofs.serve.serve_file.Goals as goal

pub returns-in-Ok : goal.returns-in-Ok
returns-in-Ok g c =
    let lent : c.deref.result.now ≡ c.in-Ok.file.items = c.deref.ensures.value in
    served (Untouched g.N.Source.source_talk g.N.Source.source_faults)
    (Answered (g.C.Clock.shows c.args.setup.now.clock.now) g.N.Source.left g.N.Sink.written g.N.Source.source_talk g.N.Source.source_faults)
    c.args.setup.now.connections c.args.name.now
    (folder (g.F.FileSet.file c.args.files.now) (g.F.FileSet.file_faults c.args.files.now) (g.F.FileSet.file_faults c.read_file.new.self))
    (side (g.O.Sink.written c.args.output.now) (g.O.Sink.written c.serve_over-listener.new.output) (g.O.Sink.sink_faults c.args.output.now)
    (g.O.Sink.sink_faults c.serve_over-listener.new.output))
    (g.L.Listener.shows c.args.listener) (g.L.Listener.shows c.serve_over-listener.result.listener)
    c.deref.result.now c.serve_over-listener.result.end c.status_by.result c.status_by.ensures
    (subst (λ bytes. IfSome (g.F.FileSet.file c.args.files.now c.args.name.now) (λ all. bytes ≡ all)) (sym lent) c.in-Ok.ensures.bytes)
    c.serve_over-listener.ensures.unwritten c.serve_over-listener.ensures.over

pub returns-in-Err-TooLong : goal.returns-in-Err-TooLong
returns-in-Err-TooLong g c =
    let too_long_is : Err c.in-Err-TooLong.field-0 ≡ Err fault.TooLong = ap Err c.in-Err-TooLong.field-0-is in
    let long = long_file 67108864 (g.F.FileSet.file c.args.files.now c.args.name.now) (c.in-Err-TooLong.ensures.too_long too_long_is) in
    refused_by (Untouched g.N.Source.source_talk g.N.Source.source_faults)
    (Answered (g.C.Clock.shows c.args.setup.now.clock.now) g.N.Source.left g.N.Sink.written g.N.Source.source_talk g.N.Source.source_faults)
    c.args.setup.now.connections c.args.name.now
    (folder (g.F.FileSet.file c.args.files.now) (g.F.FileSet.file_faults c.args.files.now) (g.F.FileSet.file_faults c.read_file.new.self))
    (side (g.O.Sink.written c.args.output.now) (g.O.Sink.written c.refuse_long.new.output) (g.O.Sink.sink_faults c.args.output.now)
    (g.O.Sink.sink_faults c.refuse_long.new.output))
    (g.L.Listener.shows c.args.listener) long.0 _ c.refuse_long.result _ c.status_by-in-Err-TooLong.ensures long.1 (long_fault long.0 long.2)
    c.refuse_long.ensures.unwritten c.refuse_long.ensures.refuses
