use Rattle.std.proofs.Common.{◌≢◌, rules, refl}
use Rattle.meta_reader.specs.declared.fault.MetaFault.TheVariants as fault
use Rattle.meta_reader.proofs.OneMetadata.{is-fault}
use Rattle.request_replies.proofs.OverLemmas.{taken_over, refused_over, over_told, keeps_same}
use Rattle.request_replies.proofs.over_file.session_over.Goals as goal

pub returns-in-Ok-clause-over : goal.returns-in-Ok-clause-over
returns-in-Ok-clause-over g c =
    taken_over (g.C.Clock.shows c.args.clock.now) c.args.file.now c.in-Ok.meta (g.S.Source.left c.args.input.now) (g.S.Source.left c.over_metadata.new.input)
    (g.O.Sink.written c.args.output.now) (g.O.Sink.written c.over_metadata.new.output) c.over_metadata.result c.in-Ok.ensures.value c.over_metadata.ensures.over

pub returns-in-Err-clause-over : goal.returns-in-Err-clause-over
returns-in-Err-clause-over g c =
    let other : c.in-Err.fault ≢ fault.Memory = search rules in
    refused_over (g.C.Clock.shows c.args.clock.now) c.args.file.now (g.S.Source.left c.args.input.now) (g.S.Source.left c.args.input.now)
    (g.O.Sink.written c.args.output.now) (g.O.Sink.written c.refuse.new.output) c.in-Err.fault c.refuse.result
    (is-fault c.args.file.now c.in-Err.fault other c.in-Err.ensures.value) refl c.refuse.ensures.refuses

pub returns-in-Ok-clause-told : goal.returns-in-Ok-clause-told
returns-in-Ok-clause-told g c =
    λ bytes told other. over_told (g.C.Clock.shows c.args.clock.now) c.args.file.now _ _ _ _ c.over_metadata.result bytes told other
    (returns-in-Ok-clause-over g c)

pub returns-in-Err-clause-told : goal.returns-in-Err-clause-told
returns-in-Err-clause-told g c =
    λ bytes told other. over_told (g.C.Clock.shows c.args.clock.now) c.args.file.now (g.S.Source.left c.args.input.now) (g.S.Source.left c.args.input.now) _ _
    c.refuse.result bytes told other (returns-in-Err-clause-over g c)

pub returns-in-Err-Memory-clause-over : goal.returns-in-Err-Memory-clause-over
returns-in-Err-Memory-clause-over g c = (keeps_same _ _ refl, refl)

pub returns-in-Err-Memory-clause-told : goal.returns-in-Err-Memory-clause-told
returns-in-Err-Memory-clause-told g c = λ bytes told other. keeps_same _ _ refl
