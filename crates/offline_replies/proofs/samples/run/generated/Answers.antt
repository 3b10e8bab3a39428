use Rattle.std.proofs.Common.{◌≢◌, rules, ◌∙◌, FitsSigned, to_z-of_z, w64}
use Rattle.meta_reader.specs.declared.fault.MetaFault.TheVariants as fault
use Rattle.meta_reader.proofs.OneMetadata.{is-fault}
use Rattle.offline_replies.proofs.GeneratedLemmas.{made, over_fault}
use Rattle.offline_replies.proofs.samples.run.generated.Goals as goal

pub returns-in-Ok : goal.returns-in-Ok
returns-in-Ok c =
    let fits : FitsSigned w64 c.args.moment = c.ranges.moment in
    made c.report_over.result c.args.count c.args.moment c.deref.result.now c.in-Ok.meta (c.deref.ensures.value ∙ c.in_ok-file.ensures) c.in-Ok.ensures.value
    (rw (to_z-of_z fits) at c.report_over.ensures)

pub returns : goal.returns
returns c =
    let other : c.in-Err.fault ≢ fault.Memory = search rules in
    over_fault c.fault_line.result c.args.count c.args.moment c.deref.result.now c.in-Err.fault (c.deref.ensures.value ∙ c.in_ok-file.ensures)
    (is-fault c.deref.result.now c.in-Err.fault other c.in-Err.ensures.value)
