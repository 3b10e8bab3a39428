use Rattle.std.proofs.Common.{◌≢◌, rules, FitsSigned, to_z-of_z, w64}
use Rattle.offline_replies.specs.Bytes.{asked}
use Rattle.meta_reader.specs.declared.fault.MetaFault.TheVariants as fault
use Rattle.meta_reader.proofs.OneMetadata.{is-fault-of}
use Rattle.offline_replies.proofs.ReplyLemmas.{over_made, over_refused}
use Rattle.offline_replies.proofs.bundle.over.over_forms.Goals as goal

pub returns-in-Ok : goal.returns-in-Ok
returns-in-Ok c =
    let fits : FitsSigned w64 c.args.moment = c.ranges.moment in
    let made = rw (to_z-of_z fits) at c.over_metadata.ensures in
    over_made (asked c.args.user.now c.args.query.now c.args.moment) c.args.forms.parts c.args.forms.values c.in-Ok.meta c.over_metadata.result
    c.in-Ok.ensures.value made

pub returns : goal.returns
returns c =
    let other : c.in-Err.fault ≢ fault.Memory = search rules in
    over_refused (asked c.args.user.now c.args.query.now c.args.moment) c.args.forms.parts c.args.forms.values c.in-Err.fault c.meta_refused.result
    (is-fault-of c.args.forms.parts c.in-Err.fault other c.in-Err.ensures.value) c.meta_refused.ensures
