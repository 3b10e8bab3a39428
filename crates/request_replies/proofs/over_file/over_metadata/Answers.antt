use Rattle.std.proofs.Common.{◌≡◌}
use Rattle.request_session.specs.declared.ended.Ended.TheVariants.{ReadFault, WriteFault}
use Rattle.request_replies.proofs.over_file.over_metadata.Goals as goal

pub returns-in-Ok-clause-read_fault : goal.returns-in-Ok-clause-read_fault
returns-in-Ok-clause-read_fault g c = λ is. let same : c.in-Ok.how ≡ ReadFault = cc in c.in-Ok.ensures.read_fault same

pub returns-in-Ok-clause-write_fault : goal.returns-in-Ok-clause-write_fault
returns-in-Ok-clause-write_fault g c = λ is. let same : c.in-Ok.how ≡ WriteFault = cc in c.in-Ok.ensures.write_fault same
