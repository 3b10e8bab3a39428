use Rattle.dh_metadata.specs.Linked.{IsLinkedProgramIndicator}
use Rattle.dh_metadata.proofs.LinkLemmas.{linked_under}
use Rattle.dh_metadata.proofs.metadata.Metadata.program_indicator.Goals as goal

pub returns-clause-linked : goal.returns-clause-linked
returns-clause-linked c =
    linked_under (λ r. r.program_indicators) IsLinkedProgramIndicator c.self.inside.records c.args.self.now c.as_slice.result.now c.args.n
    c.object_at.result.now
    c.self.view_is c.self.invariant.linked.program_indicators c.as_slice.ensures c.object_at.ensures
