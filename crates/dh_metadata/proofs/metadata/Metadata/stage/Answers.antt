use Rattle.dh_metadata.specs.Linked.{IsLinkedStage}
use Rattle.dh_metadata.proofs.LinkLemmas.{linked_under}
use Rattle.dh_metadata.proofs.metadata.Metadata.stage.Goals as goal

pub returns-clause-linked : goal.returns-clause-linked
returns-clause-linked c =
    linked_under (λ r. r.program_stages) IsLinkedStage c.self.inside.records c.args.self.now c.as_slice.result.now c.args.n c.object_at.result.now
    c.self.view_is c.self.invariant.linked.stages c.as_slice.ensures c.object_at.ensures
