use Rattle.std.proofs.Common.{map, subst}
use Rattle.std.specs.Arc.{arc_value}
use Rattle.dh_metadata.specs.declared.held.Records.{Records}
use Rattle.std.specs.Prelude.{Result}
use Rattle.engine.specs.declared.machine.Cut.{Cut}
use Rattle.engine.specs.declared.machine.CutFault.{CutFault}
use Rattle.engine.specs.Machine.Act.{begun}
use Rattle.engine.specs.Seen.{update_in}
use Rattle.shared_engine.specs.Entries.{entries_of}
use Rattle.shared_engine.specs.Builds.{ArePartsOf}
use Rattle.shared_engine.specs.Calls.{IsCall}
use Rattle.shared_engine.proofs.Calls.{update_ended}
use Rattle.shared_engine.proofs.shared.Shared.update_by.Goals as goal

pub returns-in-Ok : goal.returns-in-Ok
returns-in-Ok g c =
    let first = c.cut-token.ensures.call in
    update_ended g.J.Naming.made c.args.token c.cut-token.result.0 c.finish-token.result.0 c.args.kind c.in-Ok.cut.ticket c.in-Ok.cut.number
    c.finish-token.result.1 c.answer_of.result first.0 c.finish-token.ensures.0 c.answer_of.ensures
    (subst (λ (r : Result Cut CutFault). IsCall g.J.Naming.made c.args.token c.cut-token.result.0
    (entries_of c.args.token.caller (begun c.args.kind (update_in r)) first.0)) c.in-Ok.is first.1)
    c.finish-token.ensures.1

pub finish-token-requires-clause-parts : goal.finish-token-requires-clause-parts
finish-token-requires-clause-parts g c =
    subst (λ (r : Records). ArePartsOf r (map arc_value c.in-Ok.cut.changes.items) c.build_parts-parts.result.items) c.meta.ensures
    c.build_parts-parts.ensures
