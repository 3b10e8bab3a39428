use denote.Param.Send.{sendable}
use Rattle.std.proofs.Common.{◌∙◌, ap, map, subst, sym, IfOk}
use Rattle.std.specs.Arc.{arc_value}
use Rattle.shared_engine.specs.Places.{ArePlaces}
use Rattle.shared_engine.specs.Builds.{CanBuild, IsYearOf}
use Rattle.shared_engine.proofs.ShareLemmas.{builder_sync}
use Rattle.shared_engine.proofs.builds.build_all.Goals as goal

pub build_each-requires-sync-B : goal.build_each-requires-sync-B
build_each-requires-sync-B g c κs within = search (builder_sync, sendable)

pub invariant_of-builder : goal.invariant_of-builder
invariant_of-builder g c = subst CanBuild (sym (c.in_ok-reading.ensures ∙ ap (map arc_value) c.as_slice-changes.ensures.value)) c.requires

pub returns : goal.returns
returns g c =
    subst (λ ys. IfOk c.build_each.result (λ parts. ArePlaces (IsYearOf c.args.meta.now (map arc_value c.args.cut.now.changes.items)) ys parts.items))
    c.as_slice-years.ensures
    (subst (λ cs. IfOk c.build_each.result (λ parts. ArePlaces (IsYearOf c.args.meta.now cs) c.as_slice-years.result.now parts.items))
    (c.in_ok-reading.ensures ∙ ap (map arc_value) c.as_slice-changes.ensures.value) c.build_each.ensures)
