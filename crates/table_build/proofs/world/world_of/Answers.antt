use Rattle.std.proofs.Common.{◌∙◌, ap, take, map}
use Rattle.std.specs.Arc.{arc_value}
use Rattle.std.proofs.lemmas.List.{take_all}
use Rattle.dh_changes.specs.Facts.{facts_in}
use Rattle.table_build.specs.Log.{writes_of}
use Rattle.table_build.proofs.NamedLemmas.{taken-step}
use Rattle.table_build.proofs.world.world_of.Goals as goal

pub loop-change-preserved : goal.loop-change-preserved
loop-change-preserved c =
    c.apply.ensures.log (writes_of (map arc_value (take c.loop-change.change-index c.args.changes.now))) (c.in_ok-reserve.ensures.same ∙ c.loop-change.invariant)
    ∙ ap facts_in (taken-step arc_value c.args.changes.now c.loop-change.change-index c.change-item.result c.deref-change.result.now c.loop-change-test.true
    c.change-item.is c.deref-change.ensures)

pub returns : goal.returns
returns c =
    c.loop-change.invariant
    ∙ ap (λ changes. facts_in (writes_of (map arc_value changes))) (take_all c.loop-change.change-index c.args.changes.now c.loop-change-test.false)
