use Rattle.std.proofs.Common.{◌∙◌, map, sym, ap, subst, length}
use Rattle.std.specs.Arc.{arc_value}
use Rattle.org_tree.specs.Units.{IsTree}
use Rattle.dh_changes.specs.World.{facts}
use Rattle.table_build.specs.Left.{years_named}
use Rattle.table_build.specs.Log.{writes_of}
use Rattle.table_build.specs.Slots.{no_part}
use Rattle.table_build.proofs.LeftLemmas.{years-left}
use Rattle.table_build.proofs.KeyLemmas.{StandsTree}
use Rattle.table_build.proofs.SlotLemmas.{first-slots, left-own}
use Rattle.table_build.proofs.slots.plan_of.Goals as goal

pub returns-clause-years : goal.returns-clause-years
returns-clause-years c =
    let writes = writes_of (map arc_value c.args.changes.now) in
    c.from-years.ensures ∙ c.in_ok-years.ensures ∙ ap (λ f. years_named c.args.meta.now f writes) c.requires ∙ years-left c.args.meta.now writes

pub returns-clause-slots : goal.returns-clause-slots
returns-clause-slots c =
    let writes = writes_of (map arc_value c.args.changes.now) in
    let stands : StandsTree c.args.meta.now (facts c.args.world.now) = record {
      is_tree = subst IsTree c.tree_of.ensures.value c.count-units.ensures.tree;
      numbers = ap length (sym c.tree_of.ensures.value) ∙ c.tree_of.ensures.numbers;
    } in
    first-slots _ c.in_ok-years.years.items c.in_ok-slots.slots.items (c.in_ok-slots.ensures
    ∙ ap (map no_part) c.deref.ensures.value)
    (c.in_ok-years.ensures ∙ ap (λ f. years_named c.args.meta.now f writes) c.requires ∙ years-left c.args.meta.now writes)
    (left-own c.args.meta.now writes (subst (StandsTree c.args.meta.now) c.requires stands))
