use Rattle.std.proofs.Common.{◌≡◌, ◌∙◌, None, ap, get_or, map, ◌∷◌, []}
use Rattle.cell_values.specs.Plans.{planned_value}
use Rattle.cell_values.specs.Seen.{seen_of, contents_of}
use Rattle.validation.specs.Check.{given_at}
use Rattle.validation.proofs.SideLemmas.{values-given}
use Rattle.validation.proofs.sides.value_of.Goals as goal

pub returns : goal.returns
returns g c =
    let r = c.args.source.now.meta.now in
    let shown = seen_of r c.args.source.now.seer.now.user
    (contents_of (g.S.RowStore.rows c.args.source.now.store.now) (g.S.RowStore.events c.args.source.now.store.now)
    (g.S.RowStore.regs c.args.source.now.store.now)) in
    let spot = c.args.spot.now in
    let given : c.in_ok-values.values.items ≡ map (given_at r shown spot.place) (c.args.item.now ∷ []) =
    values-given r shown spot.place (c.args.item.now ∷ []) c.in_ok-plans.plans spot.periods spot.units.units spot.units.alone
    c.in_ok-values.values.items
    (c.in_ok-values.ensures ∙ ap (map (planned_value r shown spot.periods spot.units.units spot.units.alone)) c.as_slice-2.ensures)
    c.requires.periods c.requires.units c.requires.alone c.in_ok-plans.ensures.items in
    c.first_of.ensures ∙ ap (λ vs. get_or vs 0 None) (c.deref.ensures.value ∙ given)
