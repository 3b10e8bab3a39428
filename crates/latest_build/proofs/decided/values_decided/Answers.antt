use Rattle.std.proofs.Common.{◌≡◌, ◌∙◌, ap, map, subst}
use Rattle.std.specs.Prelude.{IfOk}
use Rattle.std.specs.Arc.{arc_value}
use Rattle.std.specs.List.{filter}
use Rattle.table_sums.specs.YearParts.{rows_together}
use Rattle.table_build.specs.Log.{writes_of}
use Rattle.latest_build.specs.Found.{found}
use Rattle.latest_build.specs.Touches.{approvals_named, approved_alone, has_position}
use Rattle.latest_build.proofs.decided.values_decided.Goals as goal

pub returns : goal.returns
returns c =
    let named = approvals_named (writes_of (map arc_value c.args.last.now)) in
    let among = c.deref-3.result.now in
    let world = c.in_ok-world.ensures ∙ ap approved_alone (c.deref-2.ensures.value ∙ c.in_ok-approvals.ensures) in
    let keys = c.deref-3.ensures.value ∙ c.in_ok-keys.ensures
    ∙ ap (found c.args.meta.now (rows_together c.args.base.now.parts)) (c.deref.ensures.value ∙ c.in_ok-approvals.ensures) in
    subst (λ kept. IfOk c.decided_among-decided.result (λ decided. decided.items ≡ kept))
    (ap (λ f. filter (has_position c.args.meta.now f) among) world ∙ ap (filter (has_position c.args.meta.now (approved_alone named))) keys)
    c.decided_among-decided.ensures
