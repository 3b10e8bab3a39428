use Rattle.std.proofs.Common.{◌≡◌, ◌∙◌, ◌-◌, ℕ, suc, Option, ap, sym, arith}
use Rattle.std.specs.Option.{option_or}
use Rattle.dh_changes.specs.World.{facts}
use Rattle.dh_approvals.specs.Units.{nearest_above}
use Rattle.dh_approvals.proofs.units.nearest_above.Goals as goal

pub loop-left-preserved : goal.loop-left-preserved
loop-left-preserved c =
    let asking = c.args.asking.now in
    let seek : ℕ → Option ℕ = nearest_above (facts asking.world.now) asking.meta.now asking.scope c.args.levels.now c.args.unit in
    let left = c.loop-left.left in
    let is : left ≡ suc (left - 1) = omega (arith, c.loop-left-test.true) in
    c.loop-left.invariant ∙ ap seek is ∙ ap (λ found. option_or found (seek (left - 1))) (sym c.approved_at.ensures.value ∙ c.in_default.is)

pub returns-clause-value : goal.returns-clause-value
returns-clause-value c =
    let asking = c.args.asking.now in
    let seek : ℕ → Option ℕ = nearest_above (facts asking.world.now) asking.meta.now asking.scope c.args.levels.now c.args.unit in
    let is : c.loop-left.left ≡ 0 = omega (arith, c.loop-left-test.false) in
    sym (c.loop-left.invariant ∙ ap seek is)
