use Rattle.std.proofs.Common.{◌∙◌, subst, sym, ap, length, ◌≤◌}
use Rattle.std.specs.Prelude.{max}
use Rattle.std.specs.Arc.{arc_value}
use Rattle.std.proofs.lemmas.List.{length-map}
use Rattle.change_log.specs.Log.{writes_of}
use Rattle.engine.specs.Machine.{number_of}
use Rattle.engine.specs.Seen.{state_of}
use Rattle.engine.proofs.Orders.{swap_is_there, swap_rises}
use Rattle.engine.proofs.Steps.{whole-few}
use Rattle.engine.proofs.SlotLemmas.{swap-parts, parts-sound}
use Rattle.engine.proofs.engine.Engine.swap.Goals as goal

pub swap-requires-clause-few : goal.swap-requires-clause-few
swap-requires-clause-few g c = subst (λ x. length (writes_of x) ≤ 4194304) (sym c.changes.ensures) (whole-few c.self.inside.log c.self.invariant.whole)

pub swap-requires-clause-there : goal.swap-requires-clause-there
swap-requires-clause-there g c =
    let state = state_of c.self.inside.log.changes c.self.inside.shown in
    subst (λ n. max state.published (number_of state c.args.ticket) ≤ n)
    (sym (ap length c.changes.ensures) ∙ length-map c.changes.result.now arc_value)
    (swap_is_there c.self.inside.log.limits state c.args.ticket c.self.invariant.order)

pub invariant_of-self : goal.invariant_of-self
invariant_of-self g c =
    swap-parts c.self.inside.log _ _ c.self.inside.shown c.swap.new.shown _ c.args.ticket _ c.changes.ensures c.deref.ensures c.swap.ensures.step
    c.swap.ensures.shows c.self.invariant

pub returns-clause-rises : goal.returns-clause-rises
returns-clause-rises g c = rw (← c.self.view_is) (swap_rises _ _ c.args.ticket _ c.swap.ensures.step)

pub returns-clause-sound : goal.returns-clause-sound
returns-clause-sound g c = parts-sound c.self.inside.log _ c.swap.new.shown (invariant_of-self g c)
