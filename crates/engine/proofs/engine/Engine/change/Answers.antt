use Rattle.std.proofs.Common.{subst, ℤ, w64}
use Rattle.std.proofs.lemmas.Int.{to_z-of_z}
use Rattle.std.specs.Arc.{arc_value}
use Rattle.dh_metadata.specs.declared.held.Records.{Records}
use Rattle.engine.specs.Seen.{Brings}
use Rattle.engine.proofs.Steps.{brings-step, brings-brought, brings-parts}
use Rattle.engine.proofs.SlotLemmas.{parts-sound}
use Rattle.engine.proofs.engine.Engine.change.Given as given
use Rattle.engine.proofs.engine.Engine.change.Goals as goal

-- what is brought to the log, in the words of the engine
brings : (g : given.Over) (c : goal.After-bring g) → Brings (arc_value c.self.inside.meta) c.self.inside.log
    (record { who = c.args.who; moment = c.args.moment; request = c.args.request.now }) c.bring.result c.bring.new.log
brings g c =
    subst (λ (meta : Records). Brings meta c.self.inside.log (record { who = c.args.who; moment = c.args.moment; request = c.args.request.now })
    c.bring.result c.bring.new.log) c.deref.ensures
    (subst (λ (m : ℤ). Brings c.deref.result.now c.self.inside.log (record { who = c.args.who; moment = m; request = c.args.request.now }) c.bring.result
    c.bring.new.log) (to_z-of_z w64 c.args.moment c.ranges.moment) c.bring.ensures.brings)

pub invariant_of-self : goal.invariant_of-self
invariant_of-self g c = brings-parts _ _ _ _ _ _ c.self.invariant c.bring.ensures.whole (brings g c)

pub returns-clause-step : goal.returns-clause-step
returns-clause-step g c = rw (← c.self.view_is) (brings-step _ c.self.inside.shown _ _ _ _ (brings g c))

pub returns-clause-brought : goal.returns-clause-brought
returns-clause-brought g c = rw (← c.self.view_is) (brings-brought _ c.self.inside.shown _ _ _ _ (brings g c))

pub returns-clause-sound : goal.returns-clause-sound
returns-clause-sound g c = parts-sound c.bring.new.log _ c.self.inside.shown (invariant_of-self g c)

pub returns-clause-sure : goal.returns-clause-sure
returns-clause-sure g c = rw (← c.self.view_is) c.bring.ensures.sure
