use Rattle.std.proofs.Common.{subst, sym, length, ◌≤◌}
use Rattle.change_log.specs.Log.{writes_of}
use Rattle.engine.proofs.Steps.{whole-few}
use Rattle.engine.proofs.SlotLemmas.{cut-parts, parts-sound}
use Rattle.engine.proofs.engine.Engine.cut.Goals as goal

pub cut-requires-clause-few : goal.cut-requires-clause-few
cut-requires-clause-few g c = subst (λ x. length (writes_of x) ≤ 4194304) (sym c.changes.ensures) (whole-few c.self.inside.log c.self.invariant.whole)

pub invariant_of-self : goal.invariant_of-self
invariant_of-self g c =
    cut-parts c.self.inside.log _ _ c.self.inside.shown c.cut.new.shown _ _ _ _ c.limits-limits.ensures c.changes.ensures c.deref.ensures c.cut.ensures.step
    c.cut.ensures.shows c.self.invariant

pub returns-clause-sound : goal.returns-clause-sound
returns-clause-sound g c = parts-sound c.self.inside.log _ c.cut.new.shown (invariant_of-self g c)
