use Rattle.std.proofs.Common.{◌∙◌, sym, ap, subst, take}
use Rattle.std.specs.Arc.{arc_value}
use Rattle.engine.specs.Machine.{number_in}
use Rattle.engine.specs.Seen.{Seen, IsPartOf, seen_of}
use Rattle.engine.specs.declared.updates.Shown.{Shown}
use Rattle.engine.proofs.SlotLemmas.{handed-parts, parts-sound}
use Rattle.engine.proofs.engine.Engine.hand_in.Goals as goal

pub invariant_of-self : goal.invariant_of-self
invariant_of-self g c =
    handed-parts c.self.inside.log (arc_value c.self.inside.meta) c.self.inside.shown c.hand_in.new.shown c.args.part c.hand_in.ensures.same
    c.hand_in.ensures.kept
    (subst (λ (s : Seen). IsPartOf s.meta (take (number_in s.state.full) s.state.log) c.args.part) (sym c.self.view_is) c.requires.part) c.self.invariant

pub returns-clause-same : goal.returns-clause-same
returns-clause-same g c =
    ap (λ (s : Shown). seen_of c.self.inside.log (arc_value c.self.inside.meta) s) c.hand_in.ensures.same ∙ c.self.view_is

pub returns-clause-sound : goal.returns-clause-sound
returns-clause-sound g c = parts-sound c.self.inside.log _ c.hand_in.new.shown (invariant_of-self g c)
