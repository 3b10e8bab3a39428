use Rattle.std.proofs.Common.{◌∙◌, ap}
use Rattle.engine.specs.Machine.{after_drop}
use Rattle.engine.specs.Seen.{Seen, part_without}
use Rattle.engine.proofs.SlotLemmas.{drop-parts, parts-sound}
use Rattle.engine.proofs.engine.Engine.drop_update.Goals as goal

pub invariant_of-self : goal.invariant_of-self
invariant_of-self g c =
    drop-parts c.self.inside.log _ c.self.inside.shown c.drop_staged.new.shown c.args.ticket (c.drop_staged.ensures.state c.self.inside.log.changes)
    (c.drop_staged.ensures.shows _ _ c.self.invariant.shows) c.self.invariant

pub returns-clause-step : goal.returns-clause-step
returns-clause-step g c =
    (c.requires, c.drop_staged.ensures.state c.self.inside.log.changes ∙ ap (λ (s : Seen). after_drop s.state c.args.ticket) c.self.view_is)

pub returns-clause-sound : goal.returns-clause-sound
returns-clause-sound g c = parts-sound c.self.inside.log _ c.drop_staged.new.shown (invariant_of-self g c)

pub returns-clause-part : goal.returns-clause-part
returns-clause-part g c =
    c.drop_staged.ensures.part c.self.inside.log.changes ∙ ap (λ (s : Seen). part_without s.state c.args.ticket s.part) c.self.view_is
