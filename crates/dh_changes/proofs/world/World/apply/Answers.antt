use Rattle.std.proofs.Common.{◌∙◌, ap, subst, map}
use Rattle.dh_changes.specs.Said.{said_by}
use Rattle.dh_changes.specs.Holds.{contents, IsAfter}
use Rattle.dh_changes.proofs.FactsLemmas.{facts-from_after}
use Rattle.dh_changes.proofs.world.World.apply.Goals as goal

pub returns-clause-after : goal.returns-clause-after
returns-clause-after c =
    let said = ap (λ w. w.reserved) c.self.view_is ∙ c.requires in
    let new = contents c.take_in_all.new.index in
    subst (λ h. IsAfter h (map said_by c.args.change.now.writes) new) (ap (λ w. w.held) c.self.view_is)
    (subst (λ xs. IsAfter (contents c.self.inside.index) xs new) said c.take_in_all.ensures.after)

pub returns-clause-log : goal.returns-clause-log
unfolding Rattle.dh_changes.specs.World.facts
returns-clause-log c = λ log was.
    facts-from_after c.args.self.now.held (contents c.take_in_all.new.index) log c.args.change.now.writes (returns-clause-after c) was
