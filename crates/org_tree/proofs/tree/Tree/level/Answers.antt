use Rattle.std.proofs.Common.{◌<◌, List, length, sym, ap, ◌∙◌, subst}
use Rattle.org_tree.specs.Held.{units_of}
use Rattle.org_tree.specs.Units.{UnitRow, IsTree, level_of}
use Rattle.org_tree.proofs.HeldLemmas.{level_read}
use Rattle.org_tree.proofs.LawLemmas.{level_rule}
use Rattle.org_tree.proofs.tree.Tree.level.Goals as goal

pub returns-clause-rule : goal.returns-clause-rule
returns-clause-rule c =
    let us = units_of c.self.inside in
    let held = c.self.invariant in
    let h : c.args.unit < length us = subst (λ (v : List UnitRow). c.args.unit < length v) (sym c.self.view_is) c.requires in
    level_read us c.self.inside.levels.items c.args.unit c.index.result.now held.levels_length held.levels h c.index.ensures
    ∙ ap (λ (v : List UnitRow). level_of v c.args.unit) c.self.view_is
    ∙ level_rule c.args.self.now (subst (λ (v : List UnitRow). IsTree v) c.self.view_is held.is_tree) c.args.unit c.requires
