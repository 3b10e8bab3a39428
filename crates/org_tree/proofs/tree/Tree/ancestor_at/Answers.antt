use Rattle.std.proofs.Common.{◌<◌, ◌-◌, List, length, sym, ap, ◌∙◌, subst}
use Rattle.org_tree.specs.Held.{units_of}
use Rattle.org_tree.specs.Units.{UnitRow, climb, ancestor_of}
use Rattle.org_tree.proofs.HeldLemmas.{level_read, ancestor-low, ancestor-high}
use Rattle.org_tree.proofs.tree.Tree.ancestor_at.Goals as goal

pub returns-then-level-from : goal.returns-then-level-from
returns-then-level-from c =
    let us = units_of c.self.inside in
    let held = c.self.invariant in
    let unit = c.args.unit in
    let h : unit < length us = subst (λ (v : List UnitRow). unit < length v) (sym c.self.view_is) c.requires in
    sym (ap (λ (v : List UnitRow). ancestor_of v unit c.args.level) (sym c.self.view_is)
    ∙ ancestor-low us unit c.args.level c.index-from.result.now
    (level_read us c.self.inside.levels.items unit c.index-from.result.now held.levels_length held.levels h c.index-from.ensures) c.if-level-from.true)

pub returns : goal.returns
returns c =
    let us = units_of c.self.inside in
    let held = c.self.invariant in
    let unit = c.args.unit in
    let level = c.args.level in
    let from = c.index-from.result.now in
    let h : unit < length us = subst (λ (v : List UnitRow). unit < length v) (sym c.self.view_is) c.requires in
    c.raised.ensures ∙ ap (λ (v : List UnitRow). climb (from - level) v unit) c.deref.ensures.value
    ∙ sym (ap (λ (v : List UnitRow). ancestor_of v unit level) (sym c.self.view_is)
    ∙ ancestor-high us unit level from (level_read us c.self.inside.levels.items unit from held.levels_length held.levels h c.index-from.ensures)
    c.if-level-from.false)
