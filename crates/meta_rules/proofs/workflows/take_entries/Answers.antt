use Rattle.std.proofs.Common.{refl, subst}
use Rattle.std.proofs.lemmas.List.{take_all}
use Rattle.meta_rules.specs.Seen.{TakesEntries}
use Rattle.meta_rules.proofs.workflows.take_entries.Goals as goal

pub loop-element-init : goal.loop-element-init
loop-element-init c = record { same_length = refl; each = λ e below. refl }

pub returns : goal.returns
returns c =
    subst (λ xs. TakesEntries c.args.seen.now.items c.loop-element.seen.items xs c.args.workflow)
    (take_all c.loop-element.element-index c.args.elements.now c.loop-element-test.false) c.loop-element.invariant
