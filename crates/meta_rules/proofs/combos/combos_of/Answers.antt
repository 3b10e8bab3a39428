use Rattle.meta_rules.proofs.combos.combos_of.Goals as goal

pub returns : goal.returns
returns c = rw c.in_ok-rows.ensures at (rw c.in_ok-lists.ensures at (rw c.deref-2.ensures.value at (rw c.deref.ensures.value at c.built.ensures)))
