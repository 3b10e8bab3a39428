use Rattle.std.proofs.Common.{◌∙◌, ◌++◌, ◌∷◌, [], ap, sym, append_assoc}
use Rattle.meta_rules.proofs.waiting.waiting.Goals as goal

pub loop-item-preserved : goal.loop-item-preserved
loop-item-preserved g c =
    let before = c.loop-item.stack in
    c.loop-item.invariant ∙ ap (λ xs. xs ++ before) c.in-Some.ensures.items ∙ append_assoc c.pop.new.self.items (c.in-Some.item ∷ []) before
    ∙ ap (λ xs. c.pop.new.self.items ++ xs) (sym c.in_ok-push.ensures)
