use Rattle.std.proofs.Common.{◌∙◌, ◌++◌, ◌∷◌, [], take, sym, ap}
use Rattle.std.proofs.lemmas.List.{take_all, take_more}
use Rattle.meta_links.proofs.copies.copies_of.Goals as goal

pub loop-text-preserved : goal.loop-text-preserved
loop-text-preserved c =
    let done = take c.loop-text.text-index c.args.texts.now in
    c.in_ok-push.ensures.items ∙ ap (λ all. all ++ c.in_ok-copy_of.field-0 ∷ []) c.loop-text.invariant
    ∙ ap (λ text. done ++ text ∷ []) (c.in_ok-copy_of.ensures ∙ c.text-item.is)
    ∙ sym (take_more c.args.texts.now c.loop-text.text-index c.text-item.result c.loop-text-test.true)

pub returns : goal.returns
returns c = c.from.ensures ∙ c.loop-text.invariant ∙ take_all c.loop-text.text-index c.args.texts.now c.loop-text-test.false
