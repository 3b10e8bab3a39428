use Rattle.std.proofs.Common.{ℕ, true, List, ◌++◌, sym, ap, ◌∙◌}
use Rattle.expr_lang.specs.declared.tree.Item.{Item}
use Rattle.expr_eval.specs.Meaning.{can_miss}
use Rattle.expr_eval.proofs.Places.{plain-at}
use Rattle.expr_eval.proofs.compiling.list_item.Goals as goal

pub returns : goal.returns
returns c =
    let items : List Item = c.args.source.now.items.now in
    c.in_ok-push.ensures.items
    ∙ ap (λ (l : List ℕ). c.args.plain.now.items ++ l) (sym (plain-at items c.args.place c.index-source-place.result true c.requires.within
    c.requires.different c.index-source-place.is (sym c.if-not-misses.false ∙ c.misses.ensures ∙ ap can_miss (sym c.index-source-place.is))))
