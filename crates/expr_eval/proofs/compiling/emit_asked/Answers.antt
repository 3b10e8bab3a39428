use Rattle.std.proofs.Common.{◌≡◌, List, [], ◌∷◌, ◌++◌, refl, sym, ap, ◌∙◌, subst}
use Rattle.std.specs.Prelude.{OnOk}
use Rattle.expr_lang.specs.declared.tree.Item.{Item}
use Rattle.expr_lang.specs.declared.tree.Leaf.TheVariants as leaf
use Rattle.expr_eval.specs.declared.code.Instr.{Instr}
use Rattle.expr_eval.specs.Given.{index_in}
use Rattle.expr_eval.proofs.Places.{at-place}
use Rattle.expr_eval.specs.Code.{asked_code, asked_instr}
use Rattle.expr_eval.proofs.compiling.emit_asked.Goals as goal

pub returns-in-Item : goal.returns-in-Item
returns-in-Item c =
    let items : List Item = c.args.source.now.items.now in
    subst (λ (l : List Instr). OnOk c.put_asked.result (c.put_asked.new.code.items ≡ c.args.code.now.items ++ l))
    (sym (ap (asked_code (index_in items) c.args.wanted) c.in-Item.ensures.shape
    ∙ at-place (asked_code (index_in items) c.args.wanted) (λ k. asked_instr c.args.wanted k ∷ []) (λ i. leaf.Item i) items c.in-Item.place
    c.in-Item.ensures.earlier c.requires.different (λ i. refl))) c.put_asked.ensures

pub returns-in-Day : goal.returns-in-Day
returns-in-Day c =
    let items : List Item = c.args.source.now.items.now in
    subst (λ (l : List Instr). OnOk c.put_asked-in-Day.result (c.put_asked-in-Day.new.code.items ≡ c.args.code.now.items ++ l))
    (sym (ap (asked_code (index_in items) c.args.wanted) c.in-Day.ensures.shape
    ∙ at-place (asked_code (index_in items) c.args.wanted) (λ k. asked_instr c.args.wanted k ∷ []) (λ i. leaf.Day i) items c.in-Day.place
    c.in-Day.ensures.earlier c.requires.different (λ i. refl))) c.put_asked-in-Day.ensures
