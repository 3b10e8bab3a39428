use Rattle.std.proofs.Common.{◌≡◌, List, [], ◌∷◌, ◌++◌, refl, sym, ap, ◌∙◌, subst}
use Rattle.std.specs.Prelude.{OnOk}
use Rattle.expr_lang.specs.declared.tree.Item.{Item}
use Rattle.expr_lang.specs.declared.tree.Leaf.TheVariants as leaf
use Rattle.expr_eval.specs.declared.code.Instr.{Instr}
use Rattle.expr_eval.specs.declared.code.Instr.TheVariants as instr
use Rattle.expr_eval.specs.Given.{index_in}
use Rattle.expr_eval.proofs.Places.{at-place}
use Rattle.std.proofs.lemmas.List.{append-nil}
use Rattle.expr_eval.specs.Code.{first_code}
use Rattle.expr_eval.proofs.compiling.+emit_first.Goals as goal

pub returns-in-Item : goal.returns-in-Item
returns-in-Item t c =
    let items : List Item = c.args.source.now.items.now in
    subst (λ (l : List Instr). OnOk c.put-in-Item.result (c.put-in-Item.new.code.items ≡ c.args.code.now.items ++ l))
    (sym (ap (first_code (index_in items)) c.in-Item.ensures.shape
    ∙ at-place (first_code (index_in items)) (λ k. instr.Prefer k ∷ []) (λ i. leaf.Item i) items c.in-Item.place c.in-Item.ensures.earlier c.requires.different
    (λ i. refl))) c.put-in-Item.ensures

pub returns-in-Day : goal.returns-in-Day
returns-in-Day t c =
    let items : List Item = c.args.source.now.items.now in
    let code : List Instr = c.args.code.now.items in
    sym (append-nil code)
    ∙ ap (λ (l : List Instr). code ++ l) (sym (ap (first_code (index_in items)) c.in-Day.ensures.shape
    ∙ at-place (first_code (index_in items)) (λ k. []) (λ i. leaf.Day i) items c.in-Day.field-0 c.in-Day.ensures.earlier c.requires.different (λ i. refl)))
