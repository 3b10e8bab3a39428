use Rattle.std.proofs.Common.{ℕ, List, ◌++◌, ◌-◌, length, map, ap, ◌∙◌}
use Rattle.expr_lang.specs.declared.tree.Item.{Item}
use Rattle.expr_lang.specs.declared.tree.Branch.{Branch}
use Rattle.expr_lang.specs.Branches.{shape_in}
use Rattle.expr_lang.specs.Expr.{items_in}
use Rattle.expr_lang.specs.Shape.{Shape}
use Rattle.expr_eval.specs.declared.code.Instr.{Instr}
use Rattle.expr_eval.specs.Applied.{plain_items}
use Rattle.expr_eval.specs.Given.{index_in}
use Rattle.expr_eval.specs.Code.{codes_of}
use Rattle.expr_eval.proofs.Meanings.{means}
use Rattle.expr_eval.proofs.compiling.compile.Goals as goal

pub returns : goal.returns
returns c =
    let items : List Item = items_in c.args.expr.now in
    let branches : List Branch = c.branches-branches.result.now in
    let root : List Item → Shape = λ l. shape_in l branches (length branches - 1) in
    means items (root items) c.args.expr.now.tree _ c.branches-branches.ensures.tree
    (c.in_ok-emit.ensures.code
    ∙ ap (λ (l : List Instr). l ++ (codes_of (index_in c.items-items.result.now) (root c.items-items.result.now)).one) c.in_ok-code.ensures.items
    ∙ ap (λ (l : List Item). (codes_of (index_in l) (root l)).one) c.items-items.ensures)
    (c.in_ok-emit.ensures.plain
    ∙ ap (λ (l : List ℕ). l ++ map (index_in c.items-items.result.now) (plain_items (root c.items-items.result.now))) c.in_ok-plain.ensures.items
    ∙ ap (λ (l : List Item). map (index_in l) (plain_items (root l))) c.items-items.ensures)
