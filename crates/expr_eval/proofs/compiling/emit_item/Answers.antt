use Rattle.std.proofs.Common.{◌≡◌, List, [], ◌∷◌, ◌++◌, refl, sym, subst}
use Rattle.std.specs.Prelude.{OnOk}
use Rattle.expr_lang.specs.declared.tree.Item.{Item}
use Rattle.expr_lang.specs.declared.tree.Leaf.TheVariants as leaf
use Rattle.expr_eval.specs.declared.code.Instr.{Instr}
use Rattle.expr_eval.specs.declared.code.Instr.TheVariants as instr
use Rattle.expr_eval.specs.Given.{index_in}
use Rattle.expr_eval.proofs.Places.{at-place}
use Rattle.expr_eval.specs.Code.{codes_of}
use Rattle.expr_eval.proofs.compiling.emit_item.Goals as goal

pub returns-clause-code : goal.returns-clause-code
returns-clause-code c =
    let items : List Item = c.args.source.now.items.now in
    subst (λ (l : List Instr). OnOk c.put_load.result (c.put_load.new.code.items ≡ c.args.code.now.items ++ l))
    (sym (at-place (λ s. (codes_of (index_in items) s).one) (λ k. instr.Load k ∷ []) (λ i. leaf.Item i) items c.args.place c.requires.within
    c.requires.different (λ i. refl))) c.put_load.ensures
