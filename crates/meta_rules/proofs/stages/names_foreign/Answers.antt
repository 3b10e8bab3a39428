use Rattle.std.proofs.Common.{◌≡◌, ◌∙◌, ◌<◌, ℕ, List, length, get_or, true, refl, sym, ap, subst}
use Rattle.expr_lang.specs.declared.tree.Item.{Item}
use Rattle.expr_lang.specs.Expr.{items_in}
use Rattle.meta_rules.specs.Stages.{is_foreign, is_stage_of}
use Rattle.meta_rules.proofs.StageLemmas.{any_here, any_later, own_next, none_before}
use Rattle.meta_rules.proofs.stages.names_foreign.Goals as goal

pub loop-n-preserved : goal.loop-n-preserved
loop-n-preserved c =
    let f = is_foreign c.args.ids.now c.args.stages.now c.args.program in
    let items : List Item = items_in c.args.expr.now in
    let n : ℕ = c.loop-n.n in
    let x : Item = c.index-items-n.result in
    let lent : c.items-items.result.now ≡ items = c.items-items.ensures in
    let within : n < length items = subst (λ (l : List Item). n < length l) lent c.loop-n-test.true in
    let at : x ≡ get_or items n x = c.index-items-n.is ∙ ap (λ l. get_or l n x) lent in
    let off = sym c.is_foreign.ensures ∙ c.if-is_foreign.false in
    (c.loop-n.invariant.0 ∙ any_later f items n x within at off, own_next c.args.ids.now c.args.stages.now c.args.program items n x within at off)

pub returns-then-is_foreign : goal.returns-then-is_foreign
returns-then-is_foreign c =
    let f = is_foreign c.args.ids.now c.args.stages.now c.args.program in
    let items : List Item = items_in c.args.expr.now in
    let n : ℕ = c.loop-n.n in
    let x : Item = c.index-items-n.result in
    let lent : c.items-items.result.now ≡ items = c.items-items.ensures in
    let within : n < length items = subst (λ (l : List Item). n < length l) lent c.loop-n-test.true in
    let at : x ≡ get_or items n x = c.index-items-n.is ∙ ap (λ l. get_or l n x) lent in
    sym (c.loop-n.invariant.0 ∙ any_here f items n x within at (sym c.is_foreign.ensures ∙ c.if-is_foreign.true))

pub loop-n-init : goal.loop-n-init
loop-n-init c =
    (refl, none_before (λ (stage : List ℕ). is_stage_of c.args.ids.now c.args.stages.now c.args.program stage ≡ true) (items_in c.args.expr.now))
