use Rattle.std.proofs.Common.{◌≡◌, ◌∙◌, ◌+◌, ◌<◌, ℕ, List, Some, cond, false, length, drop, get_or, true, refl, sym, ap, subst}
use Rattle.expr_lang.specs.declared.tree.Item.{Item}
use Rattle.expr_lang.specs.Expr.{items_in, places_in}
use Rattle.dh_metadata.specs.declared.kind.Kind.TheVariants.{ProgramStage}
use Rattle.meta_rules.specs.Names.{is_there, is_missing}
use Rattle.meta_rules.specs.Read.{missing_place}
use Rattle.meta_rules.proofs.ReadLemmas.{missing_place-step}
use Rattle.meta_rules.proofs.StageLemmas.{there_next, none_before}
use Rattle.meta_rules.proofs.read.missing_at.Goals as goal

pub loop-n-preserved : goal.loop-n-preserved
loop-n-preserved c =
    let ids = c.args.ids.now in
    let items : List Item = items_in c.args.expr.now in
    let places : List ℕ = places_in c.args.expr.now in
    let n : ℕ = c.loop-n.n in
    let x : Item = c.index-items-n.result in
    let lent : c.items-items.result.now ≡ items = c.items-items.ensures in
    let within : n < length items = subst (λ (l : List Item). n < length l) lent c.loop-n-test.true in
    let at : x ≡ get_or items n x = c.index-items-n.is ∙ ap (λ l. get_or l n x) lent in
    let off : is_missing ids x ≡ false = sym c.is_missing.ensures ∙ c.if-is_missing.false in (
      c.loop-n.invariant.0 ∙ missing_place-step (is_missing ids) items places n x within c.requires
          ∙ ap (λ y. cond (is_missing ids y) (Some (get_or places n 0)) (missing_place (is_missing ids) (drop (n + 1) items) (drop (n + 1) places))) (sym at)
          ∙ ap (λ b. cond b (Some (get_or places n 0)) (missing_place (is_missing ids) (drop (n + 1) items) (drop (n + 1) places))) off,
      there_next ids items n x within at off,
    )

pub loop-n-init : goal.loop-n-init
loop-n-init c = (refl, none_before (λ (stage : List ℕ). is_there c.args.ids.now ProgramStage stage ≡ true) (items_in c.args.expr.now))
