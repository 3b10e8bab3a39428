use Rattle.std.proofs.Common.{◌≡◌, ◌∙◌, length, sym, ap, subst, arith}
use Rattle.expr_lang.specs.declared.reading.Node.TheVariants as node
use Rattle.expr_lang.specs.Stored.{syntax_of}
use Rattle.expr_lang.proofs.MakingLemmas.{IsMade, made_none, made_more, made_known, made_tree}
use Rattle.expr_lang.proofs.build.build.Goals as goal

pub loop-spot-init : goal.loop-spot-init
loop-spot-init c =
    subst (IsMade c.args.text.now c.args.days.now c.args.nodes.now 0) (sym c.in_ok-making.ensures)
    (made_none c.args.text.now c.args.days.now c.args.nodes.now)

pub loop-spot-preserved : goal.loop-spot-preserved
loop-spot-preserved c =
    made_more c.args.text.now c.args.days.now c.args.nodes.now c.loop-spot.spot-index (record { at = 0; node = node.Number 0 }) c.loop-spot.making
    c.advance.new.making (omega arith) c.in_ok-advance.ensures c.loop-spot.invariant

pub returns-clause-known : goal.returns-clause-known
returns-clause-known c =
    let end : c.loop-spot.spot-index ≡ length c.args.nodes.now = omega arith in
    c.finish.ensures.known
    ∙ made_known c.args.text.now c.args.days.now c.args.nodes.now c.loop-spot.spot-index c.loop-spot.making end c.loop-spot.invariant

pub returns-clause-tree : goal.returns-clause-tree
returns-clause-tree c =
    let end : c.loop-spot.spot-index ≡ length c.args.nodes.now = omega arith in
    c.finish.ensures.tree
    ∙ ap syntax_of (made_tree c.args.text.now c.args.days.now c.args.nodes.now c.loop-spot.spot-index c.loop-spot.making end c.loop-spot.invariant)
