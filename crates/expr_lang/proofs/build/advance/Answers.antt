use Rattle.expr_lang.specs.declared.reading.Node.TheVariants as node
use Rattle.expr_lang.proofs.MakingLemmas.{next_if, next_unary, next_binary, next_choice}
use Rattle.expr_lang.proofs.build.advance.Goals as goal

pub returns-in-Unary : goal.returns-in-Unary
returns-in-Unary c =
    next_if c.args.text.now c.args.days.now c.args.spot.at c.args.spot.node (node.Unary c.in-Unary.unary) c.args.making.now _ c.put_unary.new.making
    c.put_unary.result c.in-Unary.is c.put_unary.ensures (next_unary c.args.text.now c.args.days.now c.args.spot.at c.args.making.now c.requires
    c.in-Unary.unary)

pub returns-in-Binary : goal.returns-in-Binary
returns-in-Binary c =
    next_if c.args.text.now c.args.days.now c.args.spot.at c.args.spot.node (node.Binary c.in-Binary.binary) c.args.making.now _ c.put_binary.new.making
    c.put_binary.result c.in-Binary.is c.put_binary.ensures
    (next_binary c.args.text.now c.args.days.now c.args.spot.at c.args.making.now c.requires c.in-Binary.binary)

pub returns-in-If : goal.returns-in-If
returns-in-If c =
    next_if c.args.text.now c.args.days.now c.args.spot.at c.args.spot.node node.If c.args.making.now _ c.put_choice.new.making c.put_choice.result c.in-If.is
    c.put_choice.ensures (next_choice c.args.text.now c.args.days.now c.args.spot.at c.args.making.now c.requires)
