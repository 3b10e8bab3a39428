use Rattle.std.proofs.Common.{None}
use Rattle.expr_lang.proofs.ExprLemmas.{parse_answers}
use Rattle.expr_lang.proofs.parsing.parse.Goals as goal

pub returns : goal.returns
returns c = parse_answers c.args.place c.args.days.now None c.args.text.now c.whole.result c.whole.ensures
