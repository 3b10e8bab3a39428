use Rattle.std.proofs.Common.{Some}
use Rattle.expr_lang.proofs.ExprLemmas.{parse_answers}
use Rattle.expr_lang.proofs.parsing.parse_sorted.Goals as goal

pub returns : goal.returns
returns c = parse_answers c.args.place c.args.days.now (Some c.args.wanted) c.args.text.now c.whole.result c.whole.ensures
