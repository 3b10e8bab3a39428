use Rattle.std.proofs.Common.{None}
use Rattle.expr_grammar.proofs.OneAnswer.{one_answer}
use Rattle.expr_grammar.proofs.Readings.{answers_so, one_so, items_so}
use Rattle.expr_text.proofs.parsing.parse.Goals as goal

pub returns-clause-is : goal.returns-clause-is
returns-clause-is c = answers_so c.args.place c.args.days.now None c.args.text.now c.parse.result c.parse.ensures

pub returns-clause-sole : goal.returns-clause-sole
returns-clause-sole c = one_answer c.args.place c.args.days.now None c.args.text.now

pub returns-clause-one : goal.returns-clause-one
returns-clause-one c = one_so c.args.place c.args.days.now None c.args.text.now c.parse.result c.parse.ensures

pub returns-clause-items : goal.returns-clause-items
returns-clause-items c = items_so c.args.place c.args.days.now None c.args.text.now c.parse.result c.parse.ensures
