use Rattle.expr_lang.proofs.Stacks.{found_at, none_at}
use Rattle.expr_lang.proofs.stack.Stack.get.Goals as goal

pub returns-clause-found : goal.returns-clause-found
returns-clause-found g c = found_at c.args.self.now c.args.above c.item.result c.item.ensures

pub returns-clause-none : goal.returns-clause-none
returns-clause-none g c = none_at c.args.self.now c.args.above c.item.result c.item.ensures
