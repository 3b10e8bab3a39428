use Rattle.expr_grammar.proofs.Restated.{printed_again_so}
use Rattle.expr_grammar.proofs.Readings.{read_again_so}
use Rattle.expr_text.proofs.PrintLemmas.{carried}
use Rattle.expr_text.proofs.printing.print.Goals as goal

pub returns-clause-again : goal.returns-clause-again
returns-clause-again c = carried c.print.result (λ text. read_again_so _ text.items) c.print.ensures

pub returns-clause-fewest : goal.returns-clause-fewest
returns-clause-fewest c = carried c.print.result (λ text. printed_again_so _ text.items) c.print.ensures
