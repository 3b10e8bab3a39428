use Rattle.std.proofs.Common.{◌∙◌, ℕ, Some, Ok, sym, ap}
use Rattle.std.specs.Prelude.{option_map}
use Rattle.expr_grammar.proofs.Readings.{read_as}
use Rattle.meta_rules.specs.declared.expr_fault.ExprFault.{ExprFault}
use Rattle.meta_rules.specs.Objects.{unread}
use Rattle.meta_rules.specs.Read.{wrong_at, unread_at, read_or_zero, expr_in}
use Rattle.meta_rules.proofs.ReadLemmas.{refused}
use Rattle.meta_rules.proofs.read.read.Goals as goal

pub returns-in-Err : goal.returns-in-Err
returns-in-Err g c =
    refused g.reading c.args.ids.now c.args.place c.args.days.now c.args.uid c.args.wanted c.args.text.now c.in-Err.fault c.told.result c.told.ensures
    c.in-Err.ensures.is

pub returns-in-Some : goal.returns-in-Some
unfolding unread unread_at
returns-in-Some g c =
    let means = read_as g.reading c.args.place c.args.days.now (Some c.args.wanted) c.args.text.now (Ok c.in-Ok.expr) c.in-Ok.ensures.is in
    let told : ℕ → ExprFault = λ at. record { uid = c.args.uid; at = at } in
    ap (option_map told) (ap (wrong_at c.args.ids.now) means ∙ sym c.in-Some.ensures)

pub returns-in-None : goal.returns-in-None
unfolding unread unread_at expr_in
returns-in-None g c =
    let means = read_as g.reading c.args.place c.args.days.now (Some c.args.wanted) c.args.text.now (Ok c.in-Ok.expr) c.in-Ok.ensures.is in
    let told : ℕ → ExprFault = λ at. record { uid = c.args.uid; at = at } in
    (ap (option_map told) (ap (wrong_at c.args.ids.now) means ∙ sym c.in-None.ensures), sym (ap read_or_zero means))
