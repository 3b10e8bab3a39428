use Rattle.std.proofs.Common.{ap, sym, subst}
use Rattle.std.specs.Prelude.{Result}
use Rattle.std.specs.Arc.{arc_value}
use Rattle.engine.specs.declared.machine.LookFault.{LookFault}
use Rattle.engine.specs.declared.machine.View.{View}
use Rattle.engine.specs.Tables.{Served}
use Rattle.request_replies.specs.Texts.{told, IsTold}
use Rattle.shared_server.specs.Views.{viewed_answer}
use Rattle.shared_server.proofs.ViewLemmas.{answer_viewed}
use Rattle.shared_server.proofs.look.tell_answer.Goals as goal

pub returns-in-Ok : goal.returns-in-Ok
returns-in-Ok c =
    subst
    (λ (f : Result View LookFault). IsTold (told c.over_rows.result) (viewed_answer c.args.meta.now c.args.user c.args.query.now c.args.keep f))
    (sym c.in-Ok.is)
    (answer_viewed c.over_rows.result c.args.meta.now c.args.user c.in-Ok.view.published c.args.query.now c.args.keep c.deref.result.now.all
    (arc_value c.in-Ok.view.tables).all (ap (λ (tables : Served). tables.all) c.deref.ensures) c.over_rows.ensures)
