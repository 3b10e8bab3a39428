use Rattle.std.proofs.Common.{◌≡◌, ◌∙◌, IfOk, Ok, ap, subst}
use Rattle.table_rows.specs.Store.{contents_in}
use Rattle.request_session.specs.Replies.{text_in}
use Rattle.engine.specs.Tables.{Served}
use Rattle.request_replies.specs.Checks.{place_of, check_by}
use Rattle.request_replies.proofs.TellLemmas.{check_told}
use Rattle.request_replies.proofs.check.reply_to_check.Goals as goal

pub returns-in-Ok : goal.returns-in-Ok
returns-in-Ok g c = record {
  found = Ok c.in-Ok.view.published;
  looks = c.in-Ok.ensures.step;
  tells = check_told c.by_user.result c.args.engine.now.meta c.published_meta.result.now c.args.engine.now.state.log c.args.user c.in-Ok.view.published
      c.args.engine.now.state.published (place_of c.args.checked.now) c.args.keep c.deref.result.now.all c.in-Ok.ensures.published
      c.published_meta.ensures.value (ap (λ (tables : Served). contents_in tables.all) c.deref.ensures ∙ c.in-Ok.ensures.tables)
      (subst (λ place. IfOk c.by_user.result (λ reply. text_in reply
      ≡ check_by c.published_meta.result.now (contents_in c.deref.result.now.all) c.args.user place c.args.keep c.in-Ok.view.published))
      c.place_of-place.ensures c.by_user.ensures);
}
