use Rattle.std.proofs.Common.{◌∙◌, Ok, ap, sym, subst}
use Rattle.table_rows.specs.Store.{contents_in}
use Rattle.query_answer.specs.Asked.{CanAnswer}
use Rattle.engine.specs.Tables.{Served}
use Rattle.request_replies.proofs.AskLemmas.{can_answer}
use Rattle.request_replies.proofs.TellLemmas.{answer_told}
use Rattle.request_replies.proofs.query.reply_to_query.Goals as goal

pub over_rows-requires-clause-query : goal.over_rows-requires-clause-query
over_rows-requires-clause-query g c = subst (λ m. CanAnswer m c.args.query.now) (sym c.published_meta.ensures.value) (can_answer _ _ _ c.requires.query)

pub returns-in-Ok : goal.returns-in-Ok
returns-in-Ok g c = record {
  found = Ok c.in-Ok.view.published;
  looks = c.in-Ok.ensures.step;
  tells = answer_told c.over_rows.result c.args.engine.now.meta c.published_meta.result.now c.args.engine.now.state.log c.args.user c.in-Ok.view.published
      c.args.engine.now.state.published c.args.query.now c.args.keep c.deref.result.now.all c.in-Ok.ensures.published c.published_meta.ensures.value
      (ap (λ (tables : Served). contents_in tables.all) c.deref.ensures ∙ c.in-Ok.ensures.tables) c.over_rows.ensures;
}
