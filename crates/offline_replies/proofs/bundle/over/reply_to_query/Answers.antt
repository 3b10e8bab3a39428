use Rattle.std.proofs.Common.{subst, rules}
use Rattle.dh_base.specs.Memory.{IsCause}
use Rattle.dh_periods.specs.Moment.{day_of}
use Rattle.dh_metadata.specs.declared.held.Records.{Records}
use Rattle.query_lang.specs.Given.{cause_of}
use Rattle.query_lang.specs.Askable.{IsAskable}
use Rattle.query_lang.specs.Query.{query_of}
use Rattle.query_lang.specs.declared.query.TheConstants.{MOST_CELLS}
use Rattle.engine.specs.MetaAfter.{meta_after}
use Rattle.offline_replies.proofs.AskLemmas.{can_answer, refused}
use Rattle.offline_replies.proofs.bundle.over.reply_to_query.Goals as goal

pub over_log-requires-clause-query : goal.over_log-requires-clause-query
over_log-requires-clause-query c =
    can_answer (meta_after c.args.engine.now.meta c.args.engine.now.state.log) c.args.user c.in-Ok.query
    (subst (λ (r : Records). IsAskable r c.args.user c.in-Ok.query) c.latest_meta.ensures.value c.in-Ok.ensures.askable)

pub returns-in-Err : goal.returns-in-Err
returns-in-Err c =
    let after = meta_after c.args.engine.now.meta c.args.engine.now.state.log in
    let cause : IsCause (query_of after c.args.user (day_of c.args.moment) MOST_CELLS c.args.query.now) (cause_of c.in-Err.fault) = search rules in
    refused c.args.engine.now.meta c.args.user c.args.engine.now.state.log (query_of after c.args.user (day_of c.args.moment) MOST_CELLS c.args.query.now)
    (cause_of c.in-Err.fault) c.refuse.result cause c.refuse.ensures
