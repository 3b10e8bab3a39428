use Rattle.std.proofs.Common.{◌∙◌, ap}
use Rattle.serde_json.specs.View.{members_view}
use Rattle.query_answer.specs.Names.{dx_named, period_named, unit_named, put_names}
use Rattle.query_answer.proofs.names.dimensions.Goals as goal

pub returns-clause-names : goal.returns-clause-names
returns-clause-names c =
    let r = c.args.meta.now in
    let query = c.args.query.now in
    c.in_ok-ids-3.ensures.names
    ∙ ap (λ l. put_names (unit_named r l) (members_view c.add_periods.new.items.entries)) c.as_slice-3.ensures
    ∙ ap (put_names (unit_named r query.units.items))
    (c.in_ok-ids-2.ensures.names
    ∙ ap (λ l. put_names (period_named l) (members_view c.add_dx.new.items.entries)) c.as_slice-2.ensures
    ∙ ap (put_names (period_named query.periods.items))
    (c.in_ok-ids.ensures.names ∙ ap (λ l. put_names (dx_named r l) (members_view c.args.items.now.entries)) c.as_slice.ensures))
