use Rattle.std.proofs.Common.{◌≡◌, ◌∙◌, ap, codes, rules}
use Rattle.serde_json.specs.Data.{object, put}
use Rattle.serde_json.specs.View.{view, members_view}
use Rattle.serde_json.proofs.Views.{view-Object}
use Rattle.query_answer.specs.Names.{dx_named, period_named, unit_named, ids_of, dimensions_of, names_of, meta_of}
use Rattle.query_answer.proofs.names.meta_data.Goals as goal

pub returns : goal.returns
unfolding meta_of
returns c =
    let r = c.args.meta.now in
    let query = c.args.query.now in
    let told = dimensions_of (ids_of (dx_named r query.dx)) (ids_of (unit_named r query.units.items)) (ids_of (period_named query.periods.items)) in
    let dimensions : view c.in_ok-dimensions.dimensions ≡ told = search rules in
    let names : members_view c.dimensions.new.items.entries ≡ names_of r query = search rules in
    view-Object c.in_ok-members-2.members
    ∙ ap object
    (c.in_ok-members-2.ensures
    ∙ ap (λ d. put (codes "dimensions") d (members_view c.in_ok-members.members.entries)) dimensions
    ∙ ap (put (codes "dimensions") told)
    (c.in_ok-members.ensures
    ∙ ap (λ d. put (codes "items") d (members_view c.new.result.entries)) (view-Object c.dimensions.new.items ∙ ap object names)
    ∙ ap (λ entries. put (codes "items") (object (names_of r query)) (members_view entries)) c.new.ensures.empty))
