use Rattle.std.proofs.Common.{◌≡◌, ◌∙◌, ℕ, List, get_or, sym, ap, rules}
use Rattle.std.proofs.lemmas.List.{drop_all, take_all}
use Rattle.serde_json.specs.View.{members_view}
use Rattle.query_answer.specs.BodyRows.{unit_id}
use Rattle.query_answer.specs.Names.{unit_name, unit_named, ids_of, put_names}
use Rattle.query_answer.proofs.NameLemmas.{ids-more, names-more}
use Rattle.query_answer.proofs.names.add_units.Goals as goal

pub loop-each-preserved : goal.loop-each-preserved
loop-each-preserved c =
    let r = c.args.meta.now in
    let units = c.args.units.now in
    let i = c.loop-each.each-index in
    let named : ℕ → List ℕ × List ℕ = λ unit. (unit_id r unit, unit_name r unit) in
    let id : c.bytes-id.result ≡ unit_id r (get_or units i 0) = search rules in
    let name : c.as_slice.result.now ≡ unit_name r (get_or units i 0) = search rules in
    record {
      ids = ids-more units named _ _ i 0 c.bytes-id.result c.loop-each-test.true id c.loop-each.invariant.ids c.in_ok-add_name.ensures.id;
      names = names-more units named (members_view c.loop-each.items.entries) (members_view c.add_name.new.items.entries) _ i 0 c.bytes-id.result
          c.as_slice.result.now c.loop-each-test.true id name c.loop-each.invariant.names c.in_ok-add_name.ensures.name;
    }

pub returns-clause-ids : goal.returns-clause-ids
returns-clause-ids c =
    c.loop-each.invariant.ids ∙ ap (λ items. ids_of (unit_named c.args.meta.now items))
    (take_all c.loop-each.each-index c.args.units.now c.loop-each-test.false)

pub returns-clause-names : goal.returns-clause-names
returns-clause-names c =
    ap (λ items. put_names (unit_named c.args.meta.now items) (members_view c.loop-each.items.entries))
    (sym (drop_all c.loop-each.each-index c.args.units.now c.loop-each-test.false))
    ∙ c.loop-each.invariant.names
