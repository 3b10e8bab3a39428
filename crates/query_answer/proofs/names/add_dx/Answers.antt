use Rattle.std.proofs.Common.{◌∙◌, ℕ, List, sym, ap}
use Rattle.std.proofs.lemmas.List.{drop_all, take_all}
use Rattle.serde_json.specs.View.{members_view}
use Rattle.query_lang.specs.declared.plain.Dx.{Dx}
use Rattle.query_answer.specs.Names.{dx_name, dx_named, ids_of, put_names}
use Rattle.query_answer.proofs.NameLemmas.{ids-more, names-more}
use Rattle.query_answer.proofs.names.add_dx.Goals as goal

pub loop-each-preserved : goal.loop-each-preserved
loop-each-preserved c =
    let dx = c.args.dx.now in
    let i = c.loop-each.each-index in
    let each = c.each-item.result in
    let named : Dx → List ℕ × List ℕ = λ item. (item.text, dx_name c.args.meta.now item) in
    let id = c.as_slice.ensures ∙ ap (λ (item : Dx). item.text) c.each-item.is in
    let name = c.name_of_dx-name.ensures ∙ ap (dx_name c.args.meta.now) c.each-item.is in
    record {
      ids = ids-more dx named _ _ i each c.as_slice.result.now c.loop-each-test.true id c.loop-each.invariant.ids c.in_ok-add_name.ensures.id;
      names = names-more dx named (members_view c.loop-each.items.entries) (members_view c.add_name.new.items.entries) _ i each
          c.as_slice.result.now c.name_of_dx-name.result.now
          c.loop-each-test.true id name c.loop-each.invariant.names c.in_ok-add_name.ensures.name;
    }

pub returns-clause-ids : goal.returns-clause-ids
returns-clause-ids c =
    c.loop-each.invariant.ids ∙ ap (λ items. ids_of (dx_named c.args.meta.now items)) (take_all c.loop-each.each-index c.args.dx.now c.loop-each-test.false)

pub returns-clause-names : goal.returns-clause-names
returns-clause-names c =
    ap (λ items. put_names (dx_named c.args.meta.now items) (members_view c.loop-each.items.entries))
    (sym (drop_all c.loop-each.each-index c.args.dx.now c.loop-each-test.false))
    ∙ c.loop-each.invariant.names
