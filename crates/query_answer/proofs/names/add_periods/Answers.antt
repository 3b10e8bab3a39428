use Rattle.std.proofs.Common.{◌≡◌, ◌∙◌, List, ℕ, get_or, sym, ap}
use Rattle.std.proofs.lemmas.List.{drop_all, take_all}
use Rattle.serde_json.specs.View.{members_view}
use Rattle.dh_periods.specs.declared.name.PeriodName.{PeriodName}
use Rattle.dh_periods.specs.Texts.{period_text}
use Rattle.query_answer.specs.Names.{period_named, ids_of, put_names}
use Rattle.query_answer.proofs.NameLemmas.{ids-more, names-more}
use Rattle.query_answer.proofs.names.add_periods.Goals as goal

pub loop-each-preserved : goal.loop-each-preserved
loop-each-preserved c =
    let periods = c.args.periods.now in
    let i = c.loop-each.each-index in
    let each = c.each-item.result in
    let named : PeriodName → List ℕ × List ℕ = λ period. (period_text period, period_text period) in
    let text : c.in_ok-text.text.items ≡ period_text (get_or periods i each) = c.in_ok-text.ensures.text ∙ ap period_text c.each-item.is in
    record {
      ids = ids-more periods named _ _ i each c.as_slice-text.result.now
          c.loop-each-test.true (c.as_slice-text.ensures.value ∙ text) c.loop-each.invariant.ids c.in_ok-add_name.ensures.id;
      names = names-more periods named (members_view c.loop-each.items.entries) (members_view c.add_name.new.items.entries) _ i each
          c.as_slice-text.result.now c.as_slice-text.result.now
          c.loop-each-test.true (c.as_slice-text.ensures.value ∙ text) (c.as_slice-text.ensures.value ∙ text) c.loop-each.invariant.names
          c.in_ok-add_name.ensures.name;
    }

pub returns-clause-ids : goal.returns-clause-ids
returns-clause-ids c =
    c.loop-each.invariant.ids ∙ ap (λ items. ids_of (period_named items)) (take_all c.loop-each.each-index c.args.periods.now c.loop-each-test.false)

pub returns-clause-names : goal.returns-clause-names
returns-clause-names c =
    ap (λ items. put_names (period_named items) (members_view c.loop-each.items.entries))
    (sym (drop_all c.loop-each.each-index c.args.periods.now c.loop-each-test.false))
    ∙ c.loop-each.invariant.names
