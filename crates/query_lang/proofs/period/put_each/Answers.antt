use Rattle.std.proofs.Common.{◌≡◌, ◌∙◌, Vec, Global, None, Some, option_map, sym, ap, subst, FitsSigned, w32, rules}
use Rattle.std.proofs.lemmas.Int.{to_z-of_z}
use Rattle.std.proofs.lemmas.List.{drop_all}
use Rattle.dh_periods.specs.declared.name.PeriodName.{PeriodName}
use Rattle.dh_periods.specs.Keys.{same_period}
use Rattle.query_lang.specs.Once.{once_from}
use Rattle.query_lang.specs.Items.{period_form, periods_from}
use Rattle.query_lang.proofs.EachLemmas.{periods_more, periods_none}
use Rattle.query_lang.proofs.period.put_each.Goals as goal

pub loop-text-preserved : goal.loop-text-preserved
loop-text-preserved c = record {
  known = c.in_ok-put_all.ensures.seen;
  rest = periods_more _ c.loop-text.kept.items c.put_all.new.kept.items c.in-Some.found.items c.args.texts.now c.loop-text.text-index c.text-item.result _
      c.loop-text-test.true c.text-item.is
      (ap (period_form _) (sym c.as_slice.ensures) ∙ sym c.in_ok-found.ensures
      ∙ ap (option_map (λ (periods : Vec PeriodName Global). periods.items)) c.in-Some.is)
      (c.in_ok-put_all.ensures.kept ∙ ap (once_from same_period c.loop-text.kept.items) c.deref.ensures.value)
      c.loop-text.invariant.rest;
}

pub returns-in_default : goal.returns-in_default
returns-in_default c =
    let fits : FitsSigned w32 c.args.day = search rules in
    subst (λ day. periods_from day c.args.kept.now.items c.args.texts.now ≡ None) (to_z-of_z w32 c.args.day fits)
    (periods_none _ c.loop-text.kept.items c.args.texts.now c.loop-text.text-index c.text-item.result _
    c.loop-text-test.true c.text-item.is
    (ap (period_form _) (sym c.as_slice.ensures) ∙ sym c.in_ok-found.ensures
    ∙ ap (option_map (λ (periods : Vec PeriodName Global). periods.items)) c.in_default.is)
    c.loop-text.invariant.rest)

pub returns : goal.returns
returns c =
    let fits : FitsSigned w32 c.args.day = search rules in
    let kept = c.loop-text.kept.items in
    subst (λ day. periods_from day c.args.kept.now.items c.args.texts.now ≡ Some kept) (to_z-of_z w32 c.args.day fits)
    (sym c.loop-text.invariant.rest ∙ ap (periods_from _ kept) (drop_all c.loop-text.text-index c.args.texts.now c.loop-text-test.false))
