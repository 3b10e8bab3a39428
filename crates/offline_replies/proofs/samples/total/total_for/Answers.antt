use Rattle.std.proofs.Common.{◌∙◌}
use Rattle.offline_replies.proofs.ReportLemmas.{some_years, total_same}
use Rattle.offline_replies.proofs.samples.total.total_for.Goals as goal

pub of-requires-2 : goal.of-requires-2
of-requires-2 g c = some_years c.deref.result.now (c.deref.ensures.value ∙ c.in_ok-years.ensures.value)

pub returns : goal.returns
returns g c =
    total_same c.element_value.result c.args.meta.now (g.S.RowStore.rows c.args.store.now) c.in_ok-seer.seer.user c.args.user c.args.element c.args.unit
    c.in_ok-periods.periods c.in_ok-units.units.units c.in_ok-units.units.alone
    c.in_ok-seer.ensures.user (c.in_ok-periods.ensures ∙ c.deref.ensures.value ∙ c.in_ok-years.ensures.value)
    c.in_ok-units.ensures.units c.in_ok-units.ensures.alone c.element_value.ensures
