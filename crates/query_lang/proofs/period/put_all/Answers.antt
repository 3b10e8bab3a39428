use Rattle.std.proofs.Common.{◌∙◌, ap}
use Rattle.dh_periods.specs.Keys.{same_period}
use Rattle.query_lang.specs.Once.{with_new}
use Rattle.query_lang.proofs.LoopLemmas.{once-more}
use Rattle.query_lang.proofs.period.put_all.Goals as goal

pub loop-period-preserved : goal.loop-period-preserved
loop-period-preserved c = record {
  known = c.in_ok-put_new.ensures.seen;
  rest = once-more same_period c.args.periods.now c.loop-period.kept.items c.put_new.new.kept.items c.loop-period.period-index
      c.period-item.result _
      c.loop-period-test.true (c.in_ok-put_new.ensures.kept ∙ ap (with_new same_period c.loop-period.kept.items) c.period-item.is)
      c.loop-period.invariant.rest;
}
