use Rattle.std.proofs.Common.{subst, arith}
use Rattle.std.proofs.lemmas.List.Elements.{All-more}
use Rattle.table_sums.specs.Running.{IsFit}
use Rattle.table_sums.proofs.SumLemmas.{sum-next, sums-first, sums-more, none-yet}
use Rattle.table_sums.proofs.running.sums_of.Goals as goal

pub loop-row-init : goal.loop-row-init
loop-row-init c =
    let none = none-yet c.none-sum.result c.none-sum.ensures in
    record {
      is = none.is;
      size = none.size;
      plain = none.plain;
      few = none.few;
      sums = sums-first c.args.rows.now c.in_ok-sums.sums.micros.items c.in_ok-sums.sums.plain.items c.in_ok-sums.ensures.micros c.in_ok-sums.ensures.plain;
      fit = λ k d none. absurd (omega arith);
    }

pub loop-row-preserved : goal.loop-row-preserved
loop-row-preserved c =
    let is = sum-next c.args.rows.now c.loop-row.row-index c.row-item.result c.loop-row.sum c.more-sum.result c.loop-row-test.true c.row-item.is
    c.loop-row.invariant.is
    c.more-sum.ensures.sum in
    record {
      is = is;
      size = c.more-sum.ensures.size;
      plain = c.more-sum.ensures.plain;
      few = omega (arith, c.more-sum.ensures.few, c.loop-row.invariant.few);
      sums = sums-more c.args.rows.now c.loop-row.row-index c.loop-row.sums.micros.items c.put_sum.new.sums.micros.items c.loop-row.sums.plain.items
          c.put_sum.new.sums.plain.items
          c.more-sum.result c.loop-row.invariant.sums is c.in_ok-put_sum.ensures.micros c.in_ok-put_sum.ensures.plain;
      fit = All-more IsFit c.args.rows.now c.loop-row.row-index c.row-item.result c.loop-row-test.true c.loop-row.invariant.fit
          (subst IsFit c.row-item.is c.more-sum.ensures.fit);
    }
