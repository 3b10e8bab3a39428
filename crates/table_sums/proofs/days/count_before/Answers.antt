use Rattle.std.proofs.Common.{arith, rules, of_calls}
use Rattle.std.proofs.lemmas.List.Sorted.{IsPartitionPoint-from_clause}
use Rattle.table_sums.specs.Days.{is_before}
use Rattle.table_sums.proofs.DayLemmas.{days-parted}
use Rattle.table_sums.proofs.days.count_before.Goals as goal

pub returns : goal.returns
returns c =
    let point = IsPartitionPoint-from_clause (is_before c.args.asked.now c.args.with_days) _ _ c.partition_point.ensures.partitioned
    (days-parted c.args.asked.now c.args.with_days c.args.events.now c.requires) (λ a r f k. search (rules, of_calls)) in
    record {
      within = c.partition_point.ensures.bound;
      before = λ k d less. point.0 k d (omega (arith, c.partition_point.ensures.bound)) less;
      after = λ k d from within. point.1 k d from within;
    }
