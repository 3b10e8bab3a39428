use Rattle.std.proofs.Common.{arith, rules, of_calls}
use Rattle.std.proofs.lemmas.List.Sorted.{IsPartitionPoint-from_clause}
use Rattle.table_sums.specs.Bounds.{is_group_before}
use Rattle.table_sums.proofs.SpanLemmas.{groups-parted}
use Rattle.table_sums.proofs.search.groups_before.Goals as goal

pub returns : goal.returns
returns c =
    let point = IsPartitionPoint-from_clause (is_group_before c.args.bound.now) _ _ c.partition_point.ensures.partitioned
    (groups-parted c.args.bound.now c.args.groups.now c.requires) (λ a r f k. search (rules, of_calls)) in
    record {
      within = c.partition_point.ensures.bound;
      before = λ k d less. point.0 k d (omega (arith, c.partition_point.ensures.bound)) less;
      after = λ k d from within. point.1 k d from within;
    }
