use Rattle.std.proofs.Common.{◌+◌, List, subst}
use Rattle.table_rows.specs.declared.row.Row.{Row}
use Rattle.table_sums.specs.Parts.{is_upto, IsRun}
use Rattle.table_sums.proofs.SumLemmas.{filter-sized, between-sized}
use Rattle.table_sums.proofs.PartLemmas.{run-between, position-sum}
use Rattle.table_sums.proofs.range.add_position.Goals as goal

pub sum_between-requires-clause-upto : goal.sum_between-requires-clause-upto
sum_between-requires-clause-upto g c =
    let low = c.run_of-low.result.0 in
    let high = c.run_of-low.result.1 in
    let run : IsRun c.args.part.now c.args.position c.args.list.now low high =
    subst (λ (rs : List Row). IsRun c.args.part.now c.args.position rs low high) c.rows.ensures.rows record {
      starts = c.run_of-low.ensures.low;
      ends
          = c.run_of-low.ensures.high;
    } in
    run-between c.args.part.now c.args.position c.args.list.now low high run

pub joined_sums-requires-clause-first : goal.joined_sums-requires-clause-first
joined_sums-requires-clause-first g c =
    filter-sized (is_upto c.args.part.now c.args.position) c.args.list.now c.args.sum.now c.rows.ensures.fit c.rows.ensures.few c.requires

pub joined_sums-requires-clause-more : goal.joined_sums-requires-clause-more
joined_sums-requires-clause-more g c =
    let low = c.run_of-low.result.0 in
    let high = c.run_of-low.result.1 in
    let run : IsRun c.args.part.now c.args.position c.args.list.now low high =
    subst (λ (rs : List Row). IsRun c.args.part.now c.args.position rs low high) c.rows.ensures.rows record {
      starts = c.run_of-low.ensures.low;
      ends
          = c.run_of-low.ensures.high;
    } in
    between-sized c.args.list.now low high c.sum_between.result c.rows.ensures.fit c.rows.ensures.few
    (run-between c.args.part.now c.args.position c.args.list.now low high run) run.ends.within c.sum_between.ensures

pub returns-clause-sum : goal.returns-clause-sum
returns-clause-sum g c =
    let low = c.run_of-low.result.0 in
    let high = c.run_of-low.result.1 in
    let run : IsRun c.args.part.now c.args.position c.args.list.now low high =
    subst (λ (rs : List Row). IsRun c.args.part.now c.args.position rs low high) c.rows.ensures.rows record {
      starts = c.run_of-low.ensures.low;
      ends
          = c.run_of-low.ensures.high;
    } in
    position-sum c.args.part.now c.args.position c.args.list.now low high c.args.sum.now c.sum_between.result c.joined_sums.result run c.requires
    c.sum_between.ensures
    c.joined_sums.ensures

pub returns-clause-size : goal.returns-clause-size
returns-clause-size g c =
    let low = c.run_of-low.result.0 in
    let high = c.run_of-low.result.1 in
    let run : IsRun c.args.part.now c.args.position c.args.list.now low high =
    subst (λ (rs : List Row). IsRun c.args.part.now c.args.position rs low high) c.rows.ensures.rows record {
      starts = c.run_of-low.ensures.low;
      ends
          = c.run_of-low.ensures.high;
    } in
    filter-sized (is_upto c.args.part.now (c.args.position + 1)) c.args.list.now c.joined_sums.result c.rows.ensures.fit c.rows.ensures.few
    (position-sum c.args.part.now c.args.position c.args.list.now low high c.args.sum.now c.sum_between.result c.joined_sums.result run c.requires
    c.sum_between.ensures
    c.joined_sums.ensures)
