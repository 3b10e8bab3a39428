use Rattle.std.proofs.Common.{◌≡◌, ◌+◌, ◌≤◌, ◌∙◌, length, get_or, sym, ap, subst, arith}
use Rattle.std.proofs.lemmas.List.{get_or_default}
use Rattle.table_rows.specs.declared.sum.Sum.{Sum}
use Rattle.table_rows.specs.Sums.{sum_over}
use Rattle.cell_values.specs.Parts.{range_sum}
use Rattle.cell_values.proofs.PartLemmas.{sums-more, sums-end, sums-fit, over_ranges, group_sum-few}
use Rattle.cell_values.proofs.totals.group_sum.Goals as goal

pub loop-range-preserved : goal.loop-range-preserved
loop-range-preserved g c =
    let rows = g.S.RowStore.rows c.args.store.now in
    let ranges = c.args.ranges.now in
    let f = range_sum rows c.args.need c.args.group.now in
    let i = c.loop-range.range-index in
    let x = get_or ranges i (0, 0) in
    let at : x ≡ get_or ranges i x = get_or_default ranges i (0, 0) x c.loop-range-test.true in
    let all : (sum_over f ranges).count ≤ length rows =
    subst (λ (s : Sum). s.count ≤ length rows) (over_ranges rows c.args.need c.args.group.now ranges)
    (group_sum-few c.args.need ranges rows c.args.group.now c.requires.apart) in
    let few : (sum_over f ranges).count ≤ 4194304 = omega (arith, all, c.requires.few) in
    let fits =
    sums-fit f ranges i x c.loop-range.sum c.range_sum-more.result 4194304 c.loop-range-test.true at c.range_sum-more.ensures.sum few
    c.loop-range.invariant.is in
    let count : c.join-sum.result.count ≡ c.loop-range.sum.count + c.range_sum-more.result.count = ap (λ (s : Sum). s.count) c.join-sum.ensures.sum in
    record {
      is = sums-more f ranges i x c.loop-range.sum c.range_sum-more.result c.join-sum.result c.loop-range-test.true at c.range_sum-more.ensures.sum
          c.join-sum.ensures.sum c.loop-range.invariant.is;
      size = c.join-sum.ensures.size;
      plain = c.join-sum.ensures.plain;
      few = omega (arith, fits, count);
    }

pub returns-clause-sum : goal.returns-clause-sum
returns-clause-sum g c =
    let rows = g.S.RowStore.rows c.args.store.now in
    sums-end (range_sum rows c.args.need c.args.group.now) c.args.ranges.now c.loop-range.range-index c.loop-range.sum c.loop-range-test.false
    c.loop-range.invariant.is
    ∙ sym (over_ranges rows c.args.need c.args.group.now c.args.ranges.now)
