use Rattle.std.proofs.Common.{arith}
use Rattle.table_latest.proofs.GapLemmas.{at-begins, begins-sum, end-few, end-sum, none-sized, step-at, step-few, step-fits, step-sum, IsSpan}
use Rattle.table_latest.proofs.gaps.sum_of_gaps.Goals as goal

pub loop-i-init : goal.loop-i-init
loop-i-init g c =
    let span : IsSpan c.args.places.now c.args.group.now c.args.from c.args.to c.places_before-low.result c.places_before-high.result =
    record { sorted = c.requires.places; starts = c.places_before-low.ensures; ends = c.places_before-high.ensures } in
    record {
      at = at-begins c.args.places.now c.args.group.now c.args.from c.args.to c.places_before-low.result c.places_before-high.result span c.requires.range;
      sum = begins-sum c.args.places.now c.args.group.now c.args.from c.args.to c.places_before-low.result c.places_before-high.result span c.args.need
          (g.S.RowStore.rows c.args.base.now) c.none-sum.result c.none-sum.ensures;
      size = none-sized c.none-sum.result c.none-sum.ensures;
    }

pub with_range-sum-requires-clause-few : goal.with_range-sum-requires-clause-few
with_range-sum-requires-clause-few g c =
    let span : IsSpan c.args.places.now c.args.group.now c.args.from c.args.to c.places_before-low.result c.places_before-high.result =
    record { sorted = c.requires.places; starts = c.places_before-low.ensures; ends = c.places_before-high.ensures } in
    step-few c.args.places.now c.args.group.now c.args.from c.args.to c.places_before-low.result c.places_before-high.result span c.args.need
    (g.S.RowStore.rows c.args.base.now) 4194304 c.loop-i.i c.loop-i.next c.index-places-i.result c.loop-i.sum c.loop-i.auto.i c.loop-i-test.true
    c.loop-i.invariant.at c.requires.few c.loop-i.invariant.sum

pub overflow_add-next : goal.overflow_add-next
overflow_add-next g c =
    let span : IsSpan c.args.places.now c.args.group.now c.args.from c.args.to c.places_before-low.result c.places_before-high.result =
    record { sorted = c.requires.places; starts = c.places_before-low.ensures; ends = c.places_before-high.ensures } in
    let last = step-fits c.args.places.now c.args.group.now c.args.from c.args.to c.places_before-low.result c.places_before-high.result span c.args.need
    (g.S.RowStore.rows c.args.base.now) c.loop-i.i c.index-places-i.result c.loop-i.auto.i c.loop-i-test.true in
    let fits = c.ranges.to.fits in
    omega (arith, last, fits)

pub loop-i-preserved : goal.loop-i-preserved
loop-i-preserved g c =
    let span : IsSpan c.args.places.now c.args.group.now c.args.from c.args.to c.places_before-low.result c.places_before-high.result =
    record { sorted = c.requires.places; starts = c.places_before-low.ensures; ends = c.places_before-high.ensures } in
    record {
      at = step-at c.args.places.now c.args.group.now c.args.from c.args.to c.places_before-low.result c.places_before-high.result span c.args.need
          (g.S.RowStore.rows c.args.base.now) c.loop-i.i c.loop-i.next c.index-places-i.result c.loop-i.auto.i c.loop-i-test.true c.loop-i.invariant.at;
      sum = step-sum c.args.places.now c.args.group.now c.args.from c.args.to c.places_before-low.result c.places_before-high.result span c.args.need
          (g.S.RowStore.rows c.args.base.now) c.loop-i.i c.loop-i.next c.index-places-i.result c.loop-i.sum c.with_range-sum.result c.loop-i.auto.i
          c.loop-i-test.true c.loop-i.invariant.at c.loop-i.invariant.sum c.with_range-sum.ensures.sum;
      size = c.with_range-sum.ensures.size;
    }

pub with_range-requires-clause-few : goal.with_range-requires-clause-few
with_range-requires-clause-few g c =
    let span : IsSpan c.args.places.now c.args.group.now c.args.from c.args.to c.places_before-low.result c.places_before-high.result =
    record { sorted = c.requires.places; starts = c.places_before-low.ensures; ends = c.places_before-high.ensures } in
    end-few c.args.places.now c.args.group.now c.args.from c.args.to c.places_before-low.result c.places_before-high.result span c.args.need
    (g.S.RowStore.rows c.args.base.now) 4194304 c.loop-i.i c.loop-i.next c.loop-i.sum c.loop-i-test.false c.loop-i.invariant.at c.requires.few
    c.loop-i.invariant.sum

pub returns-clause-sum : goal.returns-clause-sum
returns-clause-sum g c =
    let span : IsSpan c.args.places.now c.args.group.now c.args.from c.args.to c.places_before-low.result c.places_before-high.result =
    record { sorted = c.requires.places; starts = c.places_before-low.ensures; ends = c.places_before-high.ensures } in
    end-sum c.args.places.now c.args.group.now c.args.from c.args.to c.places_before-low.result c.places_before-high.result span c.args.need
    (g.S.RowStore.rows c.args.base.now) c.loop-i.i c.loop-i.next c.loop-i.sum c.with_range.result c.loop-i-test.false c.loop-i.invariant.at
    c.loop-i.invariant.sum c.with_range.ensures.sum
