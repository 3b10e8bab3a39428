use Rattle.std.proofs.Common.{◌≡◌, ◌≤◌, ◌+◌, ◌*◌, ◌∙◌, pos, ◌+ℤ◌, ◌*ℤ◌, unsigned_abs, refl, sym, ap, subst, arith, rules, of_z, to_z, to_z-of_z, FitsSigned}
use Rattle.std.specs.Int.{w128}
use Rattle.table_rows.specs.declared.sum.Sum.{Sum}
use Rattle.table_rows.specs.Samples.{days_of}
use Rattle.cell_values.specs.Parts.{group_sum, group_weight}
use Rattle.cell_values.proofs.PartLemmas.{sums-end, sums-fit, sums-more}
use Rattle.cell_values.proofs.WeightLemmas.{weights-end, weights-more}
use Rattle.cell_values.proofs.totals.totals_of.Goals as goal

pub loop-group-preserved : goal.loop-group-preserved
loop-group-preserved g c =
    let groups = c.args.groups.now in
    let rows = g.S.RowStore.rows c.args.store.now in
    let f = group_sum rows c.args.need c.args.ranges.now in
    let w = group_weight rows c.args.need c.args.ranges.now in
    let i = c.loop-group.group-index in
    let x = c.group-item.result in
    let more = c.group_sum-more.result in
    let within = c.loop-group-test.true in
    let fits : FitsSigned w128 c.plus-weighted.result = search rules in
    let weight_fits : FitsSigned w128 c.weight.result = search rules in
    let told : to_z w128 (of_z w128 c.weight.result) ≡ c.weight.result = to_z-of_z weight_fits in
    let old = to_z w128 c.loop-group.weighted-bits in
    let weight : to_z w128 (of_z w128 c.weight.result) ≡ w x =
    told ∙ c.weight.ensures.weight ∙ ap (λ (s : Sum). s.micros *ℤ pos (days_of x.period)) c.group_sum-more.ensures.sum in
    let sum : c.plus-weighted.result ≡ old +ℤ w x = c.plus-weighted.ensures.sum ∙ ap (λ z. old +ℤ z) weight in
    let added : unsigned_abs c.plus-weighted.result ≤ unsigned_abs old + unsigned_abs c.weight.result =
    subst (λ z. unsigned_abs c.plus-weighted.result ≤ unsigned_abs old + unsigned_abs z) told c.plus-weighted.ensures.size in
    let room =
    sums-fit f groups i x c.loop-group.sum more 4194304 within c.group-item.is c.group_sum-more.ensures.sum c.requires.all c.loop-group.invariant.is in
    let count : c.join-sum.result.count ≡ c.loop-group.sum.count + more.count = ap (λ (s : Sum). s.count) c.join-sum.ensures.sum in
    let small : unsigned_abs c.plus-weighted.result ≤ 39614081257132168796771975168 * c.join-sum.result.count =
    omega (arith, added, count, c.weight.ensures.size, c.loop-group.invariant.small) in
    record {
      is = sums-more f groups i x c.loop-group.sum more c.join-sum.result within c.group-item.is c.group_sum-more.ensures.sum c.join-sum.ensures.sum
          c.loop-group.invariant.is;
      size = c.join-sum.ensures.size;
      plain = c.join-sum.ensures.plain;
      few = omega (arith, room, count);
      weighted =
          weights-more w groups i x old (w x) (to_z w128 (of_z w128 c.plus-weighted.result)) within c.group-item.is refl (to_z-of_z fits
          ∙ sum) c.loop-group.invariant.weighted;
      small = rw (to_z-of_z fits) small;
    }

pub plus-weighted-requires-clause-sum : goal.plus-weighted-requires-clause-sum
plus-weighted-requires-clause-sum g c = omega (arith, c.loop-group.invariant.small, c.loop-group.invariant.few)

pub plus-weighted-requires-clause-more : goal.plus-weighted-requires-clause-more
plus-weighted-requires-clause-more g c =
    let f = group_sum (g.S.RowStore.rows c.args.store.now) c.args.need c.args.ranges.now in
    let fits : FitsSigned w128 c.weight.result = search rules in
    let room =
    sums-fit f c.args.groups.now c.loop-group.group-index c.group-item.result c.loop-group.sum c.group_sum-more.result 4194304 c.loop-group-test.true
    c.group-item.is c.group_sum-more.ensures.sum c.requires.all c.loop-group.invariant.is in
    subst (λ z. unsigned_abs z ≤ 332306998946228968225951765070086144) (sym (to_z-of_z fits)) (omega (arith, room, c.weight.ensures.size))

pub returns-clause-sum : goal.returns-clause-sum
returns-clause-sum g c =
    let f = group_sum (g.S.RowStore.rows c.args.store.now) c.args.need c.args.ranges.now in
    sums-end f c.args.groups.now c.loop-group.group-index c.loop-group.sum c.loop-group-test.false c.loop-group.invariant.is

pub returns-clause-weighted : goal.returns-clause-weighted
returns-clause-weighted g c =
    let w = group_weight (g.S.RowStore.rows c.args.store.now) c.args.need c.args.ranges.now in
    weights-end w c.args.groups.now c.loop-group.group-index (to_z w128 c.loop-group.weighted-bits) c.loop-group-test.false
    c.loop-group.invariant.weighted

pub returns-clause-fits : goal.returns-clause-fits
returns-clause-fits g c = omega (arith, c.loop-group.invariant.small, c.loop-group.invariant.few)
