use Rattle.std.proofs.Common.{◌≡◌, ◌≤◌, ◌*◌, ◌+◌, ◌∙◌, ◌+ℤ◌, ap, unsigned_abs, arith, of_z, to_z, to_z-of_z, FitsSigned, rules}
use Rattle.std.specs.Int.{w128}
use Rattle.table_rows.specs.Samples.{weighted}
use Rattle.table_rows.proofs.TotalLemmas.{weighted-more}
use Rattle.table_rows.proofs.sums.weighted_sum.Goals as goal

pub loop-sample-preserved : goal.loop-sample-preserved
loop-sample-preserved c =
    let fits : FitsSigned w128 c.plus-sum.result = search rules in
    let weight_fits : FitsSigned w128 c.weight.result = search rules in
    let weight : to_z w128 (of_z w128 c.weight.result) ≡ weighted c.sample-item.result = to_z-of_z weight_fits ∙ c.weight.ensures.weight in
    let old = to_z w128 c.loop-sample.sum-bits in
    let sum : c.plus-sum.result ≡ old +ℤ weighted c.sample-item.result = c.plus-sum.ensures.sum ∙ ap (λ z. old +ℤ z) weight in
    let size : unsigned_abs c.plus-sum.result ≤ 39614081257132168796771975168 * (c.loop-sample.sample-index + 1) =
    omega (arith, c.plus-sum.ensures.size, c.loop-sample.invariant.size) in
    record {
      is = to_z-of_z fits
          ∙ weighted-more c.args.samples.now c.loop-sample.sample-index c.sample-item.result old c.plus-sum.result c.loop-sample-test.true c.sample-item.is
          c.loop-sample.invariant.is sum;
      size = rw (to_z-of_z fits) size;
    }
