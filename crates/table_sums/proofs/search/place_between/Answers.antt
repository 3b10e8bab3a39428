use Rattle.std.proofs.Common.{◌∙◌, ◌+◌, ◌-◌, ◌/◌, sym, arith}
use Rattle.table_sums.specs.declared.search.Bound.TheVariants as bound
use Rattle.table_sums.proofs.BoundLemmas.{left-half, before-more, after-more}
use Rattle.table_sums.proofs.search.place_between.Goals as goal

pub loop-low-preserved-then-stands_before : goal.loop-low-preserved-then-stands_before
loop-low-preserved-then-stands_before g c =
    let middle = c.loop-low.low + (c.loop-low.high - c.loop-low.low) / 2 in
    let from = c.loop-low.invariant.from in
    let to = c.loop-low.invariant.to in
    let within = c.requires.within in
    record {
      from = omega (arith, from);
      between = omega arith;
      to = to;
      before = before-more (bound.Key c.args.key.now) c.args.rows.now middle c.requires.rise (omega (arith, to, within))
          (λ d. sym (c.stands_before.ensures.before d (c.requires.same middle d (omega (arith, from)) (omega (arith, to))))
          ∙ c.if-stands_before.true);
      after = c.loop-low.invariant.after;
      cost = λ d few. left-half c.args.steps.now c.loop-low.steps c.stands_before.new.steps d (c.loop-low.high - c.loop-low.low)
          (c.loop-low.high - (middle + 1))
          (c.loop-low.invariant.cost d few) c.stands_before.ensures.cost (omega arith) (omega arith);
    }

pub loop-low-preserved : goal.loop-low-preserved
loop-low-preserved g c =
    let middle = c.loop-low.low + (c.loop-low.high - c.loop-low.low) / 2 in
    let from = c.loop-low.invariant.from in
    let to = c.loop-low.invariant.to in
    record {
      from = from;
      between = omega arith;
      to = omega (arith, to);
      before = c.loop-low.invariant.before;
      after = after-more (bound.Key c.args.key.now) c.args.rows.now middle c.requires.rise
          (λ d. sym (c.stands_before.ensures.before d (c.requires.same middle d (omega (arith, from)) (omega (arith, to))))
          ∙ c.if-stands_before.false);
      cost = λ d few. left-half c.args.steps.now c.loop-low.steps c.stands_before.new.steps d (c.loop-low.high - c.loop-low.low) (middle - c.loop-low.low)
          (c.loop-low.invariant.cost d few) c.stands_before.ensures.cost (omega arith) (omega arith);
    }
