use Rattle.std.proofs.Common.{length, ◌≤◌, arith}
use Rattle.shared_engine.proofs.PlaceLemmas.{one_more, all_made}
use Rattle.shared_engine.proofs.work.blank_places.Goals as goal

pub loop-preserved : goal.loop-preserved
loop-preserved g c = one_more c.args.years.now c.loop.index _ _ c.loop-test.true c.loop.invariant c.in_ok-push.ensures.items

pub returns : goal.returns
returns g c =
    let off = c.loop-test.false in
    let high : length c.args.years.now ≤ c.loop.index = omega arith in
    all_made (g.B.Builder.is_part c.args.builder.now) c.args.years.now c.loop.index c.loop.places.items high c.loop.invariant
