use Rattle.std.proofs.Common.{rules, ◌<◌, ◌-◌, length, arith}
use Rattle.http_wire.proofs.FrontLemmas.{gathers_on}
use Rattle.http_wire.proofs.BodyLemmas.{within_on}
use Rattle.http_wire.proofs.body.wait_for.Goals as goal

pub returns-in_err-take_more-clause-gains : goal.returns-in_err-take_more-clause-gains
returns-in_err-take_more-clause-gains g c =
    let short : length c.loop-source.bytes.items - c.args.end < c.args.count = search rules in
    gathers_on c.loop-source.invariant.gains (c.loop-source.invariant.within, short) c.take_more.ensures.gains

pub returns-then-not-branch-clause-gains : goal.returns-then-not-branch-clause-gains
returns-then-not-branch-clause-gains g c =
    let short : length c.loop-source.bytes.items - c.args.end < c.args.count = search rules in
    gathers_on c.loop-source.invariant.gains (c.loop-source.invariant.within, short) c.take_more.ensures.gains

pub loop-source-preserved : goal.loop-source-preserved
loop-source-preserved g c =
    let short : length c.loop-source.bytes.items - c.args.end < c.args.count = search rules in record {
      gains = gathers_on c.loop-source.invariant.gains (c.loop-source.invariant.within, short) c.take_more.ensures.gains;
      within =
          within_on c.args.end c.loop-source.bytes.items c.take_more.new.bytes.items c.take_more.ensures.gains.taken c.loop-source.invariant.within
          c.take_more.ensures.gains.beyond;
      bound = c.take_more.ensures.bound;
      keeps = omega (arith, c.take_more.ensures.keeps, c.loop-source.invariant.keeps);
    }
