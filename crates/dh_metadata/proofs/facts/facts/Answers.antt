use Rattle.std.proofs.Common.{◌+◌, subst, sym}
use Rattle.dh_metadata.specs.Users.{AreFactsUpto}
use Rattle.dh_metadata.proofs.UserLemmas.{facts_more}
use Rattle.dh_metadata.proofs.facts.facts.Goals as goal

pub loop-number-preserved : goal.loop-number-preserved
loop-number-preserved c =
    subst (AreFactsUpto c.args.records.now (c.loop-number.number + 1)) (sym c.in_ok-push.ensures.items)
    (facts_more c.args.records.now c.loop-number.number c.loop-number.facts.items _ c.loop-number.invariant c.in_ok-fact_of.ensures)
