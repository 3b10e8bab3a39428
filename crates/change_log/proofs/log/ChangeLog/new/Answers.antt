use Rattle.change_log.proofs.LogLemmas.{whole-nothing}
use Rattle.change_log.proofs.log.ChangeLog.new.Goals as goal

pub invariant_of-result : goal.invariant_of-result
invariant_of-result g c = record {
  held = c.nothing_held.ensures.held;
  whole = rw c.nothing_held.ensures.none (whole-nothing _ _ _ _ c.requires.empty (g.met.K.Keeper.told_len c.args.keeper) c.requires.limits);
}

pub returns-clause-whole : goal.returns-clause-whole
returns-clause-whole g c = rw c.nothing_held.ensures.none (whole-nothing _ _ _ _ c.requires.empty (g.met.K.Keeper.told_len c.args.keeper) c.requires.limits)
