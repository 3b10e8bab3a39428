use Rattle.dh_periods.proofs.RunLemmas.{before-listed, back-in}
use Rattle.dh_periods.proofs.windows.before_on.Goals as goal

pub overflow_sub-place_with : goal.overflow_sub-place_with
overflow_sub-place_with c =
    back-in c.args.kind c.args.place c.args.back _ c.requires.from c.requires.to c.requires.reach c.place_with.ensures.value

pub run_of-requires-clause-listed : goal.run_of-requires-clause-listed
run_of-requires-clause-listed c =
    before-listed c.args.kind c.args.place c.args.back c.args.count _ c.requires.from c.requires.to c.requires.reach c.requires.count c.place_with.ensures.value
