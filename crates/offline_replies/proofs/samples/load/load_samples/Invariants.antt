use Rattle.std.proofs.Common.{◌≡◌, ◌≤◌, ◌-◌, []}
use Rattle.offline_replies.specs.Draws.{start}
use Rattle.offline_replies.specs.Sets.{sets_from}
use Rattle.offline_replies.specs.Loaded.{log_with, HasLoaded}
use Rattle.offline_replies.proofs.samples.load.load_samples.Given as goal

abbrev pub invariant-loop-set : goal.invariant-loop-set
invariant-loop-set l = record {
  loaded : HasLoaded l.fn.engine.meta l.set l.engine;
  within : l.set ≤ l.sets;
  rest : log_with l.fn.engine.meta l.moment [] (sets_from l.sets l.count start)
      ≡ log_with l.fn.engine.meta l.moment l.engine.state.log (sets_from (l.sets - l.set) l.left l.draws.state);
}
