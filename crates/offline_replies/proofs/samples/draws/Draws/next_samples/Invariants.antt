use Rattle.std.proofs.Common.{◌≡◌, ◌++◌, ◌-◌}
use Rattle.offline_replies.specs.Draws.{samples, after_samples}
use Rattle.offline_replies.proofs.samples.draws.Draws.next_samples.Given as goal

abbrev pub invariant-loop : goal.invariant-loop
invariant-loop l = record {
  samples : l.list.items ++ samples (l.count - l.counter) l.self.state ≡ samples l.count l.fn.self.state;
  state : after_samples (l.count - l.counter) l.self.state ≡ after_samples l.count l.fn.self.state;
}
