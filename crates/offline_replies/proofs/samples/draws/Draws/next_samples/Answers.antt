use Rattle.offline_replies.proofs.StepLemmas.{sample-step, state-step}
use Rattle.offline_replies.proofs.samples.draws.Draws.next_samples.Goals as goal

pub loop-preserved : goal.loop-preserved
loop-preserved c = record {
  samples =
      sample-step c.loop.list.items c.push.new.self.items _ c.args.count c.loop.counter c.loop.self.state c.next_sample.new.self.state c.next_sample.result
      c.loop-test.true c.next_sample.ensures.sample c.next_sample.ensures.state c.in_ok-push.ensures.items c.loop.invariant.samples;
  state =
      state-step c.args.count c.loop.counter c.loop.self.state c.next_sample.new.self.state _ c.loop-test.true c.next_sample.ensures.state
      c.loop.invariant.state;
}
