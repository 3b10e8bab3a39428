use Rattle.std.proofs.Common.{◌≡◌, ◌++◌, drop, map}
use Rattle.offline_replies.specs.Sets.{value_of}
use Rattle.offline_replies.proofs.samples.sets.values_of.Given as goal

abbrev pub invariant-loop-sample : goal.invariant-loop-sample
invariant-loop-sample l = map value_of l.samples ≡ l.values.items ++ map value_of (drop l.sample-index l.samples)
