use Rattle.std.proofs.Common.{◌∙◌, ◌++◌}
use Rattle.latest_build.proofs.decided.values_touched.Goals as goal

pub returns-clause-keys : goal.returns-clause-keys
returns-clause-keys c = c.in_ok-append.ensures.items ∙ (λ i. c.in_ok-keys.ensures i ++ c.in_ok-decided.ensures i)
