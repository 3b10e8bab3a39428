use Rattle.std.proofs.Common.{rules}
use Rattle.web_routes.specs.Calls.{allowed_call}
use Rattle.web_routes.proofs.asking.allowed_call.Goals as goal

pub returns-then-not-has_authority-clause-value : goal.returns-then-not-has_authority-clause-value
unfolding allowed_call
returns-then-not-has_authority-clause-value c = search rules
