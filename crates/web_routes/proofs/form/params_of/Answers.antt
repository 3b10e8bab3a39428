use Rattle.std.proofs.Common.{rules}
use Rattle.web_routes.specs.Parameters.{value_of, bad_scheme, params_of}
use Rattle.web_routes.proofs.form.params_of.Goals as goal

pub returns-in-Some : goal.returns-in-Some
unfolding value_of bad_scheme params_of
returns-in-Some c = search rules

pub returns-in-None : goal.returns-in-None
unfolding value_of bad_scheme params_of
returns-in-None c = search rules
