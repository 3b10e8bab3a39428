use Rattle.std.proofs.Common.{◌≡◌, drop}
use Rattle.std.specs.Prelude.{find}
use Rattle.web_routes.specs.Routes.{takes}
use Rattle.web_routes.proofs.table.taken.Given as goal

abbrev pub invariant-loop-route : goal.invariant-loop-route
invariant-loop-route l = find (takes l.method l.rest) l.routes ≡ find (takes l.method l.rest) (drop l.route-index l.routes)
