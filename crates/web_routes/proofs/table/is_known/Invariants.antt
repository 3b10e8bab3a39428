use Rattle.std.proofs.Common.{◌≡◌, false, take}
use Rattle.std.specs.List.{list_any}
use Rattle.web_routes.specs.Routes.{has_rest}
use Rattle.web_routes.proofs.table.is_known.Given as goal

abbrev pub invariant-loop-route : goal.invariant-loop-route
invariant-loop-route l = list_any (has_rest l.rest) (take l.route-index l.routes) ≡ false
