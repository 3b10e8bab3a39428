-- Requests without a route, with another method, without a user: each is refused by the first cause.
use Rattle.std.proofs.Common.{◌≡◌, refl, ℕ, ℤ, List, []}
use Rattle.std.specs.Prelude.{true, codes, None, Ok, Err}
use Rattle.dh_base.specs.declared.codes.Code.TheVariants as code
use Rattle.http_wire.specs.declared.request.Request.{Request}
use Rattle.dh_metadata.specs.declared.held.Records.{Records}
use Rattle.query_lang.specs.Given.{refusal}
use Rattle.web_routes.specs.Paths.{rest_of, without_version, has_version, is_front_and_id, is_id}
use Rattle.web_routes.specs.Routes.{route_of, route_at, all_routes, has_rest, is_named, takes}
use Rattle.web_routes.specs.declared.table.Route.TheVariants as route
use Rattle.web_routes.specs.Calls.{routed, user_for}

-- a request without a token
abbrev bare : List ℕ → List ℕ → Request
bare method path = record { method = method; path = path; query = []; token = None; asked = None; body = []; keep = true }

pub no_route : (r : Records) (day : ℤ) → routed r day (bare (codes "GET") (codes "/api/none")) ≡ Err (refusal code.F6 [])
unfolding routed route_of rest_of without_version has_version route_at all_routes has_rest is_named is_front_and_id is_id
no_route r day = refl

pub no_method : (r : Records) (day : ℤ) → routed r day (bare (codes "DELETE") (codes "/api/analytics")) ≡ Err (refusal code.F7 [])
unfolding routed route_of rest_of without_version has_version route_at all_routes has_rest is_named is_front_and_id is_id takes
no_method r day = refl

pub no_user : (r : Records) (day : ℤ) → routed r day (bare (codes "GET") (codes "/api/analytics")) ≡ Err (refusal code.F8 [])
unfolding routed route_of rest_of without_version has_version route_at all_routes has_rest is_named is_front_and_id is_id takes user_for
no_user r day = refl

pub with_version : route_of (codes "GET") (codes "/api/40/analytics.json") ≡ Ok route.Query
unfolding route_of rest_of without_version has_version route_at all_routes has_rest is_named is_front_and_id is_id takes
with_version = refl

pub four_digits : route_of (codes "GET") (codes "/api/1040/analytics") ≡ Err (refusal code.F6 [])
unfolding route_of rest_of without_version has_version route_at all_routes has_rest is_named is_front_and_id is_id takes
four_digits = refl

pub json_elsewhere : route_of (codes "POST") (codes "/api/tracker.json") ≡ Err (refusal code.F6 [])
unfolding route_of rest_of without_version has_version route_at all_routes has_rest is_named is_front_and_id is_id takes
json_elsewhere = refl

pub of_set : route_of (codes "GET") (codes "/api/validation/dataSet/DsMonthly01") ≡ Ok route.Check
unfolding route_of rest_of without_version has_version route_at all_routes has_rest is_named is_front_and_id is_id takes
of_set = refl
