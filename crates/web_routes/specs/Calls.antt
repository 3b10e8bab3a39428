-- The call that a request stands for. Its causes of refusal stand in this order: the route, the method, the user, the
-- right, the parameters, the body.
use Rattle.std.specs.Prelude.{◌≡◌, ℕ, ℤ, ◌<◌, if◌then◌else◌, List, [], ◌∷◌, length, Option, Some, None, option_and_then, Result, Ok, Err, ⊤}
use Rattle.dh_approvals.specs.declared.act.Verb.{Verb}
use Rattle.dh_approvals.specs.declared.act.Verb.TheVariants as verb
use Rattle.dh_base.specs.declared.codes.Code.TheVariants as code
use Rattle.dh_base.specs.declared.codes.Refusal.{Refusal}
use Rattle.http_wire.specs.declared.request.Request.{Request}
use Rattle.dh_metadata.specs.declared.held.Records.{Records}
use Rattle.dh_metadata.specs.Users.{user_of, has_authority}
use Rattle.query_lang.specs.Form.{pairs_of}
use Rattle.query_lang.specs.Given.{and_then, refusal, or_refuse}
use Rattle.query_lang.specs.Askable.{IsAskable}
use Rattle.query_lang.specs.Query.{query_of}
use Rattle.query_lang.specs.declared.query.TheConstants.{MOST_CELLS}
use Rattle.import_forms.specs.Bodies.{body_of}
use Rattle.import_forms.specs.Sets.{set_of}
use Rattle.import_forms.specs.Completions.{completions_of}
use Rattle.import_forms.specs.Bundles.{bundle_of}
use Rattle.web_routes.specs.Parameters.{asked_of, kind_of, params_of, bundle_params_of}
use Rattle.web_routes.specs.Routes.{authority_of, route_of}
use Rattle.web_routes.specs.declared.table.Route.{Route}
use Rattle.web_routes.specs.declared.table.Route.TheVariants as route
use Rattle.web_routes.specs.Approvals.{act_of}
use Rattle.web_routes.specs.Checks.{checked_of}
use Rattle.web_routes.specs.Completions.{uncompletion_of}
use Rattle.web_routes.specs.Told.{or_body}
use Rattle.web_routes.specs.declared.call.Call.{Call}
use Rattle.web_routes.specs.declared.call.Call.TheVariants as call

-- the user whose token the request has, else F8
unfoldable pub user_for : Records → Option (List ℕ) → Result ℕ Refusal
user_for r token = or_refuse code.F8 [] (option_and_then (user_of r) token)

-- the authority that is needed and that the user lacks
abbrev pub lacked : Records → ℕ → Option (List ℕ) → Option (List ℕ)
lacked r user None = None
lacked r user (Some authority) = if has_authority r user authority then None else Some authority

-- F31 with the authority that the user lacks
abbrev pub unless_lacking : {A : Type 0} → Option (List ℕ) → Result A Refusal → Result A Refusal
unless_lacking (Some authority) next = Err (refusal code.F31 authority)
unless_lacking None next = next

-- a query, its `X-Min-Change` first
unfoldable pub query_call : Records → ℤ → ℕ → Request → Result Call Refusal
query_call r day user request =
    and_then (asked_of request.asked) (λ asked.
    and_then (query_of r user day MOST_CELLS request.query) (λ query.
    Ok (call.Query user asked query)))

-- a check, its `X-Min-Change` first
unfoldable pub check_call : Records → ℕ → Request → Result Call Refusal
check_call r user request =
    and_then (asked_of request.asked) (λ asked.
    and_then (checked_of r user request.path (pairs_of request.query)) (λ checked.
    Ok (call.Check user asked checked)))

unfoldable pub update_call : List ℕ → Result Call Refusal
update_call text = and_then (kind_of (pairs_of text)) (λ kind. Ok (call.Update kind))

unfoldable pub values_call : ℕ → Request → Result Call Refusal
values_call user request =
    and_then (params_of (pairs_of request.query)) (λ params.
    and_then (or_body (body_of (set_of params) request.body)) (λ set.
    Ok (call.Values user set)))

unfoldable pub completions_call : ℕ → List ℕ → Result Call Refusal
completions_call user body = and_then (or_body (body_of completions_of body)) (λ list. Ok (call.Completion user list))

unfoldable pub uncompletion_call : Records → ℕ → List ℕ → Result Call Refusal
uncompletion_call r user text =
    and_then (uncompletion_of r (pairs_of text)) (λ completion. Ok (call.Completion user (completion ∷ [])))

unfoldable pub approval_call : Records → ℕ → Verb → List ℕ → Result Call Refusal
approval_call r user verb text = and_then (act_of r verb (pairs_of text)) (λ act. Ok (call.Approval user act))

unfoldable pub tracker_call : ℕ → Request → Result Call Refusal
tracker_call user request =
    and_then (bundle_params_of (pairs_of request.query)) (λ params.
    and_then (or_body (body_of (bundle_of params) request.body)) (λ bundle.
    Ok (call.Tracker user bundle)))

-- what a user asks for by a route
abbrev pub call_of : Records → ℤ → ℕ → Route → Request → Result Call Refusal
call_of r day user route.Query request = query_call r day user request
call_of r day user route.Check request = check_call r user request
call_of r day user route.Update request = update_call request.query
call_of r day user route.Values request = values_call user request
call_of r day user route.Complete request = completions_call user request.body
call_of r day user route.Uncomplete request = uncompletion_call r user request.query
call_of r day user route.Tracker request = tracker_call user request
call_of r day user route.Approve request = approval_call r user verb.Approve request.query
call_of r day user route.Unapprove request = approval_call r user verb.Unapprove request.query
call_of r day user route.Accept request = approval_call r user verb.Accept request.query
call_of r day user route.Unaccept request = approval_call r user verb.Unaccept request.query

-- what a user who may ask it asks for by a route
unfoldable pub allowed_call : Records → ℤ → ℕ → Route → Request → Result Call Refusal
allowed_call r day user route request = unless_lacking (lacked r user (authority_of route)) (call_of r day user route request)

-- the call that a request stands for on a day, or the first cause of its refusal
unfoldable pub routed : Records → ℤ → Request → Result Call Refusal
routed r day request =
    and_then (route_of request.method request.path) (λ route.
    and_then (user_for r request.token) (λ user.
    allowed_call r day user route request))

-- the call is this user's, who may ask its query; an update has no user
abbrev pub IsBy : Records → ℕ → Call → Type 0
IsBy r by (call.Query user asked query) = (user ≡ by) × IsAskable r by query
IsBy r by (call.Check user asked checked) = (user ≡ by) × (checked.set < length r.data_sets) × (checked.unit < length r.organisation_units)
IsBy r by (call.Update kind) = ⊤
IsBy r by (call.Values user set) = user ≡ by
IsBy r by (call.Completion user list) = user ≡ by
IsBy r by (call.Approval user act) = user ≡ by
IsBy r by (call.Tracker user bundle) = user ≡ by

-- the user of the call is one of the metadata's, and may ask its query; an update has no user
abbrev pub IsSound : Records → Call → Type 0
IsSound r (call.Query user asked query) = (user < length r.users) × IsAskable r user query
IsSound r (call.Check user asked checked) =
    (user < length r.users) × (checked.set < length r.data_sets) × (checked.unit < length r.organisation_units)
IsSound r (call.Update kind) = ⊤
IsSound r (call.Values user set) = user < length r.users
IsSound r (call.Completion user list) = user < length r.users
IsSound r (call.Approval user act) = user < length r.users
IsSound r (call.Tracker user bundle) = user < length r.users
