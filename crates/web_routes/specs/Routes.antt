-- The table of routes.
use Rattle.std.specs.Prelude.{ℕ, Bool, ◌&&◌, ◌||◌, if◌then◌else◌, List, [], ◌∷◌, find, bytes_eq, codes, Option, Some, None, Result, Err}
use Rattle.std.specs.List.{list_any}
use Rattle.std.specs.Option.{option_map_or}
use Rattle.std.specs.Prelude.{true, false}
use Rattle.dh_base.specs.declared.codes.Code.TheVariants as code
use Rattle.dh_base.specs.declared.codes.Refusal.{Refusal}
use Rattle.query_lang.specs.Given.{and_then, refusal, or_refuse}
use Rattle.web_routes.specs.declared.table.Route.{Route}
use Rattle.web_routes.specs.declared.table.Route.TheVariants as route
use Rattle.web_routes.specs.Paths.{rest_of, is_front_and_id}

unfoldable pub all_routes : List Route
all_routes =
    route.Query ∷ route.Check ∷ route.Update ∷ route.Values ∷ route.Complete ∷ route.Uncomplete ∷ route.Tracker
    ∷ route.Approve ∷ route.Unapprove ∷ route.Accept ∷ route.Unaccept ∷ []

-- the rest of the route's path; of a check what stands in front of the identifier
abbrev pub name_of : Route → List ℕ
name_of route.Query = codes "analytics"
name_of route.Check = codes "validation/dataSet/"
name_of route.Update = codes "resourceTables/analytics"
name_of route.Values = codes "dataValueSets"
name_of route.Complete = codes "completeDataSetRegistrations"
name_of route.Uncomplete = codes "completeDataSetRegistrations"
name_of route.Tracker = codes "tracker"
name_of route.Approve = codes "dataApprovals"
name_of route.Unapprove = codes "dataApprovals"
name_of route.Accept = codes "dataAcceptances"
name_of route.Unaccept = codes "dataAcceptances"

-- the other rest that the route's path may have
abbrev pub other_name_of : Route → Option (List ℕ)
other_name_of route.Query = Some (codes "analytics.json")
other_name_of route.Check = None
other_name_of route.Update = None
other_name_of route.Values = Some (codes "dataValueSets.json")
other_name_of route.Complete = None
other_name_of route.Uncomplete = None
other_name_of route.Tracker = None
other_name_of route.Approve = None
other_name_of route.Unapprove = None
other_name_of route.Accept = None
other_name_of route.Unaccept = None

abbrev pub method_of : Route → List ℕ
method_of route.Query = codes "GET"
method_of route.Check = codes "GET"
method_of route.Update = codes "POST"
method_of route.Values = codes "POST"
method_of route.Complete = codes "POST"
method_of route.Uncomplete = codes "DELETE"
method_of route.Tracker = codes "POST"
method_of route.Approve = codes "POST"
method_of route.Unapprove = codes "DELETE"
method_of route.Accept = codes "POST"
method_of route.Unaccept = codes "DELETE"

-- the authority that a user needs
abbrev pub authority_of : Route → Option (List ℕ)
authority_of route.Query = None
authority_of route.Check = None
authority_of route.Update = Some (codes "F_PERFORM_MAINTENANCE")
authority_of route.Values = Some (codes "F_DATAVALUE_ADD")
authority_of route.Complete = Some (codes "F_DATAVALUE_ADD")
authority_of route.Uncomplete = Some (codes "F_DATAVALUE_ADD")
authority_of route.Tracker = None
authority_of route.Approve = None
authority_of route.Unapprove = None
authority_of route.Accept = None
authority_of route.Unaccept = None

-- an identifier stands after the name
abbrev pub takes_id : Route → Bool
takes_id route.Query = false
takes_id route.Check = true
takes_id route.Update = false
takes_id route.Values = false
takes_id route.Complete = false
takes_id route.Uncomplete = false
takes_id route.Tracker = false
takes_id route.Approve = false
takes_id route.Unapprove = false
takes_id route.Accept = false
takes_id route.Unaccept = false

-- the text is a name of the route
unfoldable pub is_named : Route → List ℕ → Bool
is_named route text = bytes_eq text (name_of route) || option_map_or (λ name. bytes_eq text name) (other_name_of route) false

-- the route's path has this rest
unfoldable pub has_rest : List ℕ → Route → Bool
has_rest rest route = if takes_id route then is_front_and_id (name_of route) rest else is_named route rest

-- the route takes the method at this rest
unfoldable pub takes : List ℕ → List ℕ → Route → Bool
takes method rest route = has_rest rest route && bytes_eq method (method_of route)

-- the route of a method and a rest: F6 where no route has the rest, F7 where none of those that have it has the method
unfoldable pub route_at : List ℕ → List ℕ → Result Route Refusal
route_at method rest =
    if list_any (has_rest rest) all_routes then or_refuse code.F7 [] (find (takes method rest) all_routes) else Err (refusal code.F6 [])

-- the route of a method and a path
unfoldable pub route_of : List ℕ → List ℕ → Result Route Refusal
route_of method path = and_then (or_refuse code.F6 [] (rest_of path)) (λ rest. route_at method rest)
