-- What users may do, and where.
use Rattle.std.specs.Prelude.{◌≡◌, ℕ, ◌<◌, Bool, false, ◌||◌, ◌==◌, cond, List, [], length, map, find, bytes_eq, slice_get, Option, Some, None, option_map, Vec}
use Rattle.std.specs.HashMap.{get_by, HashMap}
use Rattle.std.specs.declared.alloc.Global.{Global}
use Rattle.std.specs.List.{list_any, range_with_len}
use Rattle.std.specs.Option.{option_map_or, option_or}
use lib.Chars.{codes}
use Rattle.dh_sharing.specs.declared.access.Right.{Right}
use Rattle.dh_sharing.specs.declared.rule.UserFacts.{UserFacts}
use Rattle.dh_sharing.specs.Rule.{may}
use Rattle.dh_metadata.specs.declared.kind.Kind.{Kind}
use Rattle.dh_metadata.specs.declared.held.Records.{Records}
use Rattle.dh_metadata.specs.declared.records.Role.{Role}
use Rattle.dh_metadata.specs.declared.records.User.{User}
use Rattle.dh_metadata.specs.declared.records.UserGroup.{UserGroup}
use Rattle.dh_metadata.specs.Places.{same_id}
use Rattle.dh_metadata.specs.Members.{holders}
use Rattle.dh_metadata.specs.Objects.{sharing_of}

-- the role has the authority
abbrev pub role_has : List Role → List ℕ → ℕ → Bool
role_has roles authority role =
    option_map_or (λ (found : Role). list_any (λ own. bytes_eq own authority) found.authorities) (slice_get roles role) false

-- a role of the user has the authority
abbrev pub is_granted : List Role → User → List ℕ → Bool
is_granted roles user authority = list_any (role_has roles authority) user.user_roles

-- the authority that stands for each other one
unfoldable pub all_authority : List ℕ
all_authority = codes "ALL"

-- a role of the user has the authority `ALL`
abbrev pub has_all : Records → ℕ → Bool
has_all r user = option_map_or (λ found. is_granted r.user_roles found all_authority) (slice_get r.users user) false

-- a role of the user has the authority, or `ALL`
abbrev pub has_authority : Records → ℕ → List ℕ → Bool
has_authority r user authority =
    has_all r user || option_map_or (λ found. is_granted r.user_roles found authority) (slice_get r.users user) false

abbrev pub user_lists : List UserGroup → List (List ℕ)
user_lists groups = map (λ (group : UserGroup). group.users) groups

-- the user groups that the user is in
abbrev pub groups_of : Records → ℕ → List ℕ
groups_of r user = holders (user_lists r.user_groups) (range_with_len 0 (length r.user_groups)) user

-- what the rule of sharing asks of a user
abbrev pub facts_of : Records → ℕ → UserFacts
facts_of r user = record { number = user; groups = groups_of r user; all = has_all r user }

-- the user has the right to the object
abbrev pub may_of : Records → ℕ → Right → Kind → ℕ → Bool
may_of r user right kind n = option_map_or (λ sharing. may (facts_of r user) right sharing) (sharing_of r kind n) false

-- the view units are the capture units where the list of view units is empty
abbrev pub view_units_in : User → List ℕ
view_units_in user = cond (length user.data_view_organisation_units == 0) user.organisation_units user.data_view_organisation_units

abbrev pub view_units_of : Records → ℕ → List ℕ
view_units_of r user = option_map_or view_units_in (slice_get r.users user) []

-- the user of the first token with these bytes
abbrev pub user_in : List (List ℕ × ℕ) → List ℕ → Option ℕ
user_in tokens token = option_map (λ entry. entry.1) (find (λ entry. same_id token entry.0) tokens)

abbrev pub user_of : Records → List ℕ → Option ℕ
user_of r token = user_in r.api_tokens token

-- for each token its user
abbrev pub AreTokens : {S : Type 0} → List (List ℕ × ℕ) → HashMap (Vec ℕ Global) ℕ S → Type 0
AreTokens tokens users = (token : List ℕ) → get_by (λ key. same_id token key.items) users ≡ user_in tokens token

-- one token more, unless it is there
abbrev pub TakesToken : {S : Type 0} → List ℕ → ℕ → HashMap (Vec ℕ Global) ℕ S → HashMap (Vec ℕ Global) ℕ S → Type 0
TakesToken token user old new =
    (other : List ℕ) → get_by (λ key. same_id other key.items) new
    ≡ option_or (get_by (λ key. same_id other key.items) old) (cond (same_id other token) (Some user) None)

-- for each user below the count what the rule of sharing asks
pub record AreFactsUpto (r : Records) (count : ℕ) (facts : List UserFacts) : Type 0 where
  pub same_length : length facts ≡ count
  pub each : (user : ℕ) → user < count → slice_get facts user ≡ Some (facts_of r user)

-- for each user what the rule of sharing asks
abbrev pub AreFacts : Records → List UserFacts → Type 0
AreFacts r facts = AreFactsUpto r (length r.users) facts
