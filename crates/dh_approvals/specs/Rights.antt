-- Who may approve and accept, and where.
use Rattle.std.specs.Prelude.{ℕ, Bool, ◌==◌, ◌&&◌, ◌||◌, not, List, [], slice_get}
use Rattle.std.specs.List.{list_any}
use Rattle.std.specs.Option.{option_map_or}
use lib.Chars.{codes}
use Rattle.org_tree.specs.Units.{UnitRow, is_under}
use Rattle.dh_metadata.specs.declared.held.Records.{Records}
use Rattle.dh_metadata.specs.declared.records.User.{User}
use Rattle.dh_metadata.specs.Users.{has_authority}
use Rattle.dh_changes.specs.Facts.{Facts}
use Rattle.dh_records.specs.Access.{tree}
use Rattle.dh_approvals.specs.declared.act.Verb.{Verb}
use Rattle.dh_approvals.specs.declared.act.Verb.TheVariants.{Approve, Unapprove, Accept, Unaccept}

-- the authority to approve at an own unit
unfoldable pub approve_own : List ℕ
approve_own = codes "F_APPROVE_DATA"

-- the authority to approve below one
unfoldable pub approve_lower : List ℕ
approve_lower = codes "F_APPROVE_DATA_LOWER_LEVELS"

-- the authority to accept below one
unfoldable pub accept_lower : List ℕ
accept_lower = codes "F_ACCEPT_DATA_LOWER_LEVELS"

-- the units for which a user records data
abbrev pub capture_units : Records → ℕ → List ℕ
capture_units r user = option_map_or (λ (found : User). found.organisation_units) (slice_get r.users user) []

-- the unit is one of these
abbrev pub is_own : List ℕ → ℕ → Bool
is_own captures unit = list_any (λ capture. capture == unit) captures

-- the unit is under one of these, and isn't that one
abbrev pub is_lower : List UnitRow → List ℕ → ℕ → Bool
is_lower us captures unit = list_any (λ capture. is_under us unit capture && not (capture == unit)) captures

unfoldable pub may_approve : Facts → Records → ℕ → ℕ → Bool
may_approve facts r user unit =
    (is_own (capture_units r user) unit && has_authority r user approve_own)
    || (is_lower (tree facts r) (capture_units r user) unit && has_authority r user approve_lower)

unfoldable pub may_accept : Facts → Records → ℕ → ℕ → Bool
may_accept facts r user unit = is_lower (tree facts r) (capture_units r user) unit && has_authority r user accept_lower

-- the right to what is done at a unit; the authority `ALL` stands for each of these, and gives no scope
unfoldable pub has_right : Facts → Records → ℕ → ℕ → Verb → Bool
has_right facts r user unit Approve = may_approve facts r user unit
has_right facts r user unit Unapprove = may_approve facts r user unit
has_right facts r user unit Accept = may_accept facts r user unit
has_right facts r user unit Unaccept = may_accept facts r user unit
