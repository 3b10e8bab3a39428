-- Conditions on what a data value or a completion names.
use Rattle.std.specs.Prelude.{ℕ, Bool, false, ◌&&◌, not, cond, List, [], ◌∷◌, slice_get, Option, Some, None, ℤ, pos, ◌-ℤ◌, int_lt}
use Rattle.std.specs.Option.{option_map_or}
use Rattle.std.specs.Ordering.{int_eq}
use Rattle.std.specs.List.{list_any, list_all}
use lib.Chars.{codes}
use Rattle.dh_base.specs.declared.codes.Code.{Code}
use Rattle.dh_base.specs.declared.codes.Code.TheVariants.{C8, C9, C10}
use Rattle.dh_sharing.specs.declared.access.Right.TheVariants.{DataWrite}
use Rattle.dh_periods.specs.declared.name.PeriodName.{PeriodName}
use Rattle.dh_periods.specs.Days.{last_day}
use Rattle.dh_periods.specs.Places.{containing_of, ordinal_of}
use Rattle.org_tree.specs.Units.{is_under}
use Rattle.dh_metadata.specs.declared.held.Records.{Records}
use Rattle.dh_metadata.specs.declared.kind.Kind.TheVariants.{DataSet, CategoryOption}
use Rattle.dh_metadata.specs.declared.records.DataSet as sets
use Rattle.dh_metadata.specs.declared.records.OptionCombo.{OptionCombo}
use Rattle.dh_metadata.specs.declared.records.User as users
use Rattle.dh_metadata.specs.Sets.{is_assigned}
use Rattle.dh_metadata.specs.Users.{has_authority}
use Rattle.dh_changes.specs.Facts.{Facts}
use Rattle.dh_changes.specs.declared.outcome.Who.{Who}
use Rattle.dh_changes.specs.declared.outcome.Who.TheVariants.{User, Loader}
use Rattle.dh_records.specs.Access.{access, tree}
use Rattle.value_import.specs.declared.place.Place.{Place}

-- a code with whether its condition holds
abbrev pub Condition : Type 0
Condition = Code × Bool

-- the code of the first condition that holds
abbrev pub first_of : List Condition → Option Code
first_of [] = None
first_of (condition ∷ more) = cond condition.1 (Some condition.0) (first_of more)

-- a condition on the user who asks; the loader passes it
abbrev pub of_user : (ℕ → Bool) → Who → Bool
of_user condition (User user) = condition user
of_user condition Loader = false

-- the options of an option combination
unfoldable pub options_of : Records → ℕ → List ℕ
options_of r option_combo = option_map_or (λ (found : OptionCombo). found.category_options) (slice_get r.category_option_combos option_combo) []

-- the user may write data of the set and of each option of the attribute option combination
unfoldable pub may_write : Facts → Records → Place → ℕ → Bool
may_write facts r place user =
    access facts r user DataWrite DataSet place.set && list_all (λ option. access facts r user DataWrite CategoryOption option) (options_of r place.attribute)

-- the capture units of a user
unfoldable pub capture_units : Records → ℕ → List ℕ
capture_units r user = option_map_or (λ (found : users.User). found.organisation_units) (slice_get r.users user) []

-- the unit is under a capture unit of the user
unfoldable pub is_captured : Facts → Records → ℕ → ℕ → Bool
is_captured facts r unit user = list_any (λ capture. is_under (tree facts r) unit capture) (capture_units r user)

-- the unit isn't assigned to the set; the user may not write there; the unit isn't under a capture unit
unfoldable pub place_conditions : Facts → Records → Who → Place → List Condition
place_conditions facts r who place =
    (C8, not (is_assigned r place.set place.unit))
    ∷ (C9, of_user (λ user. not (may_write facts r place user)) who)
    ∷ (C10, of_user (λ user. not (is_captured facts r place.unit user)) who)
    ∷ []

-- so many periods of its type may be open after the one with today
unfoldable pub open_periods : Records → ℕ → ℤ
open_periods r set = option_map_or (λ (found : sets.DataSet). found.open_future_periods) (slice_get r.data_sets set) (pos 0)

-- so many days a period of the set stays open after its last day; 0 stands for ever
unfoldable pub expiry_days : Records → ℕ → ℤ
expiry_days r set = option_map_or (λ (found : sets.DataSet). found.expiry_days) (slice_get r.data_sets set) (pos 0)

-- the period comes more than so many places after the one of its type with today
unfoldable pub is_beyond : ℤ → ℤ → PeriodName → Bool
is_beyond today most period =
    option_map_or (λ now. int_lt most (pos (ordinal_of period) -ℤ pos (ordinal_of now))) (containing_of period.kind today today) false

unfoldable pub is_future : Records → ℤ → Place → Bool
is_future r today place = is_beyond today (open_periods r place.set) place.period

-- today is more than so many days after the last day of the period, where these aren't 0
unfoldable pub is_past : ℤ → ℤ → PeriodName → Bool
is_past today days period = not (int_eq days (pos 0)) && int_lt days (today -ℤ last_day period)

-- the authority to write in periods that are past
unfoldable pub edit_expired : List ℕ
edit_expired = codes "F_EDIT_EXPIRED"

-- the period is past, and the user may not write there any more
unfoldable pub is_expired : Records → ℤ → Place → ℕ → Bool
is_expired r today place user = is_past today (expiry_days r place.set) place.period && not (has_authority r user edit_expired)
