-- What a check is of: its parameters, in the order in which they are judged.
use Rattle.std.specs.Prelude.{ℕ, List, [], length, drop, codes, Option, Some, None, option_and_then, Result, Ok, Err}
use Rattle.std.specs.Option.{option_map_or}
use Rattle.dh_base.specs.Uid.{uid_of}
use Rattle.dh_base.specs.declared.codes.Code.TheVariants as code
use Rattle.dh_base.specs.declared.codes.Refusal.{Refusal}
use Rattle.dh_periods.specs.declared.name.PeriodName.{PeriodName}
use Rattle.dh_periods.specs.Texts.{period_of}
use Rattle.dh_metadata.specs.declared.held.Records.{Records}
use Rattle.dh_metadata.specs.declared.kind.Kind.TheVariants.{DataSet}
use Rattle.query_lang.specs.Given.{and_then, refusal, or_refuse}
use Rattle.query_lang.specs.Named.{readable}
use Rattle.query_lang.specs.Units.{unit_seen}
use Rattle.web_routes.specs.Parameters.{value_of}
use Rattle.web_routes.specs.Paths.{rest_of}
use Rattle.web_routes.specs.Routes.{name_of}
use Rattle.web_routes.specs.declared.checked.Checked.{Checked}
use Rattle.web_routes.specs.declared.table.Route.TheVariants.{Check}

-- the identifier in the path, after the route's name
unfoldable pub set_text : List ℕ → List ℕ
set_text path = option_map_or (λ rest. drop (length (name_of Check)) rest) (rest_of path) []

-- the data set of that identifier, where the user may read it; else F14 with the text
unfoldable pub set_for : Records → ℕ → List ℕ → Result ℕ Refusal
set_for r user text = or_refuse code.F14 text (option_and_then (λ id. readable r user DataSet id) (uid_of text))

-- the period, else F21
unfoldable pub period_in : List (List ℕ × List ℕ) → Result PeriodName Refusal
period_in pairs = or_refuse code.F21 (codes "pe") (option_and_then (λ text. period_of text) (value_of (codes "pe") pairs))

-- the unit: F21 where none is named, F15 with the text where it isn't there or isn't under a view unit
abbrev pub unit_named : Records → ℕ → Option (List ℕ) → Result ℕ Refusal
unit_named r user None = Err (refusal code.F21 (codes "ou"))
unit_named r user (Some text) = or_refuse code.F15 text (option_and_then (λ id. unit_seen r user id) (uid_of text))

unfoldable pub unit_in : Records → ℕ → List (List ℕ × List ℕ) → Result ℕ Refusal
unit_in r user pairs = unit_named r user (value_of (codes "ou") pairs)

-- what is checked: the data set of the path, the period, the unit
unfoldable pub checked_of : Records → ℕ → List ℕ → List (List ℕ × List ℕ) → Result Checked Refusal
checked_of r user path pairs =
    and_then (set_for r user (set_text path)) (λ set.
    and_then (period_in pairs) (λ period.
    and_then (unit_in r user pairs) (λ unit.
    Ok (record { set = set; period = period; unit = unit }))))
