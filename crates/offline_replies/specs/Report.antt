-- What is told of the samples that were brought.
use Rattle.std.specs.Prelude.{ℕ, false, List, [], ◌∷◌, ◌++◌, codes, length, Option, None, option_and_then}
use Rattle.std.specs.List.{filter_map}
use Rattle.std.specs.Option.{option_map_or}
use Rattle.std.specs.Fmt.{decimal}
use Rattle.dh_base.specs.Decimals.{printed}
use Rattle.dh_base.specs.Fractions.{Fraction}
use Rattle.dh_changes.specs.declared.change.Change.{Change}
use Rattle.dh_periods.specs.declared.name.PeriodName.{PeriodName}
use Rattle.dh_periods.specs.Texts.{period_of}
use Rattle.dh_metadata.specs.declared.held.Records.{Records}
use Rattle.dh_metadata.specs.declared.kind.Kind.TheVariants.{DataElement, OrganisationUnit, User}
use Rattle.table_rows.specs.declared.row.Row.{Row}
use Rattle.cell_values.specs.Seen.{seen}
use Rattle.cell_values.specs.Cells.{cell_of, aggregate_of}
use Rattle.engine.specs.MetaAfter.{meta_after}
use Rattle.engine.specs.Tables.{tables_of}
use Rattle.offline_replies.specs.Named.{named}
use Rattle.offline_replies.specs.Counts.{rows_counted}
use Rattle.offline_replies.specs.Ids.{country_id, element_id, user_id}

-- the two years that samples are of
unfoldable pub years : List PeriodName
years = filter_map period_of (codes "2023" ∷ codes "2024" ∷ [])

-- the value of an element for a unit over the years, by the rows that a user sees
unfoldable pub total_for : Records → List Row → ℕ → ℕ → ℕ → Option Fraction
total_for r rows user element unit = aggregate_of r (seen r user rows) (cell_of element None None years (unit ∷ []) false)

-- the same for the user, the element and the country of the samples
unfoldable pub total_of : Records → List Row → Option Fraction
total_of r rows =
    option_and_then (λ user. option_and_then (λ element. option_and_then (total_for r rows user element)
    (named r OrganisationUnit country_id)) (named r DataElement element_id)) (named r User user_id)

-- how many rows there are of the element of the samples
unfoldable pub records_of : Records → List Row → ℕ
records_of r rows = option_map_or (λ element. rows_counted element (length r.organisation_units) rows) (named r DataElement element_id) 0

-- a number that isn't whole has up to 6 decimals
unfoldable pub total_text : Option Fraction → List ℕ
total_text total = option_map_or (λ x. printed x 6) total (codes "none")

abbrev pub line : List ℕ → List ℕ → List ℕ
line name value = name ++ (32 ∷ value ++ 10 ∷ [])

-- how many values were drawn, how many rows there are, how many changes, and the total
unfoldable pub lines_of : ℕ → ℕ → ℕ → List ℕ → List ℕ
lines_of values records changes total =
    line (codes "values") (decimal values) ++ (line (codes "records") (decimal records)
    ++ (line (codes "changes") (decimal changes) ++ line (codes "total") total))

-- what is told of a number of values over the rows that their log leaves
abbrev pub report_over : Records → ℕ → List Change → List Row → List ℕ
report_over r count log rows = lines_of count (records_of r rows) (length log) (total_text (total_of r rows))

-- over the tables of a log, as the user sees them after it
unfoldable pub report_of : Records → ℕ → List Change → List ℕ
report_of r count log = report_over (meta_after r log) count log (tables_of r log).rows
