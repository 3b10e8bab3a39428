-- The value of an item of an expression.
use Rattle.std.specs.Prelude.{ℕ, Bool, true, ◌&&◌, List, Option, None, Some, length, slice_get, option_map, option_and_then}
use Rattle.dh_base.specs.Fractions.{Fraction, of_micros}
use Rattle.dh_periods.specs.declared.name.PeriodName.{PeriodName}
use Rattle.expr_lang.specs.declared.tree.Item.{Item}
use Rattle.expr_lang.specs.declared.tree.Item.TheVariants as item
use Rattle.org_tree.specs.Count.{count_below}
use Rattle.dh_metadata.specs.declared.held.Records.{Records}
use Rattle.dh_metadata.specs.declared.kind.Kind.TheVariants as kind
use Rattle.dh_metadata.specs.declared.records.Constant.{Constant}
use Rattle.dh_metadata.specs.declared.records.UnitGroup.{UnitGroup}
use Rattle.dh_metadata.specs.Approval.{unit_rows}
use Rattle.dh_metadata.specs.Objects.{find_of}
use Rattle.table_rows.specs.declared.sample.Sample.{Sample}
use Rattle.cell_values.specs.Reporting.{whole, rate_of}
use Rattle.cell_values.specs.Places.{is_at_some}
use Rattle.cell_values.specs.Seen.{SeenRecords}
use Rattle.cell_values.specs.Cells.{cell_of, days_in, aggregate_of}

-- an option combination that may be named: which it is, where there is such a one
abbrev pub named_combo : Records → Option (List ℕ) → Option (Option ℕ)
named_combo r None = Some None
named_combo r (Some id) = option_map (λ n. Some n) (find_of r kind.CategoryOptionCombo id)

-- the order is that of a unit of the group, and of one under some of the units
abbrev pub is_group_unit : Records → List ℕ → List ℕ → Bool → ℕ → Bool
is_group_unit r group units alone order = is_at_some (unit_rows r) true group order && is_at_some (unit_rows r) alone units order

-- how many units of the group are under some of the units; a unit is counted by its order
unfoldable pub units_in : Records → List ℕ → List ℕ → Bool → ℕ
units_in r group units alone = count_below (is_group_unit r group units alone) (length r.organisation_units)

abbrev pub constant_value : Records → ℕ → Option Fraction
constant_value r n = option_map (λ (constant : Constant). of_micros constant.value) (slice_get r.constants n)

abbrev pub group_value : Records → ℕ → List ℕ → Bool → Option Fraction
group_value r n units alone =
    option_map (λ (group : UnitGroup). whole (units_in r group.organisation_units units alone)) (slice_get r.organisation_unit_groups n)

-- the value of an element that is named by identifier, as its combinations are where they are named
abbrev pub element_value : Records → List Sample → List ℕ → Option (List ℕ) → Option (List ℕ) → List PeriodName → List ℕ → Bool → Option Fraction
element_value r samples element combo attribute periods units alone =
    option_and_then (λ e. option_and_then (λ c. option_and_then (λ a. aggregate_of r samples (cell_of e c a periods units alone))
    (named_combo r attribute)) (named_combo r combo)) (find_of r kind.DataElement element)

-- an element is aggregated over the samples that are seen, a rate is that of the registrations that are seen, a constant has its value, a
-- group its units under those of the cell. Items of programs have none here
unfoldable pub item_value_of : Records → SeenRecords → Item → List PeriodName → List ℕ → Bool → Option Fraction
item_value_of r shown (item.Element element combo attribute) periods units alone = element_value r shown.samples element combo attribute periods units alone
item_value_of r shown (item.Constant id) periods units alone = option_and_then (constant_value r) (find_of r kind.Constant id)
item_value_of r shown (item.Group id) periods units alone = option_and_then (λ n. group_value r n units alone) (find_of r kind.OrganisationUnitGroup id)
item_value_of r shown item.Days periods units alone = Some (whole (days_in periods))
item_value_of r shown (item.Rate set which) periods units alone =
    option_and_then (λ n. rate_of r which n periods units shown.regs alone) (find_of r kind.DataSet set)
item_value_of r shown other periods units alone = None
