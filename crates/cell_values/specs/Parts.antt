-- How a cell is found in a store: groups that pass, and of each the rows that meet a need and lie in ranges of orders.
use Rattle.std.specs.Prelude.{ℕ, Bool, true, false, cond, map, ◌&&◌, ℤ, pos, ◌*ℤ◌, List, [], ◌∷◌, Option}
use Rattle.std.specs.List.{IsDistinct}
use Rattle.std.specs.Ordering.{eq_by_cmp}
use Rattle.dh_base.specs.declared.plain.AggType.{AggType}
use Rattle.dh_base.specs.declared.plain.AggType.TheVariants as kind
use Rattle.dh_base.specs.declared.plain.Need.{Need}
use Rattle.dh_base.specs.Fractions.{Fraction}
use Rattle.dh_sharing.specs.declared.access.Right.TheVariants.{Read}
use Rattle.dh_sharing.specs.Ranges.{is_within}
use Rattle.dh_periods.specs.declared.name.PeriodName.{PeriodName}
use Rattle.dh_metadata.specs.declared.held.Records.{Records}
use Rattle.dh_metadata.specs.declared.kind.Kind.TheVariants.{DataElement}
use Rattle.dh_metadata.specs.Users.{may_of}
use Rattle.table_rows.specs.declared.row.Row.{Row}
use Rattle.table_rows.specs.declared.row.Group.{Group}
use Rattle.table_rows.specs.declared.sum.Sum.{Sum}
use Rattle.table_rows.specs.Cells.{Part, part_sum, gathered}
use Rattle.table_rows.specs.Rows.{meets, wanted_rows}
use Rattle.table_rows.specs.Sums.{sum_over}
use Rattle.table_rows.specs.declared.sample.Sample.{Sample}
use Rattle.table_rows.specs.declared.sample.Series.{Series}
use Rattle.table_rows.specs.RowSamples.{sample_of}
use Rattle.table_rows.specs.Samples.{days_of, total, sample_cmp}
use Rattle.table_rows.specs.Values.{mean, unless_none, value_by, value_of_sum}
use Rattle.cell_values.specs.Seen.{sees_attribute}
use Rattle.cell_values.specs.Cells.{is_named, is_in_some}

-- the group is of the combinations that are named, lies in some of the periods, and the user may read its values
unfoldable pub is_group_asked : Records → ℕ → Option ℕ → Option ℕ → List PeriodName → Group → Bool
is_group_asked r user combo attribute periods group =
    is_named combo group.combo
    && (is_named attribute group.attribute
    && (is_in_some periods group.period && (sees_attribute r user group.attribute && may_of r user Read DataElement group.element)))

-- the row meets the need, and its order lies in some of the ranges
abbrev pub is_row_asked : Need → List (ℕ × ℕ) → Row → Bool
is_row_asked need ranges row = meets need row.approved && is_within ranges row.order

abbrev pub part : Need → ℕ × ℕ → Part
part need range = record { need = need; from = range.0; to = range.1 }

abbrev pub parts_of : Need → List (ℕ × ℕ) → List Part
parts_of need [] = []
parts_of need (range ∷ ranges) = part need range ∷ parts_of need ranges

-- the sum over a group's rows in a range, and in all ranges
abbrev pub range_sum : List Row → Need → Group → ℕ × ℕ → Sum
range_sum rows need group range = part_sum rows group (part need range)

abbrev pub group_sum : List Row → Need → List (ℕ × ℕ) → Group → Sum
group_sum rows need ranges group = sum_over (part_sum rows group) (parts_of need ranges)

-- the same, times the days of the group's period
abbrev pub group_weight : List Row → Need → List (ℕ × ℕ) → Group → ℤ
group_weight rows need ranges group = (group_sum rows need ranges group).micros *ℤ pos (days_of group.period)

-- the rows themselves, range by range
abbrev pub range_rows : List Row → Need → Group → ℕ × ℕ → List Row
range_rows rows need group range = wanted_rows group need range.0 range.1 rows

abbrev pub ranged_rows : List Row → Need → List (ℕ × ℕ) → Group → List Row
ranged_rows rows need ranges group = gathered (range_rows rows need group) ranges

-- what samples are ordered by
abbrev pub key_of : Sample → Series × PeriodName
key_of sample = (sample.series, sample.period)

-- a series and a period name a sample once
abbrev pub HaveOwnKeys : List Sample → Type 0
HaveOwnKeys samples = IsDistinct (eq_by_cmp sample_cmp) samples

-- the value of a cell from its sum, and from its sum of numbers times days
abbrev pub value_of_totals : AggType → Sum → ℤ → ℕ → Option Fraction
value_of_totals kind.AverageSumOrgUnit sum weighted days = unless_none sum.plain (mean weighted days)
value_of_totals other sum weighted days = value_of_sum other sum

-- the types that need no more
abbrev pub is_sum_type : AggType → Bool
is_sum_type kind.Sum = true
is_sum_type kind.Average = true
is_sum_type kind.Count = true
is_sum_type kind.AverageSumOrgUnit = true
is_sum_type other = false

-- the value of a cell from the groups that pass
unfoldable pub value_in : List Row → AggType → List Group → Need → List (ℕ × ℕ) → ℕ → Option Fraction
value_in rows kind groups need ranges days =
    cond (is_sum_type kind)
    (value_of_totals kind (sum_over (group_sum rows need ranges) groups) (total (group_weight rows need ranges) groups) days)
    (value_by kind (map sample_of (gathered (ranged_rows rows need ranges) groups)) days)
