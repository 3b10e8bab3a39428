-- The order of periods, groups and rows.
use Rattle.std.specs.Ordering.{ordering_then, nat_cmp, int_cmp}
use Rattle.std.specs.declared.cmp.Ordering.{Ordering}
use Rattle.std.specs.declared.cmp.Ordering.TheVariants.{Less, Equal, Greater}
use Rattle.std.specs.Cmp.Derive.{points}
use denote.Enum.Compared.{by}
use Rattle.dh_periods.specs.contracts.kind.PeriodType.{enum, as_values}
use Rattle.dh_periods.specs.declared.kind.PeriodType.{PeriodType}
use Rattle.dh_periods.specs.declared.name.PeriodName.{PeriodName}
use Rattle.dh_periods.specs.Days.{first_day, last_day}
use Rattle.table_rows.specs.declared.row.Row.{Row}
use Rattle.table_rows.specs.declared.row.Group.{Group}
use Rattle.table_rows.specs.declared.row.RowKey.{RowKey}
use Rattle.table_rows.specs.Rows.{key_of}

-- types of periods in the order in which their enum lists them: `Less` where the first stands first
abbrev pub kind_cmp : PeriodType → PeriodType → Ordering
kind_cmp a b = by Less Greater enum.parts (points Equal enum.parts) (as_values a) (as_values b)

abbrev pub name_cmp : PeriodName → PeriodName → Ordering
name_cmp a b = ordering_then (kind_cmp a.kind b.kind) (ordering_then (nat_cmp a.year b.year) (ordering_then (nat_cmp a.number b.number) (nat_cmp a.day b.day)))

-- periods by last day, first day and type; two periods with the same three are one, so that what follows them tells none apart
abbrev pub period_cmp : PeriodName → PeriodName → Ordering
period_cmp a b = ordering_then (int_cmp (last_day a) (last_day b)) (ordering_then (int_cmp (first_day a) (first_day b)) (name_cmp a b))

-- groups by element, option combination, attribute combination and period
abbrev pub group_cmp : Group → Group → Ordering
group_cmp a b =
    ordering_then (nat_cmp a.element b.element)
    (ordering_then (nat_cmp a.combo b.combo) (ordering_then (nat_cmp a.attribute b.attribute) (period_cmp a.period b.period)))

-- rows by group, approved position and order
abbrev pub key_cmp : RowKey → RowKey → Ordering
key_cmp a b = ordering_then (group_cmp a.group b.group) (ordering_then (nat_cmp a.position b.position) (nat_cmp a.order b.order))

abbrev pub row_cmp : Row → Row → Ordering
row_cmp a b = key_cmp (key_of a) (key_of b)
