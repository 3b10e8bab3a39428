-- Events and registrations.
use Rattle.std.specs.Prelude.{ℕ, Bool, true, ◌&&◌, nat_eq, ℤ, int_le, List, Option, Some, None}
use Rattle.std.specs.List.{filter, list_all}
use Rattle.std.specs.Cmp.Lexicographic.{slice_cmp}
use Rattle.std.specs.Ordering.{ordering_then, nat_cmp, int_cmp}
use Rattle.std.specs.declared.cmp.Ordering.{Ordering}
use Rattle.table_rows.specs.declared.event.EventRow.{EventRow}
use Rattle.table_rows.specs.declared.event.RegRow.{RegRow}
use Rattle.table_rows.specs.declared.event.ItemValue.{ItemValue}
use Rattle.table_rows.specs.declared.event.ItemValue.TheVariants.{Number, Day, Plain}
use Rattle.table_rows.specs.Order.{period_cmp}
use Rattle.dh_base.specs.Limits.{is_day}

-- events by day and identifier
abbrev pub event_cmp : EventRow → EventRow → Ordering
event_cmp a b = ordering_then (int_cmp a.day b.day) (slice_cmp nat_cmp a.id b.id)

-- registrations by data set, period, order and attribute combination
abbrev pub reg_cmp : RegRow → RegRow → Ordering
reg_cmp a b =
    ordering_then (nat_cmp a.set b.set) (ordering_then (period_cmp a.period b.period)
    (ordering_then (nat_cmp a.order b.order) (nat_cmp a.attribute b.attribute)))

-- an event is of a program and of a day from the one to the other, both counted
abbrev pub is_event_of : ℕ → ℤ → ℤ → EventRow → Bool
is_event_of program from to event = nat_eq event.program program && (int_le from event.day && int_le event.day to)

abbrev pub events_of : ℕ → ℤ → ℤ → List EventRow → List EventRow
events_of program from to events = filter (is_event_of program from to) events

abbrev pub is_reg_of : ℕ → RegRow → Bool
is_reg_of set reg = nat_eq reg.set set

abbrev pub regs_of : ℕ → List RegRow → List RegRow
regs_of set regs = filter (is_reg_of set) regs

-- ---- days

abbrev pub is_day_if_any : Option ℤ → Bool
is_day_if_any None = true
is_day_if_any (Some day) = is_day day

abbrev pub is_value_with_day : ItemValue → Bool
is_value_with_day (Number micros) = true
is_value_with_day (Day day) = is_day day
is_value_with_day Plain = true

abbrev pub has_day : ℕ × ItemValue → Bool
has_day entry = is_value_with_day entry.1

abbrev pub have_days : List (ℕ × ItemValue) → Bool
have_days entries = list_all has_day entries

-- the days of an event lie there
unfoldable pub has_days : EventRow → Bool
has_days event = is_day event.day && (is_day_if_any event.enrolled && (have_days event.values && have_days event.attributes))
