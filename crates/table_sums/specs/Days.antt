-- Events before the days that are asked for, or up to them.
use Rattle.std.specs.Prelude.{Bool, true, false, int_lt, int_le}
use Rattle.table_rows.specs.declared.event.EventRow.{EventRow}
use Rattle.table_rows.specs.declared.event.EventsAsked.{EventsAsked}

-- an event occurred before the days or, with these, not after them
abbrev pub is_before : EventsAsked → Bool → EventRow → Bool
is_before asked false event = int_lt event.day asked.from_day
is_before asked true event = int_le event.day asked.to_day
