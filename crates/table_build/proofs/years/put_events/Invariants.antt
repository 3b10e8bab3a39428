use Rattle.std.proofs.Common.{◌≡◌, drop}
use Rattle.std.specs.List.{filter_map}
use Rattle.std.specs.Ordering.{int_cmp}
use Rattle.table_build.specs.Ordered.{put_all}
use Rattle.table_build.specs.Years.{event_year}
use Rattle.table_build.proofs.years.put_events.Given as goal

abbrev pub invariant-loop-event : goal.invariant-loop-event
invariant-loop-event l =
    put_all int_cmp (λ year. year) l.fn.years.entries (filter_map event_year l.events)
    ≡ put_all int_cmp (λ year. year) l.years.entries (filter_map event_year (drop l.event-index l.events))
