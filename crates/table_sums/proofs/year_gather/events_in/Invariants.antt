use Rattle.std.proofs.Common.{◌≡◌, map, take}
use Rattle.table_rows.specs.Cells.{gathered}
use Rattle.table_rows.specs.Events.{events_of}
use Rattle.table_sums.specs.YearParts.{YearPart}
use Rattle.table_sums.proofs.year_gather.events_in.Given as goal

abbrev pub invariant-loop-place : goal.invariant-loop-place
invariant-loop-place l =
    map (λ event. event.now) l.events.items
    ≡ gathered (λ (part : YearPart). events_of l.asked.program l.asked.from_day l.asked.to_day part.contents.events) (take l.place l.parts)
