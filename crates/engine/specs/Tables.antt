-- The tables of changes, and tables as they are served.
use Rattle.std.specs.Prelude.{ℤ, List, [], Option, None, Some, option_map}
use Rattle.dh_changes.specs.declared.change.Change.{Change}
use Rattle.dh_metadata.specs.declared.held.Records.{Records}
use Rattle.table_rows.specs.Store.{Contents, Listed, contents_in}
use Rattle.table_sums.specs.YearParts.{YearPart, YearParts, rows_together, events_together, regs_together, years_in}
use Rattle.table_build.specs.Listed.{listed_in}
use Rattle.table_latest.specs.Latest.{LatestPart, Overlaid, rows_over, events_over, regs_over}
use Rattle.change_log.specs.Log.{writes_of}

-- the rows, events and registrations that these changes leave
unfoldable pub tables_of : Records → List Change → Contents
tables_of meta changes = contents_in (listed_in meta (writes_of changes))

-- the years in which they leave one, ascending
unfoldable pub years_of : Records → List Change → List ℤ
years_of meta changes = (listed_in meta (writes_of changes)).years

-- what yearly parts hold together
abbrev pub listed_of : List YearPart → Listed
listed_of parts = record { rows = rows_together parts; events = events_together parts; regs = regs_together parts; years = years_in parts }

-- what they hold under a latest part, if one lies over them
abbrev pub listed_under : List YearPart → Option Overlaid → Listed
listed_under parts None = listed_of parts
listed_under parts (Some over) = record {
  rows = rows_over (contents_in over.base) over.latest;
  events = events_over (contents_in over.base) over.latest;
  regs = regs_over (contents_in over.base) over.latest;
  years = over.base.years;
}

-- tables that are served: all that they hold, and of what they are made, which is yearly parts and a latest part if one lies over them
pub record Served : Type 0 where
  pub all : Listed
  pub base : YearParts
  pub latest : Option LatestPart

-- yearly parts and what lies over them, if something does, as tables that are served
abbrev pub served_from : YearParts → Option Overlaid → Served
served_from base over =
    record { all = listed_under base.parts over; base = base; latest = option_map (λ (laid : Overlaid). laid.latest) over }

-- the tables of no changes
abbrev pub no_tables : Served
no_tables = served_from (record { parts = []; base_cut = 0 }) None
