-- Tables cut by year.
use Rattle.std.specs.Prelude.{◌≡◌, ℕ, Bool, true, ℤ, List, map}
use Rattle.std.specs.List.{AllByRecursion, filter}
use Rattle.table_rows.specs.declared.row.Row.{Row}
use Rattle.table_rows.specs.declared.event.EventRow.{EventRow}
use Rattle.table_rows.specs.declared.event.RegRow.{RegRow}
use Rattle.table_rows.specs.Cells.{gathered}
use Rattle.table_rows.specs.Order.{row_cmp}
use Rattle.table_rows.specs.Events.{event_cmp, reg_cmp}
use Rattle.table_rows.specs.Store.{Contents, is_store}
use Rattle.table_sums.specs.Ascending.{ascending}
use Rattle.table_sums.specs.Years.{is_row_in, is_event_in, is_reg_in, have_years}

-- a year and what a part of the tables holds for it
pub record YearPart : Type 0 where
  pub year : ℤ
  pub contents : Contents

-- the tables: their parts, and how many changes of the log these stand for
pub record YearParts : Type 0 where
  pub parts : List YearPart
  pub base_cut : ℕ

abbrev pub years_in : List YearPart → List ℤ
years_in parts = map (λ (part : YearPart). part.year) parts

-- what parts hold together, each list in its order
abbrev pub rows_together : List YearPart → List Row
rows_together parts = ascending row_cmp (gathered (λ (part : YearPart). part.contents.rows) parts)

abbrev pub events_together : List YearPart → List EventRow
events_together parts = ascending event_cmp (gathered (λ (part : YearPart). part.contents.events) parts)

abbrev pub regs_together : List YearPart → List RegRow
regs_together parts = ascending reg_cmp (gathered (λ (part : YearPart). part.contents.regs) parts)

abbrev pub together : List YearPart → Contents
together parts = record { rows = rows_together parts; events = events_together parts; regs = regs_together parts }

abbrev pub listed_as : List Row → List EventRow → List RegRow → Contents
listed_as rows events regs = record { rows = rows; events = events; regs = regs }

-- what is of a year
abbrev pub in_year : ℤ → Contents → Contents
in_year year all = record { rows = filter (is_row_in year) all.rows; events = filter (is_event_in year) all.events; regs = filter (is_reg_in year) all.regs }

abbrev pub part_with : ℤ → Contents → YearPart
part_with year contents = record { year = year; contents = contents }

-- the part of a year
abbrev pub part_of : Contents → ℤ → YearPart
part_of all year = part_with year (in_year year all)

-- a list cut by year: of each year its own members
abbrev pub cut_by : {X : Type 0} → (ℤ → X → Bool) → List ℤ → List X → List (List X)
cut_by is_in years xs = map (λ year. filter (is_in year) xs) years

-- contents are those of a store with these years, and each row, event and registration is of one of them
pub record AreOfYears (all : Contents) (years : List ℤ) : Type 0 where
  pub store : is_store all.rows all.events all.regs years ≡ true
  pub rows : have_years is_row_in years all.rows ≡ true
  pub events : have_years is_event_in years all.events ≡ true
  pub regs : have_years is_reg_in years all.regs ≡ true

-- what parts hold together is of their years, and each holds what of it is of its own year
pub record ArePartitions (parts : List YearPart) : Type 0 where
  pub whole : AreOfYears (together parts) (years_in parts)
  pub each : AllByRecursion (λ (part : YearPart). part.contents ≡ in_year part.year (together parts)) parts
