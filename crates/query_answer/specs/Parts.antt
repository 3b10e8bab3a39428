-- The periods and the units of a query as its cells take them.
use Rattle.std.specs.Prelude.{◌≡◌, ℕ, false, List, map}
use Rattle.std.specs.List.{All}
use Rattle.dh_periods.specs.declared.name.PeriodName.{PeriodName}
use Rattle.dh_metadata.specs.declared.held.Records.{Records}
use Rattle.cell_values.specs.Held.{AreCellUnits}
use Rattle.query_lang.specs.declared.plain.Query.{Query}
use Rattle.query_answer.specs.declared.parts.PeriodPart.{PeriodPart}
use Rattle.query_answer.specs.declared.parts.UnitPart.{UnitPart}
use Rattle.query_answer.specs.Rows.{Slot, slot_of, period_slots, unit_slots}

abbrev pub period_slot : PeriodPart → Slot PeriodName
period_slot part = slot_of part.label part.periods

abbrev pub unit_slot : UnitPart → Slot ℕ
unit_slot part = slot_of part.label part.units.units

-- units as the user sees them, each with all that is under it
pub record IsUnitPart (r : Records) (user : ℕ) (part : UnitPart) : Type 0 where
  pub units : AreCellUnits r user part.units
  pub alone : part.units.alone ≡ false

-- the parts are those of the query
pub record AreParts (r : Records) (user : ℕ) (query : Query) (period_parts : List PeriodPart) (unit_parts : List UnitPart) : Type 0 where
  pub periods : map period_slot period_parts ≡ period_slots query
  pub units : map unit_slot unit_parts ≡ unit_slots query
  pub seen : All (IsUnitPart r user) unit_parts
