-- The years of an update, each with its part if that was made beforehand.
use Rattle.std.specs.Prelude.{◌≡◌, Bool, true, ℤ, List, map, None, is_some, is_none, IfSome}
use Rattle.std.specs.List.{AllByRecursion, list_any}
use Rattle.table_rows.specs.Store.{Contents, Listed, contents_in, have_own_places}
use Rattle.table_sums.specs.YearParts.{YearPart, part_of}
use Rattle.table_build.specs.declared.slots.Slot.{Slot}

-- a year without a part
abbrev pub no_part : ℤ → Slot
no_part year = record { year = year; part = None }

abbrev pub slot_years : List Slot → List ℤ
slot_years slots = map (λ (slot : Slot). slot.year) slots

abbrev pub have_part : List Slot → Bool
have_part slots = list_any (λ (slot : Slot). is_some slot.part) slots

abbrev pub lack_part : List Slot → Bool
lack_part slots = list_any (λ (slot : Slot). is_none slot.part) slots

-- a part that is there is that of its year
abbrev pub IsSlotOf : Contents → Slot → Type 0
IsSlotOf all slot = IfSome slot.part (λ (part : YearPart). part ≡ part_of all slot.year)

-- a slot for each year of the lists, whose rows are those of a store
pub record AreSlots (listed : Listed) (slots : List Slot) : Type 0 where
  pub years : slot_years slots ≡ listed.years
  pub parts : AllByRecursion (IsSlotOf (contents_in listed)) slots
  pub own : have_own_places listed.rows ≡ true
