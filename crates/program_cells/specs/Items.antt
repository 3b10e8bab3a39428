-- What an item of a program indicator names, and what a subject has of it: an event alone, or the events of an enrollment, by day and
-- identifier.
use Rattle.std.specs.Prelude.{ℕ, ◌==◌, if◌then◌else◌, ℤ, List, [], ◌∷◌, ◌-◌, length, Option, Some, None, slice_get, option_map, option_and_then}
use Rattle.std.specs.List.{find}
use Rattle.std.specs.Option.{option_or}
use Rattle.dh_base.specs.Fractions.{Fraction, fraction_of, of_micros}
use Rattle.expr_lang.specs.declared.tree.Item.{Item}
use Rattle.expr_lang.specs.declared.tree.Item.TheVariants as item
use Rattle.expr_eval.specs.declared.indicator.PiItem.{PiItem}
use Rattle.expr_eval.specs.declared.indicator.PiItem.TheVariants as of_event
use Rattle.expr_eval.specs.Meaning.{zero_fraction}
use Rattle.dh_metadata.specs.declared.held.Records.{Records}
use Rattle.dh_metadata.specs.declared.kind.Kind.TheVariants as kind
use Rattle.dh_metadata.specs.declared.records.Constant.{Constant}
use Rattle.dh_metadata.specs.Objects.{find_of}
use Rattle.table_rows.specs.declared.event.EventRow.{EventRow}
use Rattle.table_rows.specs.declared.event.ItemValue.{ItemValue}
use Rattle.table_rows.specs.declared.event.ItemValue.TheVariants as held

-- ---- what an item names

abbrev pub named_element : Option ℕ → Option ℕ → PiItem
named_element (Some stage) (Some element) = of_event.Element stage element
named_element _ _ = of_event.Nothing

abbrev pub named_attribute : Option ℕ → PiItem
named_attribute (Some attribute) = of_event.Attribute attribute
named_attribute None = of_event.Nothing

abbrev pub named_constant : Option Constant → PiItem
named_constant (Some constant) = of_event.Constant constant.value
named_constant None = of_event.Nothing

-- an item by the numbers of what it names; one that names nothing, or that isn't an item of an event, is one that no event has
unfoldable pub named_item : Records → Item → PiItem
named_item r (item.StageElement stage element) = named_element (find_of r kind.ProgramStage stage) (find_of r kind.DataElement element)
named_item r (item.Attribute id) = named_attribute (find_of r kind.TrackedEntityAttribute id)
named_item r (item.Constant id) = named_constant (option_and_then (slice_get r.constants) (find_of r kind.Constant id))
named_item r item.EventDate = of_event.EventDate
named_item r item.EnrollmentDate = of_event.EnrollmentDate
named_item r other = of_event.Nothing

-- ---- what a subject has of it

abbrev pub day_number : ℤ → Fraction
day_number day = fraction_of day 1

-- a text counts as 0
abbrev pub number_of : ItemValue → Fraction
number_of (held.Number micros) = of_micros micros
number_of (held.Day day) = day_number day
number_of held.Plain = zero_fraction

-- the value of an element or attribute among those that are held
abbrev pub held_number : List (ℕ × ItemValue) → ℕ → Option Fraction
held_number entries n = option_map (λ (entry : ℕ × ItemValue). number_of entry.1) (find (λ (entry : ℕ × ItemValue). entry.0 == n) entries)

-- an event has an element only of its own stage
abbrev pub held_in : ℕ → ℕ → EventRow → Option Fraction
held_in stage element event = if event.stage == stage then held_number event.values element else None

-- the value of an element in the last event that has it
abbrev pub last_held : ℕ → ℕ → List EventRow → Option Fraction
last_held stage element [] = None
last_held stage element (event ∷ events) = option_or (last_held stage element events) (held_in stage element event)

abbrev pub first_of : List EventRow → Option EventRow
first_of subject = slice_get subject 0

abbrev pub last_of : List EventRow → Option EventRow
last_of subject = slice_get subject (length subject - 1)

-- attributes and the day of enrollment are those of the first event, the day is that of the last
unfoldable pub item_in : List EventRow → PiItem → Option Fraction
item_in subject (of_event.Constant micros) = Some (of_micros micros)
item_in subject (of_event.Element stage element) = last_held stage element subject
item_in subject (of_event.Attribute attribute) = option_and_then (λ (event : EventRow). held_number event.attributes attribute) (first_of subject)
item_in subject of_event.EventDate = option_map (λ (event : EventRow). day_number event.day) (last_of subject)
item_in subject of_event.EnrollmentDate = option_and_then (λ (event : EventRow). option_map day_number event.enrolled) (first_of subject)
item_in subject of_event.Nothing = None
