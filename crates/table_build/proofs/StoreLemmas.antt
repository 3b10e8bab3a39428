-- The lists that a log leaves are those of a store.
use Rattle.std.proofs.Common.{◌≡◌, ◌∙◌, ℕ, ◌≤◌, true, List, ◌++◌, Option, Some, None, length, map, refl, sym, ap, arith, ℤ}
use Rattle.std.specs.Prelude.{option_map, slice_get}
use Rattle.std.specs.List.{filter_map, list_all}
use Rattle.std.specs.Ordering.{int_cmp}
use Rattle.std.specs.FinMap.{int_cmp-IsAntisymmetric}
use Rattle.std.proofs.lemmas.Bool.{and_from, le-leb}
use Rattle.std.proofs.lemmas.Cmp.{int_cmp_total}
use Rattle.std.proofs.lemmas.List.Elements.{All-from_recursion, recursion_from_All}
use Rattle.dh_periods.specs.Civil.{civil_of}
use Rattle.dh_periods.proofs.TextLemmas.{some_when, and_then-some, map-some}
use Rattle.dh_changes.specs.declared.change.Write.{Write}
use Rattle.dh_changes.specs.declared.keys.ValueKey.{ValueKey}
use Rattle.dh_changes.specs.declared.keys.RegKey.{RegKey}
use Rattle.dh_changes.specs.declared.tracker.Event.{Event}
use Rattle.dh_changes.specs.declared.tracker.Enrollment.{Enrollment}
use Rattle.dh_changes.specs.declared.tracker.Entity.{Entity}
use Rattle.dh_metadata.specs.declared.held.Records.{Records}
use Rattle.dh_metadata.specs.declared.names.ValueType.{ValueType}
use Rattle.dh_metadata.specs.declared.names.ValueType.TheVariants as value_type
use Rattle.dh_metadata.specs.declared.records.Element.{Element}
use Rattle.dh_metadata.specs.declared.records.Attribute.{Attribute}
use Rattle.dh_metadata.specs.declared.kind.Kind.TheVariants.{DataElement, TrackedEntityAttribute}
use Rattle.dh_metadata.specs.Objects.{find_of}
use Rattle.dh_records.specs.Values.{number_of, fits}
use Rattle.dh_changes.specs.Facts.{Facts, facts_in}
use Rattle.table_rows.specs.declared.row.Row.{Row}
use Rattle.table_rows.specs.declared.event.EventRow.{EventRow}
use Rattle.table_rows.specs.declared.event.RegRow.{RegRow}
use Rattle.table_rows.specs.declared.event.ItemValue.{ItemValue}
use Rattle.table_rows.specs.declared.event.ItemValue.TheVariants.{Number, Day, Plain}
use Rattle.table_rows.specs.Rows.{key_of}
use Rattle.table_rows.specs.Order.{key_cmp, row_cmp}
use Rattle.table_rows.specs.Events.{event_cmp, reg_cmp, is_day_if_any, is_value_with_day, has_day, have_days, has_days}
use Rattle.table_rows.specs.Store.{Listed, is_store, is_short, rises, have_own_places}
use Rattle.table_rows.proofs.OrderLemmas.{key_total}
use Rattle.table_build.specs.declared.events.EventPlace.{EventPlace}
use Rattle.table_build.specs.Log.{value_named, reg_named, event_named, values_named, regs_named, events_named, is_of_days}
use Rattle.table_build.specs.Items.{number_item, day_item, text_item, item_of, numbered, element_item, element_value, element_values, attribute_item}
use Rattle.table_build.specs.Items.{attribute_value, attribute_values}
use Rattle.table_build.specs.Values as values
use Rattle.table_build.specs.Regs as registrations
use Rattle.table_build.specs.Events as tracker
use Rattle.table_build.specs.Years.{years_of, row_year, reg_year, event_year}
use Rattle.table_build.specs.Listed.{listed_by, listed_in}
use Rattle.table_build.proofs.OrderedLemmas.{in_order-length, in_order-All, in_order-sorted}
use Rattle.table_build.proofs.OrderLemmas.{same-key, reg_total, same-reg, event_total, same-event}
use Rattle.table_build.proofs.EachLemmas.{filter_map-length, filter_map-each, every, list_all-each, sorted-given, rises-sorted}
use Rattle.table_build.proofs.DayLemmas.{civil-day}
use Rattle.table_build.proofs.FactLemmas.{HaveDays, facts-days}
use Rattle.dh_base.specs.Limits.{is_day}

-- ---- each list is in its order

rows-rise : (r : Records) (facts : Facts) (keys : List ValueKey) → rises row_cmp (values.rows_of r facts keys) ≡ true
unfolding values.rows_of
rows-rise r facts keys = rises-sorted row_cmp _ (in_order-sorted key_cmp key_of key_total same-key (filter_map (values.row_of r facts) keys))

regs-rise : (r : Records) (facts : Facts) (keys : List RegKey) → rises reg_cmp (registrations.regs_of r facts keys) ≡ true
unfolding registrations.regs_of
regs-rise r facts keys =
    rises-sorted reg_cmp _ (in_order-sorted registrations.place_cmp registrations.place_of reg_total same-reg (filter_map (registrations.reg_of r facts) keys))

abbrev pub row_place : EventRow → EventPlace
row_place row = tracker.event_place row.id row.day

pub own-place : (r : Records) (facts : Facts) (place : EventPlace) (row : EventRow) → tracker.event_at r facts place ≡ Some row → row_place row ≡ place
unfolding tracker.event_at tracker.event_with
own-place r facts place row e =
    let found =
    and_then-some (λ (event : Event). option_map (tracker.event_with r facts place event) (tracker.objects_of r event)) (facts.event place.id) row e in
    let objects = map-some (tracker.event_with r facts place found.0) (tracker.objects_of r found.0) row found.2 in
    ap row_place (sym objects.2)

events-rise : (r : Records) (facts : Facts) (ids : List (List ℕ)) → rises event_cmp (tracker.events_of r facts ids) ≡ true
unfolding tracker.events_of tracker.places_of
events-rise r facts ids =
    rises-sorted event_cmp _
    (sorted-given tracker.place_cmp row_place (tracker.event_at r facts) (own-place r facts) (tracker.places_of facts ids)
    (in_order-sorted tracker.place_cmp (λ place. place) event_total same-event (filter_map (tracker.place_of facts) ids)))

years-rise : (rows : List Row) (regs : List RegRow) (events : List EventRow) → rises int_cmp (years_of rows regs events) ≡ true
unfolding years_of
years-rise rows regs events =
    rises-sorted int_cmp _ (in_order-sorted int_cmp (λ year. year) int_cmp_total int_cmp-IsAntisymmetric
    (map row_year rows ++ (map reg_year regs ++ filter_map event_year events)))

-- ---- and not longer than the log

abbrev Fits : {X : Type 0} → List X → List Write → Type 0
Fits list writes = length list ≤ length writes

rows-fit : (r : Records) (facts : Facts) (writes : List Write) → Fits (values.rows_of r facts (values_named writes)) writes
unfolding values.rows_of
rows-fit r facts writes =
    let named = filter_map-length value_named writes in
    let held = filter_map-length (values.row_of r facts) (values_named writes) in
    let ordered = in_order-length key_cmp key_of (filter_map (values.row_of r facts) (values_named writes)) in
    omega arith

regs-fit : (r : Records) (facts : Facts) (writes : List Write) → Fits (registrations.regs_of r facts (regs_named writes)) writes
unfolding registrations.regs_of
regs-fit r facts writes =
    let named = filter_map-length reg_named writes in
    let held = filter_map-length (registrations.reg_of r facts) (regs_named writes) in
    let ordered = in_order-length registrations.place_cmp registrations.place_of (filter_map (registrations.reg_of r facts) (regs_named writes)) in
    omega arith

events-fit : (r : Records) (facts : Facts) (writes : List Write) → Fits (tracker.events_of r facts (events_named writes)) writes
unfolding tracker.events_of tracker.places_of
events-fit r facts writes =
    let named = filter_map-length event_named writes in
    let held = filter_map-length (tracker.place_of facts) (events_named writes) in
    let ordered = in_order-length tracker.place_cmp (λ place. place) (filter_map (tracker.place_of facts) (events_named writes)) in
    let rows = filter_map-length (tracker.event_at r facts) (tracker.places_of facts (events_named writes)) in
    omega arith

short : {X : Type 0} (list : List X) (writes : List Write) → Fits list writes → length writes ≤ 4194304 → is_short list ≡ true
short list writes fit few = le-leb (length list) 4194304 (omega arith)

-- ---- days

reg-day : (r : Records) (facts : Facts) → HaveDays facts → (key : RegKey) (reg : RegRow) → registrations.reg_of r facts key ≡ Some reg → is_day reg.day ≡ true
unfolding registrations.reg_of registrations.reg_with
reg-day r facts days key reg e =
    let held = and_then-some (λ day. option_map (registrations.reg_with r facts key day) (registrations.objects_of r key)) (facts.registration key) reg e in
    let objects = map-some (registrations.reg_with r facts key held.0) (registrations.objects_of r key) reg held.2 in
    ap (λ (x : RegRow). is_day x.day) (sym objects.2) ∙ days.registration key held.0 held.1

regs-days : (r : Records) (facts : Facts) → HaveDays facts → (keys : List RegKey)
    → list_all (λ (reg : RegRow). is_day reg.day) (registrations.regs_of r facts keys) ≡ true
unfolding registrations.regs_of
regs-days r facts days keys =
    list_all-each (λ (reg : RegRow). is_day reg.day) _
    (recursion_from_All _ _
    (in_order-All registrations.place_cmp registrations.place_of (λ (reg : RegRow). is_day reg.day ≡ true) _
    (All-from_recursion _ _ (filter_map-each (registrations.reg_of r facts) (λ key. Unit {0}) (λ (reg : RegRow). is_day reg.day ≡ true) (λ key reg all is.
    reg-day r facts days key reg is) keys (every keys)))))

numbered-day : (n : ℕ) (o : Option ItemValue) (v : ℕ × ItemValue) → ((w : ItemValue) → o ≡ Some w → is_value_with_day w ≡ true)
    → option_map (numbered n) o ≡ Some v → has_day v ≡ true
numbered-day n o v each e =
    let value = map-some (numbered n) o v e in
    ap has_day (sym value.2) ∙ each value.0 value.1

number-day : (kind : ValueType) (text : List ℕ) (v : ItemValue) → number_item kind text ≡ Some v → is_value_with_day v ≡ true
unfolding number_item
number-day kind text v e = let number = map-some Number (number_of kind text) v e in ap is_value_with_day (sym number.2)

date-day : (text : List ℕ) (v : ItemValue) → day_item text ≡ Some v → is_value_with_day v ≡ true
unfolding day_item
date-day text v e = let day = map-some Day (civil_of text) v e in ap is_value_with_day (sym day.2) ∙ civil-day text day.0 day.1

text-day : (text : List ℕ) (v : ItemValue) → text_item text ≡ Some v → is_value_with_day v ≡ true
unfolding text_item
text-day text v e = let is = some_when (fits value_type.Text text) Plain v e in ap is_value_with_day (sym is.1)

item-day : (kind : ValueType) (text : List ℕ) (v : ItemValue) → item_of kind text ≡ Some v → is_value_with_day v ≡ true
unfolding item_of
item-day value_type.Number text v e = number-day value_type.Number text v e
item-day value_type.Integer text v e = number-day value_type.Integer text v e
item-day value_type.IntegerPositive text v e = number-day value_type.IntegerPositive text v e
item-day value_type.IntegerNegative text v e = number-day value_type.IntegerNegative text v e
item-day value_type.IntegerZeroOrPositive text v e = number-day value_type.IntegerZeroOrPositive text v e
item-day value_type.Percentage text v e = number-day value_type.Percentage text v e
item-day value_type.UnitInterval text v e = number-day value_type.UnitInterval text v e
item-day value_type.Boolean text v e = number-day value_type.Boolean text v e
item-day value_type.TrueOnly text v e = number-day value_type.TrueOnly text v e
item-day value_type.Date text v e = date-day text v e
item-day value_type.Text text v e = text-day text v e

element-day : (r : Records) (pair : List ℕ × List ℕ) (v : ℕ × ItemValue) → element_value r pair ≡ Some v → has_day v ≡ true
unfolding element_value element_item
element-day r pair v e =
    let element = and_then-some (λ element. option_map (numbered element) (element_item r pair.1 element)) (find_of r DataElement pair.0) v e in
    numbered-day element.0 (element_item r pair.1 element.0) v
    (λ w is. let found =
    and_then-some (λ (found : Element). item_of found.value_type pair.1) (slice_get r.data_elements element.0) w is in item-day found.0.value_type pair.1 w
    found.2)
    element.2

attribute-day : (r : Records) (pair : List ℕ × List ℕ) (v : ℕ × ItemValue) → attribute_value r pair ≡ Some v → has_day v ≡ true
unfolding attribute_value attribute_item
attribute-day r pair v e =
    let attribute =
    and_then-some (λ attribute. option_map (numbered attribute) (attribute_item r pair.1 attribute)) (find_of r TrackedEntityAttribute pair.0) v e in
    numbered-day attribute.0 (attribute_item r pair.1 attribute.0) v
    (λ w is. let found =
    and_then-some (λ (found : Attribute). item_of found.value_type pair.1) (slice_get r.tracked_entity_attributes attribute.0) w is in item-day
    found.0.value_type pair.1 w found.2)
    attribute.2

elements-days : (r : Records) (pairs : List (List ℕ × List ℕ)) → have_days (element_values r pairs) ≡ true
unfolding element_values
elements-days r pairs =
    list_all-each has_day _ (filter_map-each (element_value r) (λ pair. Unit {0}) (λ v. has_day v ≡ true) (λ pair v all is. element-day r pair v is) pairs
    (every pairs))

attributes-days : (r : Records) (pairs : List (List ℕ × List ℕ)) → have_days (attribute_values r pairs) ≡ true
unfolding attribute_values
attributes-days r pairs =
    list_all-each has_day _ (filter_map-each (attribute_value r) (λ pair. Unit {0}) (λ v. has_day v ≡ true) (λ pair v all is. attribute-day r pair v is) pairs
    (every pairs))

entity-days : (r : Records) (found : Option Entity) → have_days (tracker.entity_values r found) ≡ true
unfolding tracker.entity_values
entity-days r None = refl
entity-days r (Some entity) = attributes-days r entity.attributes

enrolled-day : (facts : Facts) → HaveDays facts → (event : Event) (found : Option Enrollment) → tracker.enrollment_of facts event ≡ found
    → is_day_if_any (tracker.enrolled_day found) ≡ true
unfolding tracker.enrolled_day tracker.enrollment_of
enrolled-day facts days event None is = refl
enrolled-day facts days event (Some enrollment) is =
    let id = and_then-some facts.enrollment event.enrollment enrollment is in
    days.enrollment id.0 enrollment id.2

place-day : (facts : Facts) → HaveDays facts → (id : List ℕ) (place : EventPlace) → tracker.place_of facts id ≡ Some place → is_day place.day ≡ true
unfolding tracker.place_of
place-day facts days id place e =
    let found = and_then-some (λ (event : Event). option_map (tracker.event_place id) event.occurred) (facts.event id) place e in
    let day = map-some (tracker.event_place id) found.0.occurred place found.2 in
    ap (λ (p : EventPlace). is_day p.day) (sym day.2) ∙ ap is_day_if_any (sym day.1) ∙ days.event id found.0 found.1

event-days : (r : Records) (facts : Facts) → HaveDays facts → (place : EventPlace) (row : EventRow) → is_day place.day ≡ true
    → tracker.event_at r facts place ≡ Some row → has_days row ≡ true
unfolding tracker.event_at tracker.event_with has_days
event-days r facts days place row day e =
    let found =
    and_then-some (λ (event : Event). option_map (tracker.event_with r facts place event) (tracker.objects_of r event)) (facts.event place.id) row e in
    let objects = map-some (tracker.event_with r facts place found.0) (tracker.objects_of r found.0) row found.2 in
    ap has_days (sym objects.2)
    ∙ and_from _ _ day
    (and_from _ _ (enrolled-day facts days found.0 (tracker.enrollment_of facts found.0) refl)
    (and_from _ _ (elements-days r found.0.values) (entity-days r (tracker.entity_of facts found.0))))

events-days : (r : Records) (facts : Facts) → HaveDays facts → (ids : List (List ℕ)) → list_all has_days (tracker.events_of r facts ids) ≡ true
unfolding tracker.events_of tracker.places_of
events-days r facts days ids =
    list_all-each has_days _
    (filter_map-each (tracker.event_at r facts) (λ (place : EventPlace). is_day place.day ≡ true) (λ row. has_days row ≡ true) (λ place row day is.
    event-days r facts days place row day is) (tracker.places_of facts ids)
    (recursion_from_All _ _
    (in_order-All tracker.place_cmp (λ place. place) (λ (place : EventPlace). is_day place.day ≡ true) _
    (All-from_recursion _ _ (filter_map-each (tracker.place_of facts) (λ id. Unit {0}) (λ (place : EventPlace). is_day place.day ≡ true) (λ id place all is.
    place-day facts days id place is) ids (every ids))))))

-- ---- the lists are those of a store

abbrev pub IsStore : Listed → Type 0
IsStore lists = is_store lists.rows lists.events lists.regs lists.years ≡ true

listed-by : (r : Records) (facts : Facts) (writes : List Write) → length writes ≤ 4194304 → HaveDays facts
    → have_own_places (values.rows_of r facts (values_named writes)) ≡ true → IsStore (listed_by r facts writes)
unfolding is_store
listed-by r facts writes few days own =
    and_from _ _ (short _ writes (rows-fit r facts writes) few)
    (and_from _ _ (short _ writes (events-fit r facts writes) few)
    (and_from _ _ (short _ writes (regs-fit r facts writes) few)
    (and_from _ _ (rows-rise r facts (values_named writes))
    (and_from _ _ (events-rise r facts (events_named writes))
    (and_from _ _ (regs-rise r facts (regs_named writes))
    (and_from _ _ (years-rise _ _ _)
    (and_from _ _ (events-days r facts days (events_named writes))
    (and_from _ _ (regs-days r facts days (regs_named writes)) own))))))))

pub listed-store : (r : Records) (writes : List Write) → length writes ≤ 4194304 → list_all is_of_days writes ≡ true
    → have_own_places (listed_in r writes).rows ≡ true → IsStore (listed_in r writes)
unfolding listed_in
listed-store r writes few days own = listed-by r (facts_in writes) writes few (facts-days writes days) own

-- ---- lists that were made in turn

pub made : (r : Records) (writes : List Write) (facts : Facts) (keys : List ValueKey) (ids : List (List ℕ)) (names : List RegKey) (rows : List Row)
    (events : List EventRow) (regs : List RegRow) (years : List ℤ)
    → facts ≡ facts_in writes
    → keys ≡ values_named writes → rows ≡ values.rows_of r facts keys
    → ids ≡ events_named writes → events ≡ tracker.events_of r facts ids
    → names ≡ regs_named writes → regs ≡ registrations.regs_of r facts names
    → years ≡ years_of rows regs events
    → ◌≡◌ {A = Listed} (record { rows = rows; events = events; regs = regs; years = years }) (listed_in r writes)
unfolding listed_in
made r writes facts keys ids names rows events regs years held key row id event name reg year =
    let rows_are : rows ≡ values.rows_of r (facts_in writes) (values_named writes) = row ∙ ap (λ f. values.rows_of r f keys) held
    ∙ ap (values.rows_of r (facts_in writes)) key in
    let events_are : events ≡ tracker.events_of r (facts_in writes) (events_named writes) = event ∙ ap (λ f. tracker.events_of r f ids) held
    ∙ ap (tracker.events_of r (facts_in writes)) id in
    let regs_are : regs ≡ registrations.regs_of r (facts_in writes) (regs_named writes) = reg ∙ ap (λ f. registrations.regs_of r f names) held
    ∙ ap (registrations.regs_of r (facts_in writes)) name in
    let years_are : years ≡ (listed_by r (facts_in writes) writes).years =
    year ∙ ap (λ list. years_of list regs events) rows_are
    ∙ ap (λ list. years_of (values.rows_of r (facts_in writes) (values_named writes)) list events) regs_are
    ∙ ap (years_of (values.rows_of r (facts_in writes) (values_named writes)) (registrations.regs_of r (facts_in writes) (regs_named writes))) events_are in
    λ i. record { rows = rows_are i; events = events_are i; regs = regs_are i; years = years_are i }

-- they are those of a store
pub made-store : (r : Records) (writes : List Write) (rows : List Row) (events : List EventRow) (regs : List RegRow) (years : List ℤ) → length writes ≤ 4194304
    → list_all is_of_days writes ≡ true
    → have_own_places rows ≡ true
    → ◌≡◌ {A = Listed} (record { rows = rows; events = events; regs = regs; years = years }) (listed_in r writes) → is_store rows events regs years ≡ true
made-store r writes rows events regs years few days own is =
    ap (λ (lists : Listed). is_store lists.rows lists.events lists.regs lists.years) is
    ∙ listed-store r writes few days (sym (ap (λ (lists : Listed). have_own_places lists.rows) is) ∙ own)

pub years-seen : (years : List ℤ) (rows seen_rows : List Row) (regs seen_regs : List RegRow) (events seen_events : List EventRow)
    → years ≡ years_of seen_rows seen_regs seen_events
    → seen_rows ≡ rows → seen_regs ≡ regs → seen_events ≡ events → years ≡ years_of rows regs events
years-seen years rows seen_rows regs seen_regs events seen_events is row reg event =
    is ∙ ap (λ list. years_of list seen_regs seen_events) row ∙ ap (λ list. years_of rows list seen_events) reg ∙ ap (years_of rows regs) event
