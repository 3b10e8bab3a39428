-- What a log leaves of one year, of the keys of that year alone.
use Rattle.std.proofs.Common.{◌≡◌, ◌∙◌, ◌≤◌, ℕ, true, List, [], Some, length, refl, sym, ap, ℤ}
use Rattle.std.specs.Prelude.{option_map}
use Rattle.std.specs.List.{filter, filter_map, list_all}
use Rattle.std.specs.Ordering.{int_eq}
use Rattle.dh_periods.proofs.TextLemmas.{and_then-some, map-some}
use Rattle.dh_changes.specs.declared.change.Change.{Change}
use Rattle.dh_changes.specs.declared.change.Write.{Write}
use Rattle.dh_changes.specs.declared.keys.ValueKey.{ValueKey}
use Rattle.dh_changes.specs.declared.keys.RegKey.{RegKey}
use Rattle.dh_metadata.specs.declared.held.Records.{Records}
use Rattle.dh_changes.specs.Facts.{Facts, facts_in}
use Rattle.table_rows.specs.declared.row.Row.{Row}
use Rattle.table_rows.specs.declared.row.RowKey.{RowKey}
use Rattle.table_rows.specs.declared.event.EventRow.{EventRow}
use Rattle.table_rows.specs.declared.event.RegRow.{RegRow}
use Rattle.table_rows.specs.Rows.{key_of}
use Rattle.table_rows.specs.Order.{key_cmp}
use Rattle.table_rows.specs.Store.{Contents, contents_in, is_store, have_own_places}
use Rattle.table_rows.proofs.OrderLemmas.{key_total}
use Rattle.table_sums.specs.Years.{period_year, day_year, is_row_in, is_event_in, is_reg_in, is_year_if_any}
use Rattle.table_sums.specs.YearParts.{in_year, listed_as}
use Rattle.table_sums.proofs.CutLemmas.{no-years, year-store}
use Rattle.table_build.specs.declared.events.EventPlace.{EventPlace}
use Rattle.table_build.specs.declared.regs.RegPlace.{RegPlace}
use Rattle.table_build.specs.InYear.{is_value_key_in, is_reg_key_in, is_place_in}
use Rattle.table_build.specs.Listed.{listed_in}
use Rattle.table_build.specs.Reading.{IsReadOf}
use Rattle.table_build.specs.Log.{writes_of, values_named, regs_named, events_named, with_others, is_of_days}
use Rattle.table_build.specs.Ordered.{in_order}
use Rattle.table_build.specs.Placed.{is_wanted}
use Rattle.table_build.specs.Values as values
use Rattle.table_build.specs.Regs as registrations
use Rattle.table_build.specs.Events as tracker
use Rattle.table_build.proofs.FilterLemmas.{filter_map-filter, in_order-filter}
use Rattle.table_build.proofs.OrderLemmas.{same-key, reg_total, same-reg}
use Rattle.table_build.proofs.OtherLemmas.{others-agree, regs-others, events-others, events-same, regs-same}
use Rattle.table_build.proofs.StoreLemmas.{listed-store, own-place}

module _ (r : Records) (facts : Facts) (year : ℤ) where
  row-year : (key : ValueKey) (row : Row) → values.row_of r facts key ≡ Some row → is_row_in year row ≡ is_value_key_in year key
  unfolding values.row_of values.row_with
  row-year key row e =
      let held = and_then-some (λ text. option_map (values.row_with r facts key text) (values.objects_of r key)) (facts.value key) row e in
      let objects = map-some (values.row_with r facts key held.0) (values.objects_of r key) row held.2 in
      ap (is_row_in year) (sym objects.2)

  pub rows-of-year : (all keys : List ValueKey) (rows : List Row) → keys ≡ filter (is_value_key_in year) all → rows ≡ values.rows_of r facts keys
      → rows ≡ filter (is_row_in year) (values.rows_of r facts all)
  unfolding values.rows_of
  rows-of-year all keys rows known is =
      is ∙ ap (values.rows_of r facts) known
      ∙ ap (in_order key_cmp key_of) (filter_map-filter (values.row_of r facts) (is_value_key_in year) (is_row_in year) all row-year)
      ∙ in_order-filter key_cmp key_total same-key (λ (key : RowKey). int_eq (period_year key.group.period) year) key_of
      (filter_map (values.row_of r facts) all)

  reg-year : (key : RegKey) (reg : RegRow) → registrations.reg_of r facts key ≡ Some reg → is_reg_in year reg ≡ is_reg_key_in year key
  unfolding registrations.reg_of registrations.reg_with
  reg-year key reg e =
      let held = and_then-some (λ day. option_map (registrations.reg_with r facts key day) (registrations.objects_of r key)) (facts.registration key) reg e in
      let objects = map-some (registrations.reg_with r facts key held.0) (registrations.objects_of r key) reg held.2 in
      ap (is_reg_in year) (sym objects.2)

  pub regs-of-year : (all keys : List RegKey) (regs : List RegRow) → keys ≡ filter (is_reg_key_in year) all → regs ≡ registrations.regs_of r facts keys
      → regs ≡ filter (is_reg_in year) (registrations.regs_of r facts all)
  unfolding registrations.regs_of
  regs-of-year all keys regs known is =
      is ∙ ap (registrations.regs_of r facts) known
      ∙ ap (in_order registrations.place_cmp registrations.place_of)
      (filter_map-filter (registrations.reg_of r facts) (is_reg_key_in year) (is_reg_in year) all reg-year)
      ∙ in_order-filter registrations.place_cmp reg_total same-reg (λ (place : RegPlace). int_eq (period_year place.period) year) registrations.place_of
      (filter_map (registrations.reg_of r facts) all)

  pub events-of-year : (all places : List EventPlace) (events : List EventRow) → places ≡ filter (is_place_in year) all
      → events ≡ filter_map (tracker.event_at r facts) places → events ≡ filter (is_event_in year) (filter_map (tracker.event_at r facts) all)
  events-of-year all places events known is =
      is ∙ ap (filter_map (tracker.event_at r facts)) known
      ∙ filter_map-filter (tracker.event_at r facts) (is_place_in year) (is_event_in year) all
      (λ place row e. ap (λ (p : EventPlace). is_year_if_any (day_year p.day) year) (own-place r facts place row e))

-- ---- the lists of a year

lists-of-year : (r : Records) (writes : List Write) (facts : Facts) (year : ℤ) (rows : List Row) (events : List EventRow) (regs : List RegRow)
    → facts ≡ facts_in writes
    → rows ≡ filter (is_row_in year) (values.rows_of r facts (values_named writes))
    → events ≡ filter (is_event_in year) (tracker.events_of r facts (events_named writes))
    → regs ≡ filter (is_reg_in year) (registrations.regs_of r facts (regs_named writes))
    → listed_as rows events regs ≡ in_year year (contents_in (listed_in r writes))
unfolding listed_in
lists-of-year r writes facts year rows events regs held row event reg =
    let rows_are = row ∙ ap (λ f. filter (is_row_in year) (values.rows_of r f (values_named writes))) held in
    let events_are = event ∙ ap (λ f. filter (is_event_in year) (tracker.events_of r f (events_named writes))) held in
    let regs_are = reg ∙ ap (λ f. filter (is_reg_in year) (registrations.regs_of r f (regs_named writes))) held in
    λ i. record { rows = rows_are i; events = events_are i; regs = regs_are i }

events-at : (r : Records) (facts : Facts) (year : ℤ) (ids : List (List ℕ)) (places : List EventPlace) (events : List EventRow)
    → places ≡ tracker.places_of facts ids → events ≡ filter (is_event_in year) (filter_map (tracker.event_at r facts) places)
    → events ≡ filter (is_event_in year) (tracker.events_of r facts ids)
unfolding tracker.events_of
events-at r facts year ids places events known is =
    is ∙ ap (λ ps. filter (is_event_in year) (filter_map (tracker.event_at r facts) ps)) known

-- the same, of what is read of the writes once, and of the values of the year
lists-of-reading : (r : Records) (changes : List Change) (known : Facts) (sets : List RegKey) (places : List EventPlace) (year : ℤ)
    (rows : List Row) (events : List EventRow) (regs : List RegRow) → IsReadOf changes known sets places
    → rows ≡ values.rows_of r (facts_in (writes_of changes)) (filter (is_value_key_in year) (values_named (writes_of changes)))
    → events ≡ filter (is_event_in year) (filter_map (tracker.event_at r known) places)
    → regs ≡ filter (is_reg_in year) (registrations.regs_of r known sets)
    → listed_as rows events regs ≡ in_year year (contents_in (listed_in r (writes_of changes)))
lists-of-reading r changes known sets places year rows events regs read row event reg =
    let writes = writes_of changes in
    let others = writes_of (with_others changes) in
    let same = others-agree changes in
    lists-of-year r writes (facts_in writes) year rows events regs refl
    (rows-of-year r (facts_in writes) year (values_named writes) (filter (is_value_key_in year) (values_named writes)) rows refl row)
    (events-at r known year (events_named others) places events read.event_places event
    ∙ ap (λ f. filter (is_event_in year) (tracker.events_of r f (events_named others))) read.holds
    ∙ ap (filter (is_event_in year)) (events-same r (facts_in others) (facts_in writes) same (events_named others)
    ∙ ap (tracker.events_of r (facts_in writes)) (events-others changes)))
    (reg ∙ ap (λ f. filter (is_reg_in year) (registrations.regs_of r f sets)) read.holds
    ∙ ap (filter (is_reg_in year)) (regs-same r (facts_in others) (facts_in writes) same sets
    ∙ ap (registrations.regs_of r (facts_in writes)) (read.reg_keys ∙ regs-others changes)))

-- the same, where what was read is seen by other names
pub year-lists : (r : Records) (seen changes : List Change) (known : Facts) (sets seen_sets : List RegKey) (places seen_places : List EventPlace)
    (year seen_year : ℤ) (rows : List Row) (events : List EventRow) (regs : List RegRow) → IsReadOf seen known sets places
    → seen ≡ changes → seen_sets ≡ sets → seen_places ≡ places → seen_year ≡ year
    → rows ≡ values.rows_of r (facts_in (writes_of seen)) (filter (is_wanted (Some seen_year)) (values_named (writes_of seen)))
    → events ≡ filter (is_event_in year) (filter_map (tracker.event_at r known) seen_places)
    → regs ≡ filter (is_reg_in year) (registrations.regs_of r known seen_sets)
    → listed_as rows events regs ≡ in_year year (contents_in (listed_in r (writes_of changes)))
year-lists r seen changes known sets seen_sets places seen_places year seen_year rows events regs read same sets_are places_are year_is row event reg =
    lists-of-reading r seen known sets places year rows events regs read
    (row ∙ ap (λ y. values.rows_of r (facts_in (writes_of seen)) (filter (is_value_key_in y) (values_named (writes_of seen)))) year_is)
    (event ∙ ap (λ ps. filter (is_event_in year) (filter_map (tracker.event_at r known) ps)) places_are)
    (reg ∙ ap (λ ks. filter (is_reg_in year) (registrations.regs_of r known ks)) sets_are)
    ∙ ap (λ cs. in_year year (contents_in (listed_in r (writes_of cs)))) same

-- are those of a store
pub store-of-year : (r : Records) (writes : List Write) (year : ℤ) (rows : List Row) (events : List EventRow) (regs : List RegRow)
    → length writes ≤ 4194304 → list_all is_of_days writes ≡ true → have_own_places (listed_in r writes).rows ≡ true
    → listed_as rows events regs ≡ in_year year (contents_in (listed_in r writes)) → is_store rows events regs [] ≡ true
store-of-year r writes year rows events regs few days own is =
    let all = listed_in r writes in
    ap (λ (c : Contents). is_store c.rows c.events c.regs []) is
    ∙ year-store all.rows all.events all.regs year (no-years all.rows all.events all.regs all.years (listed-store r writes few days own))
