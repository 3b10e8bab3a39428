-- A latest part of keys that cover what changed leads from the tables of a log to those of a longer one.
use Rattle.std.proofs.Common.{◌≡◌, ◌∙◌, ℕ, ◌≤◌, Bool, true, not, List, [], ◌∷◌, Some, length, refl, sym, ap, subst, arith, Ordering}
use Rattle.std.specs.Prelude.{option_map}
use Rattle.std.specs.Cmp.{IsTotalOrder}
use Rattle.std.specs.Cmp.Lexicographic.{slice_cmp}
use Rattle.std.specs.FinMap.{IsAntisymmetric, nat_cmp-IsAntisymmetric, slice_cmp-IsAntisymmetric}
use Rattle.std.specs.List.{filter, filter_map, list_all}
use Rattle.std.specs.List.Sorted.{IsStrictlySortedBy}
use Rattle.std.specs.Ordering.{nat_cmp, is_eq}
use Rattle.std.proofs.lemmas.Bool.{and_from, le-leb, leb-true}
use Rattle.std.proofs.lemmas.List.Kept.{IsStrictlySortedBy-filter}
use Rattle.dh_changes.specs.declared.change.Write.{Write}
use Rattle.dh_changes.specs.declared.keys.ValueKey.{ValueKey}
use Rattle.dh_changes.specs.declared.keys.RegKey.{RegKey}
use Rattle.org_tree.specs.Units.{IsTree, UnitRow, order_of}
use Rattle.dh_metadata.specs.declared.held.Records.{Records}
use Rattle.dh_changes.specs.Facts.{Facts, facts_in}
use Rattle.dh_records.specs.Access.{tree}
use Rattle.dh_base.specs.Limits.{is_day}
use Rattle.table_rows.specs.declared.event.EventRow.{EventRow}
use Rattle.table_rows.specs.declared.event.RegRow.{RegRow}
use Rattle.table_rows.specs.Events.{event_cmp, reg_cmp, has_days}
use Rattle.table_rows.specs.Order.{row_cmp}
use Rattle.table_rows.specs.Store.{Contents, contents_in, is_short, is_store, rises}
use Rattle.table_rows.proofs.OrderLemmas.{row_total}
use Rattle.table_rows.proofs.RiseLemmas.{sorted_from_rises}
use Rattle.table_rows.proofs.RunLemmas.{every-filter}
use Rattle.table_rows.proofs.StoreLemmas.{store-holds}
use Rattle.table_sums.proofs.YearPartLemmas.{event_total, reg_total}
use Rattle.table_sums.proofs.YearLemmas.{each-true}
use Rattle.table_build.specs.declared.values.ValueObjects.{ValueObjects}
use Rattle.table_build.specs.declared.regs.RegObjects.{RegObjects}
use Rattle.table_build.specs.Listed.{listed_in}
use Rattle.table_build.specs.Ordered.{in_order}
use Rattle.table_build.specs.Log.{is_of_days, values_named, regs_named, events_named}
use Rattle.table_build.specs.Values as values
use Rattle.table_build.specs.Regs as registrations
use Rattle.table_build.specs.Events as tracker
use Rattle.table_build.proofs.EachLemmas.{list_all-each, rises-sorted}
use Rattle.table_build.proofs.KeyLemmas.{StandsTree, rows-own}
use Rattle.table_build.proofs.OrderLemmas.{same-reg}
use Rattle.table_build.proofs.OrderedLemmas.{in_order-sorted}
use Rattle.table_build.proofs.StoreLemmas.{listed-store}
use Rattle.table_latest.specs.declared.places.RowPlace.{RowPlace}
use Rattle.table_latest.specs.declared.places.RegPlace.{RegPlace}
use Rattle.table_latest.specs.Keys.{is_among, place_of, place_cmp, reg_place_of, reg_place_cmp}
use Rattle.table_latest.specs.Latest.{AreInOrder, LatestPart, Touched, is_event_touched, is_reg_touched, is_row_touched}
use Rattle.table_latest.specs.Later.{LeadsTo}
use Rattle.table_latest.proofs.GapLemmas.{filter-shorter, same-place}
use Rattle.table_latest.proofs.SearchLemmas.{id_total, place_total, reg_place_total}
use Rattle.latest_build.specs.Covers.{Covers}
use Rattle.latest_build.specs.Places.{event_ids, event_row, held_by, reg_place, reg_places, touched_of, value_place, value_places}
use Rattle.latest_build.proofs.KeyLemmas.{events-list, events-placed, regs-list, regs-placed, rows-list, values-placed}
use Rattle.latest_build.proofs.ListLemmas.{changed-is, from-contains, same-is}

-- ---- the orders of keys tell all keys apart

pub one-place : IsAntisymmetric place_cmp
one-place a b e = same-place a b (ap is_eq e)

one-reg_place : IsAntisymmetric reg_place_cmp
one-reg_place a b e =
    let same = same-reg (record { set = a.set; period = a.period; order = a.order; attribute = a.attribute })
    (record { set = b.set; period = b.period; order = b.order; attribute = b.attribute }) e in
    λ i. record { set = (same i).set; period = (same i).period; order = (same i).order; attribute = (same i).attribute }

pub one-id : IsAntisymmetric (slice_cmp nat_cmp)
one-id = slice_cmp-IsAntisymmetric nat_cmp-IsAntisymmetric

given-all : (ids : List (List ℕ)) → filter_map (λ id. Some id) ids ≡ ids
given-all [] = refl
given-all (id ∷ ids) = ap (λ v. id ∷ v) (given-all ids)

-- each list of keys is in its order

pub places-ordered : (r : Records) (facts : Facts) (keys : List ValueKey) → IsStrictlySortedBy place_cmp (value_places r facts keys)
unfolding value_places
places-ordered r facts keys = in_order-sorted place_cmp (λ (p : RowPlace). p) place_total one-place (filter_map (value_place r facts) keys)

reg_places-ordered : (r : Records) (facts : Facts) (names : List RegKey) → IsStrictlySortedBy reg_place_cmp (reg_places r facts names)
unfolding reg_places
reg_places-ordered r facts names = in_order-sorted reg_place_cmp (λ (p : RegPlace). p) reg_place_total one-reg_place (filter_map (reg_place r facts) names)

ids-ordered : (ids : List (List ℕ)) → IsStrictlySortedBy (slice_cmp nat_cmp) (event_ids ids)
unfolding event_ids
ids-ordered ids = in_order-sorted (slice_cmp nat_cmp) (λ (id : List ℕ). id) id_total one-id ids

pub touched-ordered : (r : Records) (facts : Facts) (keys : List ValueKey) (ids : List (List ℕ)) (names : List RegKey)
    → AreInOrder (touched_of r facts keys ids names)
touched-ordered r facts keys ids names =
    record { rows = places-ordered r facts keys; events = ids-ordered ids; regs = reg_places-ordered r facts names }

-- where a key stands depends on the units alone

abbrev value_on : ValueKey → List UnitRow → ValueObjects → RowPlace
value_on key units objects = record {
  group = record { element = objects.element; combo = objects.combo; attribute = objects.attribute; period = key.period };
  order = order_of units objects.unit;
}

value-place-as : (r : Records) (before after : Facts) (key : ValueKey) → tree before r ≡ tree after r → value_place r before key ≡ value_place r after key
unfolding value_place
value-place-as r before after key same = ap (λ (units : List UnitRow). option_map (value_on key units) (values.objects_of r key)) same

abbrev reg_on : RegKey → List UnitRow → RegObjects → RegPlace
reg_on key units objects = record { set = objects.set; period = key.period; order = order_of units objects.unit; attribute = objects.attribute }

reg-place-as : (r : Records) (before after : Facts) (key : RegKey) → tree before r ≡ tree after r → reg_place r before key ≡ reg_place r after key
unfolding reg_place
reg-place-as r before after key same = ap (λ (units : List UnitRow). option_map (reg_on key units) (registrations.objects_of r key)) same

module _ (r : Records) (writes : List Write) (stands : StandsTree r (facts_in writes)) (keys : List ValueKey) (ids : List (List ℕ)) (names : List RegKey) where
  -- what the keys hold is what is touched of all

  rows-changed : filter (is_row_touched (touched_of r (facts_in writes) keys ids names)) (values.rows_of r (facts_in writes) (values_named writes))
      ≡ values.rows_of r (facts_in writes) keys
  unfolding value_places
  rows-changed =
      changed-is row_cmp row_total place_cmp place_total one-place place_of (value_place r (facts_in writes)) keys (values.row_of r (facts_in writes))
      (values_named writes) (values.rows_of r (facts_in writes) (values_named writes)) (values.rows_of r (facts_in writes) keys) (values-placed r writes stands)
      (rows-list r (facts_in writes) stands (values_named writes)) (rows-list r (facts_in writes) stands keys)

  regs-changed : filter (is_reg_touched (touched_of r (facts_in writes) keys ids names)) (registrations.regs_of r (facts_in writes) (regs_named writes))
      ≡ registrations.regs_of r (facts_in writes) names
  unfolding reg_places
  regs-changed =
      changed-is reg_cmp reg_total reg_place_cmp reg_place_total one-reg_place reg_place_of (reg_place r (facts_in writes)) names
      (registrations.reg_of r (facts_in writes)) (regs_named writes) (registrations.regs_of r (facts_in writes) (regs_named writes))
      (registrations.regs_of r (facts_in writes) names) (regs-placed r writes stands) (regs-list r (facts_in writes) stands (regs_named writes))
      (regs-list r (facts_in writes) stands names)

  events-changed : filter (is_event_touched (touched_of r (facts_in writes) keys ids names)) (tracker.events_of r (facts_in writes) (events_named writes))
      ≡ tracker.events_of r (facts_in writes) ids
  unfolding event_ids
  events-changed =
      subst (λ (list : List (List ℕ)). filter (is_event_touched (record {
        rows = value_places r (facts_in writes) keys;
        events = in_order (slice_cmp nat_cmp) (λ id. id) list;
        regs = reg_places r (facts_in writes) names;
      })) (tracker.events_of r (facts_in writes) (events_named writes)) ≡ tracker.events_of r (facts_in writes) ids) (given-all ids)
      (changed-is event_cmp event_total (slice_cmp nat_cmp) id_total one-id (λ (x : EventRow). x.id) (λ (id : List ℕ). Some id) ids
      (event_row r (facts_in writes)) (events_named writes) (tracker.events_of r (facts_in writes) (events_named writes))
      (tracker.events_of r (facts_in writes) ids) (events-placed r writes) (events-list r (facts_in writes) (events_named writes))
      (events-list r (facts_in writes) ids))

  module _ (base : List Write) (cover : Covers r (facts_in base) (facts_in writes) keys ids names) where
    stood : StandsTree r (facts_in base)
    stood = record { is_tree = subst IsTree (sym cover.units) stands.is_tree; numbers = ap length cover.units ∙ stands.numbers }

    rows-same : filter (λ x. not (is_row_touched (touched_of r (facts_in writes) keys ids names) x)) (values.rows_of r (facts_in writes) (values_named writes))
        ≡ filter (λ x. not (is_row_touched (touched_of r (facts_in writes) keys ids names) x)) (values.rows_of r (facts_in base) (values_named base))
    unfolding value_places
    rows-same =
        let old = values-placed r base stood in
        same-is row_cmp row_total place_cmp place_total one-place place_of (value_place r (facts_in writes)) keys (values.row_of r (facts_in base))
        (values.row_of r (facts_in writes)) (values_named base) (values_named writes) (values.rows_of r (facts_in base) (values_named base))
        (values.rows_of r (facts_in writes) (values_named writes))
        (record {
          at_place = λ k x is. sym (value-place-as r (facts_in base) (facts_in writes) k cover.units) ∙ old.at_place k x is;
          one = (values-placed r writes stands).one;
          named_all = old.named_all;
        })
        (values-placed r writes stands) (rows-list r (facts_in base) stood (values_named base)) (rows-list r (facts_in writes) stands (values_named writes))
        (λ k out. cover.values k (λ there. out (from-contains k keys there)))

    regs-same : filter (λ x. not (is_reg_touched (touched_of r (facts_in writes) keys ids names) x)) (registrations.regs_of r (facts_in writes)
        (regs_named writes))
        ≡ filter (λ x. not (is_reg_touched (touched_of r (facts_in writes) keys ids names) x)) (registrations.regs_of r (facts_in base) (regs_named base))
    unfolding reg_places
    regs-same =
        let old = regs-placed r base stood in
        same-is reg_cmp reg_total reg_place_cmp reg_place_total one-reg_place reg_place_of (reg_place r (facts_in writes)) names
        (registrations.reg_of r (facts_in base))
        (registrations.reg_of r (facts_in writes)) (regs_named base) (regs_named writes) (registrations.regs_of r (facts_in base) (regs_named base))
        (registrations.regs_of r (facts_in writes) (regs_named writes))
        (record {
          at_place = λ k x is. sym (reg-place-as r (facts_in base) (facts_in writes) k cover.units) ∙ old.at_place k x is;
          one = (regs-placed r writes stands).one;
          named_all = old.named_all;
        })
        (regs-placed r writes stands) (regs-list r (facts_in base) stood (regs_named base)) (regs-list r (facts_in writes) stands (regs_named writes))
        (λ k out. cover.regs k (λ there. out (from-contains k names there)))

    events-same : filter (λ x. not (is_event_touched (touched_of r (facts_in writes) keys ids names) x)) (tracker.events_of r (facts_in writes)
        (events_named writes))
        ≡ filter (λ x. not (is_event_touched (touched_of r (facts_in writes) keys ids names) x)) (tracker.events_of r (facts_in base) (events_named base))
    unfolding event_ids
    events-same =
        subst (λ (list : List (List ℕ)).
        filter (λ x. not (is_among (slice_cmp nat_cmp) (in_order (slice_cmp nat_cmp) (λ id. id) list) x.id))
        (tracker.events_of r (facts_in writes) (events_named writes))
        ≡ filter (λ x. not (is_among (slice_cmp nat_cmp) (in_order (slice_cmp nat_cmp) (λ id. id) list) x.id))
        (tracker.events_of r (facts_in base) (events_named base))) (given-all ids)
        (same-is event_cmp event_total (slice_cmp nat_cmp) id_total one-id (λ (x : EventRow). x.id) (λ (id : List ℕ). Some id) ids
        (event_row r (facts_in base)) (event_row r (facts_in writes)) (events_named base) (events_named writes)
        (tracker.events_of r (facts_in base) (events_named base)) (tracker.events_of r (facts_in writes) (events_named writes)) (events-placed r base)
        (events-placed r writes) (events-list r (facts_in base) (events_named base)) (events-list r (facts_in writes) (events_named writes))
        (λ k out. cover.events k (λ there. out (from-contains k ids there))))

    leads-at : (latest : LatestPart) → latest.touched ≡ touched_of r (facts_in writes) keys ids names
        → latest.holds ≡ held_by r (facts_in writes) keys ids names
        → LeadsTo (contents_in (listed_in r base)) latest (contents_in (listed_in r writes))
    unfolding listed_in
    leads-at latest touched holds =
        subst (λ (t : Touched). LeadsTo (contents_in (listed_in r base)) (record { touched = t; holds = latest.holds; from = latest.from; to = latest.to })
        (contents_in (listed_in r writes))) (sym touched)
        (subst (λ (h : Contents). LeadsTo (contents_in (listed_in r base))
        (record { touched = touched_of r (facts_in writes) keys ids names; holds = h; from = latest.from; to = latest.to })
        (contents_in (listed_in r writes))) (sym holds)
        (record {
          rows = record { same = rows-same; changed = rows-changed };
          events = record { same = events-same; changed = events-changed };
          regs = record { same = regs-same; changed = regs-changed };
        }))

  -- ---- what the keys hold is a store's

  short-part : {X : Type 0} (p : X → Bool) (xs : List X) → is_short xs ≡ true → is_short (filter p xs) ≡ true
  short-part p xs short =
      let few = leb-true (length xs) 4194304 short in
      let less = filter-shorter p xs in
      le-leb (length (filter p xs)) 4194304 (omega (arith, few, less))

  rise-part : {X : Type 0} (cmp : X → X → Ordering) → IsTotalOrder cmp → (p : X → Bool) (xs : List X) → rises cmp xs ≡ true → rises cmp (filter p xs) ≡ true
  rise-part cmp total p xs up = rises-sorted cmp (filter p xs) (IsStrictlySortedBy-filter cmp p xs (sorted_from_rises cmp total xs up))

  all-part : {X : Type 0} (test p : X → Bool) (xs : List X) → list_all test xs ≡ true → list_all test (filter p xs) ≡ true
  all-part test p xs all = list_all-each test (filter p xs) (every-filter (λ x. test x ≡ true) p xs (each-true test xs all))

  store-at : length writes ≤ 4194304 → list_all is_of_days writes ≡ true
      → is_store (values.rows_of r (facts_in writes) keys) (tracker.events_of r (facts_in writes) ids) (registrations.regs_of r
      (facts_in writes) names) [] ≡ true
  unfolding is_store listed_in
  store-at few days =
      let whole = listed-store r writes few days (rows-own r (facts_in writes) stands (values_named writes)) in
      let holds = store-holds (values.rows_of r (facts_in writes) (values_named writes)) (tracker.events_of r (facts_in writes) (events_named writes))
      (registrations.regs_of r (facts_in writes) (regs_named writes)) (listed_in r writes).years whole in
      let t = touched_of r (facts_in writes) keys ids names in
      and_from _ _ (ap is_short (sym rows-changed) ∙ short-part (is_row_touched t) _ holds.few_rows)
      (and_from _ _ (ap is_short (sym events-changed) ∙ short-part (is_event_touched t) _ holds.few_events)
      (and_from _ _ (ap is_short (sym regs-changed) ∙ short-part (is_reg_touched t) _ holds.few_regs)
      (and_from _ _ (ap (rises row_cmp) (sym rows-changed) ∙ rise-part row_cmp row_total (is_row_touched t) _ holds.rows_rise)
      (and_from _ _ (ap (rises event_cmp) (sym events-changed) ∙ rise-part event_cmp event_total (is_event_touched t) _ holds.events_rise)
      (and_from _ _ (ap (rises reg_cmp) (sym regs-changed) ∙ rise-part reg_cmp reg_total (is_reg_touched t) _ holds.regs_rise)
      (and_from _ _ refl
      (and_from _ _ (ap (list_all has_days) (sym events-changed) ∙ all-part has_days (is_event_touched t) _ holds.event_days)
      (and_from _ _ (ap (list_all (λ (reg : RegRow). is_day reg.day)) (sym regs-changed)
      ∙ all-part (λ (reg : RegRow). is_day reg.day) (is_reg_touched t) _ holds.reg_days) (rows-own r (facts_in writes) stands keys)))))))))

-- ---- by what a world holds

pub store-held : (r : Records) (writes : List Write) (facts : Facts) → facts ≡ facts_in writes → IsTree (tree facts r)
    → length (tree facts r) ≡ length r.organisation_units → length writes ≤ 4194304 → list_all is_of_days writes ≡ true
    → (keys : List ValueKey) (ids : List (List ℕ)) (names : List RegKey)
    → is_store (values.rows_of r facts keys) (tracker.events_of r facts ids) (registrations.regs_of r facts names) [] ≡ true
store-held r writes facts held =
    subst (λ (f : Facts). IsTree (tree f r) → length (tree f r) ≡ length r.organisation_units → length writes ≤ 4194304 → list_all is_of_days writes ≡ true
    → (keys : List ValueKey) (ids : List (List ℕ)) (names : List RegKey)
    → is_store (values.rows_of r f keys) (tracker.events_of r f ids) (registrations.regs_of r f names) [] ≡ true) (sym held)
    (λ is_tree numbers few days keys ids names. store-at r writes (record { is_tree = is_tree; numbers = numbers }) keys ids names few days)

pub leads-held : (r : Records) (writes : List Write) (facts : Facts) → facts ≡ facts_in writes → IsTree (tree facts r)
    → length (tree facts r) ≡ length r.organisation_units
    → (keys : List ValueKey) (ids : List (List ℕ)) (names : List RegKey) (latest : LatestPart) → latest.touched ≡ touched_of r facts keys ids names
    → latest.holds ≡ held_by r facts keys ids names → (base : List Write) → Covers r (facts_in base) facts keys ids names
    → LeadsTo (contents_in (listed_in r base)) latest (contents_in (listed_in r writes))
leads-held r writes facts held =
    subst (λ (f : Facts). IsTree (tree f r) → length (tree f r) ≡ length r.organisation_units
    → (keys : List ValueKey) (ids : List (List ℕ)) (names : List RegKey) (latest : LatestPart) → latest.touched ≡ touched_of r f keys ids names
    → latest.holds ≡ held_by r f keys ids names → (base : List Write) → Covers r (facts_in base) f keys ids names
    → LeadsTo (contents_in (listed_in r base)) latest (contents_in (listed_in r writes))) (sym held)
    (λ is_tree numbers keys ids names latest touched holds base cover. leads-at r writes (record { is_tree = is_tree; numbers = numbers }) keys ids names base
    cover latest touched holds)
