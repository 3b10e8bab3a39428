-- What keys of a log hold in tables, and where it stands there.
use Rattle.std.proofs.Common.{◌≡◌, ◌∙◌, ℕ, ◌<◌, List, [], ◌∷◌, Option, Some, suc, length, map, get_or, refl, sym, ap, subst}
use Rattle.std.specs.Prelude.{option_map, option_and_then}
use Rattle.std.specs.List.{AllByRecursion, filter_map}
use Rattle.std.specs.Option.{unwrap_or}
use Rattle.dh_periods.proofs.TextLemmas.{and_then-some, map-some}
use Rattle.dh_changes.specs.declared.change.Write.{Write}
use Rattle.dh_changes.specs.declared.keys.ValueKey.{ValueKey}
use Rattle.dh_changes.specs.declared.keys.RegKey.{RegKey}
use Rattle.dh_changes.specs.declared.tracker.Event.{Event}
use Rattle.org_tree.specs.Units.{order_of}
use Rattle.org_tree.proofs.OrderLemmas.{order-differs, order-lt}
use Rattle.dh_metadata.proofs.DistinctLemmas.{place_of-below}
use Rattle.dh_metadata.proofs.PlaceLemmas.{place_of-at}
use Rattle.dh_metadata.specs.declared.held.Records.{Records}
use Rattle.dh_metadata.specs.declared.records.Unit.{Unit as OrgUnit}
use Rattle.dh_metadata.specs.declared.kind.Kind.{Kind}
use Rattle.dh_metadata.specs.declared.kind.Kind.TheVariants.{DataElement, DataSet, OrganisationUnit, CategoryOptionCombo}
use Rattle.dh_metadata.specs.Objects.{ids_of, find_of}
use Rattle.dh_changes.specs.Facts.{Facts, facts_in}
use Rattle.dh_records.specs.Access.{tree}
use Rattle.table_rows.specs.declared.row.Row.{Row}
use Rattle.table_rows.specs.declared.event.EventRow.{EventRow}
use Rattle.table_rows.specs.declared.event.RegRow.{RegRow}
use Rattle.table_rows.specs.Rows.{key_of}
use Rattle.table_rows.specs.Order.{key_cmp, row_cmp}
use Rattle.table_rows.specs.Events.{event_cmp, reg_cmp}
use Rattle.table_build.specs.declared.values.ValueObjects.{ValueObjects}
use Rattle.table_build.specs.declared.regs.RegObjects.{RegObjects}
use Rattle.table_build.specs.declared.regs.RegPlace.{RegPlace as TablePlace}
use Rattle.table_build.specs.declared.events.EventPlace.{EventPlace}
use Rattle.table_build.specs.Log.{values_named, regs_named, events_named}
use Rattle.table_build.specs.Values as values
use Rattle.table_build.specs.Regs as registrations
use Rattle.table_build.specs.Events as tracker
use Rattle.table_build.proofs.EachLemmas.{every, sorted-given}
use Rattle.table_build.proofs.KeyLemmas.{StandsTree, rows-has, given-in}
use Rattle.table_build.proofs.MemberLemmas.{IsIn, in_order-from, in_order-has}
use Rattle.table_build.proofs.OrderLemmas.{same-key, reg_total, same-reg, event_total, same-event}
use Rattle.table_build.proofs.OrderedLemmas.{in_order-sorted}
use Rattle.table_rows.proofs.OrderLemmas.{key_total}
use Rattle.table_latest.specs.declared.places.RowPlace.{RowPlace}
use Rattle.table_latest.specs.declared.places.RegPlace.{RegPlace}
use Rattle.table_latest.specs.Keys.{place_of, reg_place_of}
use Rattle.latest_build.specs.Places.{value_at, value_place, reg_at, reg_place, event_row}
use Rattle.latest_build.proofs.ListLemmas.{IsListOf, IsPlaced, in-given, in-given-all}
use Rattle.latest_build.proofs.NamedLemmas.{value-held, reg-held, event-held}

pub inside : {A : Type 0} (x y : A) → Some x ≡ Some y → x ≡ y
inside x y e = ap (λ o. unwrap_or o x) e

find-one : (r : Records) (kind : Kind) (a b : List ℕ) (n m : ℕ) → find_of r kind a ≡ Some n → find_of r kind b ≡ Some m → n ≡ m → a ≡ b
find-one r kind a b n m left right same = sym (place_of-at (ids_of r kind) a n left) ∙ ap (λ k. get_or (ids_of r kind) k []) same
    ∙ place_of-at (ids_of r kind) b m right

units-length : (units : List OrgUnit) → length (map (λ (unit : OrgUnit). unit.id) units) ≡ length units
units-length [] = refl
units-length (unit ∷ units) = ap suc (units-length units)

unit-below : (r : Records) (facts : Facts) → StandsTree r facts → (id : List ℕ) (n : ℕ) → find_of r OrganisationUnit id ≡ Some n → n < length (tree facts r)
unit-below r facts stands id n e =
    subst (λ k. n < k) (units-length r.organisation_units ∙ sym stands.numbers) (place_of-below (ids_of r OrganisationUnit) id n e)

unit-one : (r : Records) (facts : Facts) → StandsTree r facts → (a b : List ℕ) (n m : ℕ) → find_of r OrganisationUnit a ≡ Some n
    → find_of r OrganisationUnit b ≡ Some m
    → order_of (tree facts r) n ≡ order_of (tree facts r) m → a ≡ b
unit-one r facts stands a b n m left right same =
    find-one r OrganisationUnit a b n m left right
    (order-differs (tree facts r) stands.is_tree n m (unit-below r facts stands a n left) (unit-below r facts stands b m right) same)

-- ---- values

pub record Objects (r : Records) (key : ValueKey) (o : ValueObjects) : Type 0 where
  pub element : find_of r DataElement key.element ≡ Some o.element
  pub unit : find_of r OrganisationUnit key.unit ≡ Some o.unit
  pub combo : find_of r CategoryOptionCombo key.combo ≡ Some o.combo
  pub attribute : find_of r CategoryOptionCombo key.attribute ≡ Some o.attribute

pub objects-parts : (r : Records) (key : ValueKey) (o : ValueObjects) → values.objects_of r key ≡ Some o → Objects r key o
unfolding values.objects_of
objects-parts r key o e =
    let element = and_then-some _ (find_of r DataElement key.element) o e in
    let unit = and_then-some _ (find_of r OrganisationUnit key.unit) o element.2 in
    let combo = and_then-some _ (find_of r CategoryOptionCombo key.combo) o unit.2 in
    let attribute = map-some (λ attribute. values.value_objects element.0 unit.0 combo.0 attribute) (find_of r CategoryOptionCombo key.attribute) o combo.2 in
    record {
      element = element.1 ∙ ap (λ (x : ValueObjects). Some x.element) attribute.2;
      unit = unit.1 ∙ ap (λ (x : ValueObjects). Some x.unit) attribute.2;
      combo = combo.1 ∙ ap (λ (x : ValueObjects). Some x.combo) attribute.2;
      attribute = attribute.1 ∙ ap (λ (x : ValueObjects). Some x.attribute) attribute.2;
    }

pub value-one : (r : Records) (facts : Facts) → StandsTree r facts → (a b : ValueKey) (p : RowPlace) → value_place r facts a ≡ Some p
    → value_place r facts b ≡ Some p → a ≡ b
unfolding value_place
value-one r facts stands a b p left right =
    let x = map-some (value_at r facts a) (values.objects_of r a) p left in
    let y = map-some (value_at r facts b) (values.objects_of r b) p right in
    let same : value_at r facts a x.0 ≡ value_at r facts b y.0 = x.2 ∙ sym y.2 in
    let left_objects = objects-parts r a x.0 x.1 in
    let right_objects = objects-parts r b y.0 y.1 in
    let element = find-one r DataElement a.element b.element _ _ left_objects.element right_objects.element (ap (λ (q : RowPlace). q.group.element) same) in
    let combo = find-one r CategoryOptionCombo a.combo b.combo _ _ left_objects.combo right_objects.combo (ap (λ (q : RowPlace). q.group.combo) same) in
    let attribute =
    find-one r CategoryOptionCombo a.attribute b.attribute _ _ left_objects.attribute right_objects.attribute (ap (λ (q : RowPlace). q.group.attribute) same) in
    let unit = unit-one r facts stands a.unit b.unit _ _ left_objects.unit right_objects.unit (ap (λ (q : RowPlace). q.order) same) in
    let around = ap (λ (q : RowPlace). q.group.period) same in
    λ i. record { element = element i; period = around i; unit = unit i; combo = combo i; attribute = attribute i }

row-place : (r : Records) (facts : Facts) (key : ValueKey) (x : Row) → values.row_of r facts key ≡ Some x → value_place r facts key ≡ Some (place_of x)
unfolding values.row_of values.row_with value_place
row-place r facts key x e =
    let text = and_then-some (λ text. option_map (values.row_with r facts key text) (values.objects_of r key)) (facts.value key) x e in
    let o = map-some (values.row_with r facts key text.0) (values.objects_of r key) x text.2 in
    ap (option_map (value_at r facts key)) o.1 ∙ ap (λ (row : Row). Some (place_of row)) o.2

-- the order of a row is one of a unit
pub row-order : (r : Records) (facts : Facts) → StandsTree r facts → (key : ValueKey) (x : Row) → values.row_of r facts key ≡ Some x
    → x.order < length (tree facts r)
unfolding value_place
row-order r facts stands key x e =
    let o = map-some (value_at r facts key) (values.objects_of r key) (place_of x) (row-place r facts key x e) in
    let objects = objects-parts r key o.0 o.1 in
    subst (λ n. n < length (tree facts r)) (ap (λ (p : RowPlace). p.order) o.2)
    (order-lt (tree facts r) stands.is_tree o.0.unit (unit-below r facts stands key.unit o.0.unit objects.unit))

row-held : (r : Records) (writes : List Write) (key : ValueKey) (x : Row) → values.row_of r (facts_in writes) key ≡ Some x → IsIn key (values_named writes)
unfolding values.row_of
row-held r writes key x e =
    let text = and_then-some (λ text. option_map (values.row_with r (facts_in writes) key text) (values.objects_of r key)) ((facts_in writes).value key) x e in
    value-held writes key text.0 text.1

pub values-placed : (r : Records) (writes : List Write) → StandsTree r (facts_in writes)
    → IsPlaced (values.row_of r (facts_in writes)) (value_place r (facts_in writes)) place_of (values_named writes)
values-placed r writes stands =
    record {
      at_place = row-place r (facts_in writes);
      one = value-one r (facts_in writes) stands;
      named_all = row-held r writes;
    }

pub rows-list : (r : Records) (facts : Facts) → StandsTree r facts → (keys : List ValueKey)
    → IsListOf row_cmp (values.row_of r facts) keys (values.rows_of r facts keys)
unfolding values.rows_of
rows-list r facts stands keys =
    record {
      sorted = in_order-sorted key_cmp key_of key_total same-key (filter_map (values.row_of r facts) keys);
      has = λ k x there is. rows-has r facts stands keys k x there is;
      from = λ x there. in-given (values.row_of r facts) keys x (in_order-from key_cmp key_of key_total same-key (λ x. ⊥) (λ x y p q same. absurd p)
          (filter_map (values.row_of r facts) keys) x there);
    }

-- ---- registrations

record RegParts (r : Records) (key : RegKey) (o : RegObjects) : Type 0 where
  set : find_of r DataSet key.set ≡ Some o.set
  unit : find_of r OrganisationUnit key.unit ≡ Some o.unit
  attribute : find_of r CategoryOptionCombo key.attribute ≡ Some o.attribute

reg-parts : (r : Records) (key : RegKey) (o : RegObjects) → registrations.objects_of r key ≡ Some o → RegParts r key o
unfolding registrations.objects_of
reg-parts r key o e =
    let set = and_then-some _ (find_of r DataSet key.set) o e in
    let unit = and_then-some _ (find_of r OrganisationUnit key.unit) o set.2 in
    let attribute = map-some (λ attribute. registrations.reg_objects set.0 unit.0 attribute) (find_of r CategoryOptionCombo key.attribute) o unit.2 in
    record {
      set = set.1 ∙ ap (λ (x : RegObjects). Some x.set) attribute.2;
      unit = unit.1 ∙ ap (λ (x : RegObjects). Some x.unit) attribute.2;
      attribute = attribute.1 ∙ ap (λ (x : RegObjects). Some x.attribute) attribute.2;
    }

reg-one : (r : Records) (facts : Facts) → StandsTree r facts → (a b : RegKey) (p : RegPlace) → reg_place r facts a ≡ Some p
    → reg_place r facts b ≡ Some p → a ≡ b
unfolding reg_place
reg-one r facts stands a b p left right =
    let x = map-some (reg_at r facts a) (registrations.objects_of r a) p left in
    let y = map-some (reg_at r facts b) (registrations.objects_of r b) p right in
    let same : reg_at r facts a x.0 ≡ reg_at r facts b y.0 = x.2 ∙ sym y.2 in
    let left_objects = reg-parts r a x.0 x.1 in
    let right_objects = reg-parts r b y.0 y.1 in
    let set = find-one r DataSet a.set b.set _ _ left_objects.set right_objects.set (ap (λ (q : RegPlace). q.set) same) in
    let attribute =
    find-one r CategoryOptionCombo a.attribute b.attribute _ _ left_objects.attribute right_objects.attribute (ap (λ (q : RegPlace). q.attribute) same) in
    let unit = unit-one r facts stands a.unit b.unit _ _ left_objects.unit right_objects.unit (ap (λ (q : RegPlace). q.order) same) in
    let around = ap (λ (q : RegPlace). q.period) same in
    λ i. record { set = set i; period = around i; unit = unit i; attribute = attribute i }

reg-place : (r : Records) (facts : Facts) (key : RegKey) (x : RegRow) → registrations.reg_of r facts key ≡ Some x
    → reg_place r facts key ≡ Some (reg_place_of x)
unfolding registrations.reg_of registrations.reg_with reg_place
reg-place r facts key x e =
    let day = and_then-some (λ day. option_map (registrations.reg_with r facts key day) (registrations.objects_of r key)) (facts.registration key) x e in
    let o = map-some (registrations.reg_with r facts key day.0) (registrations.objects_of r key) x day.2 in
    ap (option_map (reg_at r facts key)) o.1 ∙ ap (λ (row : RegRow). Some (reg_place_of row)) o.2

reg-named : (r : Records) (writes : List Write) (key : RegKey) (x : RegRow) → registrations.reg_of r (facts_in writes) key ≡ Some x
    → IsIn key (regs_named writes)
unfolding registrations.reg_of
reg-named r writes key x e =
    let day = and_then-some (λ day. option_map (registrations.reg_with r (facts_in writes) key day) (registrations.objects_of r key))
    ((facts_in writes).registration key) x e in
    reg-held writes key day.0 day.1

pub regs-placed : (r : Records) (writes : List Write) → StandsTree r (facts_in writes)
    → IsPlaced (registrations.reg_of r (facts_in writes)) (reg_place r (facts_in writes)) reg_place_of (regs_named writes)
regs-placed r writes stands =
    record {
      at_place = reg-place r (facts_in writes);
      one = reg-one r (facts_in writes) stands;
      named_all = reg-named r writes;
    }

-- x is the row of a key
record IsReg (r : Records) (facts : Facts) (x : RegRow) : Type 0 where
  key : RegKey
  is : registrations.reg_of r facts key ≡ Some x

one-reg : (r : Records) (facts : Facts) → StandsTree r facts → (x y : RegRow) → IsReg r facts x → IsReg r facts y
    → registrations.place_of x ≡ registrations.place_of y → x ≡ y
one-reg r facts stands x y left right same =
    let there : reg_place_of x ≡ reg_place_of y = ap (λ (q : TablePlace). record {
      set = q.set;
      period = q.period;
      order = q.order;
      attribute = q.attribute;
    }) same in
    let keys = reg-one r facts stands left.key right.key (reg_place_of x) (reg-place r facts left.key x left.is)
    (reg-place r facts right.key y right.is ∙ ap Some (sym there)) in
    inside x y (sym left.is ∙ ap (registrations.reg_of r facts) keys ∙ right.is)

are-regs : (r : Records) (facts : Facts) (keys : List RegKey) → AllByRecursion (IsReg r facts) (filter_map (registrations.reg_of r facts) keys)
are-regs r facts keys = in-given-all (registrations.reg_of r facts) (IsReg r facts) (λ a x e. record { key = a; is = e }) keys

pub regs-list : (r : Records) (facts : Facts) → StandsTree r facts → (keys : List RegKey)
    → IsListOf reg_cmp (registrations.reg_of r facts) keys (registrations.regs_of r facts keys)
unfolding registrations.regs_of
regs-list r facts stands keys =
    record {
      sorted = in_order-sorted registrations.place_cmp registrations.place_of reg_total same-reg (filter_map (registrations.reg_of r facts) keys);
      has = λ k x there is. in_order-has registrations.place_cmp registrations.place_of reg_total same-reg (IsReg r facts) (one-reg r facts stands)
          (filter_map (registrations.reg_of r facts) keys) x (are-regs r facts keys) (given-in (registrations.reg_of r facts) k x is keys there);
      from = λ x there. in-given (registrations.reg_of r facts) keys x (in_order-from registrations.place_cmp registrations.place_of reg_total same-reg
          (λ x. ⊥) (λ x y p q same. absurd p) (filter_map (registrations.reg_of r facts) keys) x there);
    }

-- ---- events

own-place : (r : Records) (facts : Facts) (place : EventPlace) (row : EventRow) → tracker.event_at r facts place ≡ Some row
    → tracker.event_place row.id row.day ≡ place
unfolding tracker.event_at tracker.event_with
own-place r facts place row e =
    let found =
    and_then-some (λ (event : Event). option_map (tracker.event_with r facts place event) (tracker.objects_of r event)) (facts.event place.id) row e in
    let objects = map-some (tracker.event_with r facts place found.0) (tracker.objects_of r found.0) row found.2 in
    ap (λ (x : EventRow). tracker.event_place x.id x.day) (sym objects.2)

place-id : (facts : Facts) (id : List ℕ) (place : EventPlace) → tracker.place_of facts id ≡ Some place → (event : Event) × (facts.event id ≡ Some event)
    × (place.id ≡ id)
unfolding tracker.place_of
place-id facts id place e =
    let event = and_then-some (λ (event : Event). option_map (tracker.event_place id) event.occurred) (facts.event id) place e in
    let day = map-some (tracker.event_place id) event.0.occurred place event.2 in
    (event.0, event.1, ap (λ (p : EventPlace). p.id) (sym day.2))

event-place : (r : Records) (facts : Facts) (id : List ℕ) (x : EventRow) → event_row r facts id ≡ Some x → ◌≡◌ {A = Option (List ℕ)} (Some id) (Some x.id)
unfolding event_row
event-place r facts id x e =
    let place = and_then-some (tracker.event_at r facts) (tracker.place_of facts id) x e in
    let own = place-id facts id place.0 place.1 in
    ap Some (sym own.2 ∙ sym (ap (λ (p : EventPlace). p.id) (own-place r facts place.0 x place.2)))

event-named : (r : Records) (writes : List Write) (id : List ℕ) (x : EventRow) → event_row r (facts_in writes) id ≡ Some x → IsIn id (events_named writes)
unfolding event_row
event-named r writes id x e =
    let place = and_then-some (tracker.event_at r (facts_in writes)) (tracker.place_of (facts_in writes) id) x e in
    let own = place-id (facts_in writes) id place.0 place.1 in
    event-held writes id own.0 own.1

pub events-placed : (r : Records) (writes : List Write)
    → IsPlaced (event_row r (facts_in writes)) (λ id. Some id) (λ (x : EventRow). x.id) (events_named writes)
events-placed r writes =
    record {
      at_place = event-place r (facts_in writes);
      one = λ a b p left right. inside a p left ∙ sym (inside b p right);
      named_all = event-named r writes;
    }

pub events-list : (r : Records) (facts : Facts) (ids : List (List ℕ)) → IsListOf event_cmp (event_row r facts) ids (tracker.events_of r facts ids)
unfolding tracker.events_of tracker.places_of event_row
events-list r facts ids =
    let places = in_order-sorted tracker.place_cmp (λ (place : EventPlace). place) event_total same-event (filter_map (tracker.place_of facts) ids) in
    record {
      sorted = sorted-given tracker.place_cmp (λ (row : EventRow). tracker.event_place row.id row.day) (tracker.event_at r facts) (own-place r facts)
          (tracker.places_of facts ids) places;
      has = λ id x there is.
          let place = and_then-some (tracker.event_at r facts) (tracker.place_of facts id) x is in
          given-in (tracker.event_at r facts) place.0 x place.2 (tracker.places_of facts ids)
          (in_order-has tracker.place_cmp (λ (place : EventPlace). place) event_total same-event (λ p. Unit {0}) (λ x y p q same. same)
          (filter_map (tracker.place_of facts) ids) place.0 (every (filter_map (tracker.place_of facts) ids))
          (given-in (tracker.place_of facts) id place.0 place.1 ids there));
      from = λ x there.
          let place = in-given (tracker.event_at r facts) (tracker.places_of facts ids) x there in
          let id = in-given (tracker.place_of facts) ids place.a (in_order-from tracker.place_cmp (λ (place : EventPlace). place) event_total same-event
          (λ p. Unit {0}) (λ x y p q same. same) (filter_map (tracker.place_of facts) ids) place.a place.there) in
          record { a = id.a; there = id.there; is = ap (option_and_then (tracker.event_at r facts)) id.is ∙ place.is };
    }
