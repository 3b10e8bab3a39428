-- What writes don't touch stays as it was.
use Rattle.std.proofs.Common.{◌≡◌, ◌∙◌, ℕ, ℤ, Bool, true, false, cond, List, []}
use Rattle.std.proofs.Common.{◌∷◌, ◌++◌, inl, inr, Option, Some, None, length, map, refl, sym, ap, subst}
use Rattle.std.specs.Prelude.{Contains, option_map, option_and_then}
use Rattle.std.specs.Cmp.Lexicographic.{same_text}
use Rattle.std.specs.List.{filter, filter_map}
use Rattle.std.specs.Option.{is_some, unwrap_or, option_or}
use Rattle.std.proofs.lemmas.Bool.{cases_Bool, false≢true}
use Rattle.std.proofs.lemmas.List.{length-map, map-append}
use Rattle.dh_periods.proofs.TextLemmas.{and_then-some}
use Rattle.dh_changes.specs.declared.change.Write.{Write}
use Rattle.dh_changes.specs.declared.change.Write.TheVariants as write
use Rattle.dh_changes.specs.declared.keys.ValueKey.{ValueKey}
use Rattle.dh_changes.specs.declared.keys.ApprovalKey.{ApprovalKey}
use Rattle.dh_changes.specs.declared.keys.RegKey.{RegKey}
use Rattle.dh_changes.specs.declared.tracker.Event.{Event}
use Rattle.dh_changes.specs.declared.tracker.Enrollment.{Enrollment}
use Rattle.dh_changes.specs.Keys.{same_value_key, same_approval_key, same_reg_key}
use Rattle.dh_changes.proofs.KeyLemmas.{same_value_key-Decides, same_approval_key-Decides, same_reg_key-Decides}
use Rattle.dh_metadata.specs.declared.held.Records.{Records}
use Rattle.dh_changes.specs.declared.said.ApprovalState.TheVariants as state
use Rattle.dh_changes.specs.declared.said.Said.{Said}
use Rattle.dh_changes.specs.Said.{same_id, said_by, last_said, of_approval, of_enrollment, of_entity, of_event, of_registration, of_value}
use Rattle.dh_changes.specs.Facts.{Facts, facts_in}
use Rattle.org_tree.specs.Units.{IsTree, UnitRow, order_of}
use Rattle.dh_metadata.specs.Approval.{unit_rows}
use Rattle.dh_records.specs.Access.{tree}
use Rattle.dh_records.specs.Approved.{approved_at}
use Rattle.table_rows.specs.declared.row.Row.{Row}
use Rattle.table_rows.specs.declared.event.RegRow.{RegRow}
use Rattle.table_build.specs.declared.events.EventObjects.{EventObjects}
use Rattle.table_build.specs.declared.events.EventPlace.{EventPlace}
use Rattle.table_build.specs.declared.regs.RegObjects.{RegObjects}
use Rattle.table_build.specs.declared.values.ValueObjects.{ValueObjects}
use Rattle.table_build.specs.Items.{element_values}
use Rattle.table_build.specs.Log.{value_named, reg_named, event_named, values_named, regs_named, events_named}
use Rattle.table_build.specs.Values as values
use Rattle.table_build.specs.Regs as registrations
use Rattle.table_build.specs.Events as tracker
use Rattle.table_build.specs.Listed.{listed_in}
use Rattle.table_build.proofs.KeyLemmas.{StandsTree, given-in}
use Rattle.table_build.proofs.MemberLemmas.{IsIn}
use Rattle.latest_build.specs.Covers.{Covers}
use Rattle.latest_build.specs.Places.{event_row, value_places}
use Rattle.latest_build.specs.Found.{decided_by, found, values_sought}
use Rattle.latest_build.specs.Touches.{approval_named, approvals_named, approved_alone, events_by, events_touched, has_position, has_row, is_decided}
use Rattle.latest_build.specs.Touches.{values_held, values_touched}
use Rattle.latest_build.proofs.NamedLemmas.{value-held}
use Rattle.latest_build.proofs.DecidedLemmas.{undecided-same}
use Rattle.latest_build.proofs.FoundLemmas.{found-has, found-sound, in-append, key-of-row, places-same}
use Rattle.latest_build.proofs.KeyLemmas.{rows-list}
use Rattle.latest_build.proofs.ListLemmas.{in-filter, in-given, to-contains, to-filter}
use Rattle.latest_build.proofs.TrackerLemmas.{gathered-append, in-left, in-right, enrollment-unnamed, entity-unnamed}
use Rattle.latest_build.proofs.TrackerLemmas.{named-touched, under-enrollment, under-entity, untouched-by}

-- ---- what is said of a key that no write of a list names

module _ {A : Type 0} (of : Said → Option A) where
  pub last-append : (xs ys : List Said) → last_said of (xs ++ ys) ≡ option_or (last_said of ys) (last_said of xs)
  last-append [] ys = by_last (last_said of ys)
    where
      by_last : (o : Option A) → o ≡ option_or o None
      by_last (Some a) = refl
      by_last None = refl
  last-append (x ∷ xs) ys = ap (λ o. option_or o (of x)) (last-append xs ys) ∙ by_last (last_said of ys)
    where
      by_last : (o : Option A) → option_or (option_or o (last_said of xs)) (of x) ≡ option_or o (option_or (last_said of xs) (of x))
      by_last (Some a) = refl
      by_last None = refl

  none-said : (writes : List Write) → ((w : Write) → IsIn w writes → of (said_by w) ≡ None) → last_said of (map said_by writes) ≡ None
  none-said [] none = refl
  none-said (w ∷ ws) none =
      ap (λ o. option_or o (of (said_by w))) (none-said ws (λ v there. none v (inr there))) ∙ none w (inl refl)

  -- a key of which nothing is said holds what it held
  pub still : (base writes : List Write) → ((w : Write) → IsIn w writes → of (said_by w) ≡ None)
      → last_said of (map said_by (base ++ writes)) ≡ last_said of (map said_by base)
  still base writes none =
      ap (last_said of) (map-append said_by base writes) ∙ last-append (map said_by base) (map said_by writes)
      ∙ ap (λ o. option_or o (last_said of (map said_by base))) (none-said writes none)

not-same : {A : Type 0} (b : Bool) (held : A) → (b ≡ true → ⊥) → cond b (Some held) None ≡ None
not-same true held out = absurd (out refl)
not-same false held out = refl

value-none : (asked : ValueKey) (w : Write) → (value_named w ≡ Some asked → ⊥) → of_value asked (said_by w) ≡ None
value-none asked (write.ValueSet key value) out = not-same (same_value_key key asked) (Some value) (λ e. out (ap Some ((same_value_key-Decides key asked).0 e)))
value-none asked (write.ValueCleared key) out = not-same (same_value_key key asked) None (λ e. out (ap Some ((same_value_key-Decides key asked).0 e)))
value-none asked (write.EventWritten event) out = refl
value-none asked (write.EventDeleted id) out = refl
value-none asked (write.EnrollmentWritten enrollment) out = refl
value-none asked (write.EnrollmentDeleted id) out = refl
value-none asked (write.EntityWritten entity) out = refl
value-none asked (write.EntityDeleted id) out = refl
value-none asked (write.Approve key) out = refl
value-none asked (write.Unapprove key) out = refl
value-none asked (write.Accept key) out = refl
value-none asked (write.Unaccept key) out = refl
value-none asked (write.Complete key day) out = refl
value-none asked (write.Uncomplete key) out = refl

reg-none : (asked : RegKey) (w : Write) → (reg_named w ≡ Some asked → ⊥) → of_registration asked (said_by w) ≡ None
reg-none asked (write.ValueSet key value) out = refl
reg-none asked (write.ValueCleared key) out = refl
reg-none asked (write.EventWritten event) out = refl
reg-none asked (write.EventDeleted id) out = refl
reg-none asked (write.EnrollmentWritten enrollment) out = refl
reg-none asked (write.EnrollmentDeleted id) out = refl
reg-none asked (write.EntityWritten entity) out = refl
reg-none asked (write.EntityDeleted id) out = refl
reg-none asked (write.Approve key) out = refl
reg-none asked (write.Unapprove key) out = refl
reg-none asked (write.Accept key) out = refl
reg-none asked (write.Unaccept key) out = refl
reg-none asked (write.Complete key day) out = not-same (same_reg_key key asked) (Some day) (λ e. out (ap Some ((same_reg_key-Decides key asked).0 e)))
reg-none asked (write.Uncomplete key) out = not-same (same_reg_key key asked) None (λ e. out (ap Some ((same_reg_key-Decides key asked).0 e)))

event-none : (asked : List ℕ) (w : Write) → (event_named w ≡ Some asked → ⊥) → of_event asked (said_by w) ≡ None
event-none asked (write.ValueSet key value) out = refl
event-none asked (write.ValueCleared key) out = refl
event-none asked (write.EventWritten event) out = not-same (same_id event.id asked) (Some event) (λ e. out (ap Some (same_text event.id asked (sym e))))
event-none asked (write.EventDeleted id) out = not-same (same_id id asked) None (λ e. out (ap Some (same_text id asked (sym e))))
event-none asked (write.EnrollmentWritten enrollment) out = refl
event-none asked (write.EnrollmentDeleted id) out = refl
event-none asked (write.EntityWritten entity) out = refl
event-none asked (write.EntityDeleted id) out = refl
event-none asked (write.Approve key) out = refl
event-none asked (write.Unapprove key) out = refl
event-none asked (write.Accept key) out = refl
event-none asked (write.Unaccept key) out = refl
event-none asked (write.Complete key day) out = refl
event-none asked (write.Uncomplete key) out = refl

approval-none : (asked : ApprovalKey) (w : Write) → (approval_named w ≡ Some asked → ⊥) → of_approval asked (said_by w) ≡ None
approval-none asked (write.ValueSet key value) out = refl
approval-none asked (write.ValueCleared key) out = refl
approval-none asked (write.EventWritten event) out = refl
approval-none asked (write.EventDeleted id) out = refl
approval-none asked (write.EnrollmentWritten enrollment) out = refl
approval-none asked (write.EnrollmentDeleted id) out = refl
approval-none asked (write.EntityWritten entity) out = refl
approval-none asked (write.EntityDeleted id) out = refl
approval-none asked (write.Approve key) out =
    not-same (same_approval_key key asked) state.Approved (λ e. out (ap Some ((same_approval_key-Decides key asked).0 e)))
approval-none asked (write.Unapprove key) out =
    not-same (same_approval_key key asked) state.None (λ e. out (ap Some ((same_approval_key-Decides key asked).0 e)))
approval-none asked (write.Accept key) out =
    not-same (same_approval_key key asked) state.Accepted (λ e. out (ap Some ((same_approval_key-Decides key asked).0 e)))
approval-none asked (write.Unaccept key) out =
    not-same (same_approval_key key asked) state.Approved (λ e. out (ap Some ((same_approval_key-Decides key asked).0 e)))
approval-none asked (write.Complete key day) out = refl
approval-none asked (write.Uncomplete key) out = refl

-- ---- what these writes leave as it was

unnamed : {K : Type 0} (named : Write → Option K) (k : K) (writes : List Write) → (IsIn k (filter_map named writes) → ⊥) → (w : Write) → IsIn w writes
    → named w ≡ Some k → ⊥
unnamed named k writes out w there is = out (given-in named w k is writes there)

module _ (base writes : List Write) where
  pub value-same : (key : ValueKey) → (IsIn key (values_named writes) → ⊥) → (facts_in (base ++ writes)).value key ≡ (facts_in base).value key
  unfolding facts_in
  value-same key out =
      ap (λ o. unwrap_or o None) (still (of_value key) base writes (λ w there. value-none key w (unnamed value_named key writes out w there)))

  reg-same : (key : RegKey) → (IsIn key (regs_named writes) → ⊥) → (facts_in (base ++ writes)).registration key ≡ (facts_in base).registration key
  unfolding facts_in
  reg-same key out =
      ap (λ o. unwrap_or o None) (still (of_registration key) base writes (λ w there. reg-none key w (unnamed reg_named key writes out w there)))

  event-same : (id : List ℕ) → (IsIn id (events_named writes) → ⊥) → (facts_in (base ++ writes)).event id ≡ (facts_in base).event id
  unfolding facts_in
  event-same id out =
      ap (λ o. unwrap_or o None) (still (of_event id) base writes (λ w there. event-none id w (unnamed event_named id writes out w there)))

  pub approval-same : (key : ApprovalKey) → (IsIn key (approvals_named writes) → ⊥) → (facts_in (base ++ writes)).approval key ≡ (facts_in base).approval key
  unfolding facts_in
  approval-same key out =
      ap (λ o. unwrap_or o state.None) (still (of_approval key) base writes (λ w there. approval-none key w (unnamed approval_named key writes out w there)))

-- ---- rows by what they are made of

pub units-tree : (r : Records) (log : Facts) → IsTree (unit_rows r) → IsTree (tree log r)
unfolding tree
units-tree r log stands = stands

pub units-count : (r : Records) (log : Facts) → length (tree log r) ≡ length r.organisation_units
unfolding tree
units-count r log = length-map r.organisation_units _

pub units-same : (r : Records) (f g : Facts) → tree f r ≡ tree g r
unfolding tree
units-same r f g = refl

abbrev row_on : Records → ValueKey → Option ℕ → List UnitRow → List ℕ → ValueObjects → Row
row_on r key approved units text objects = record {
  element = objects.element;
  combo = objects.combo;
  attribute = objects.attribute;
  period = key.period;
  approved = approved;
  order = order_of units objects.unit;
  micros = values.number_at r objects.element text;
}

abbrev reg_on : RegKey → List UnitRow → ℤ → RegObjects → RegRow
reg_on key units day objects = record { set = objects.set; period = key.period; order = order_of units objects.unit; attribute = objects.attribute; day = day }

reg-row-same : (r : Records) (f g : Facts) (key : RegKey) → f.registration key ≡ g.registration key
    → registrations.reg_of r f key ≡ registrations.reg_of r g key
unfolding registrations.reg_of registrations.reg_with
reg-row-same r f g key day =
    let units = units-same r f g in
    λ i. option_and_then (λ d. option_map (reg_on key (units i) d) (registrations.objects_of r key)) (day i)

with-same : (r : Records) (f g : Facts) (place : EventPlace) (event : Event) (objects : EventObjects)
    → tracker.enrollment_of f event ≡ tracker.enrollment_of g event → tracker.entity_of f event ≡ tracker.entity_of g event
    → tracker.event_with r f place event objects ≡ tracker.event_with r g place event objects
unfolding tracker.event_with
with-same r f g place event objects enrolled who =
    let units = units-same r f g in
    λ i. record {
      id = place.id;
      enrollment = event.enrollment;
      entity = tracker.entity_id (who i);
      program = objects.program;
      stage = objects.stage;
      order = order_of (units i) objects.unit;
      day = place.day;
      enrolled = tracker.enrolled_day (enrolled i);
      values = element_values r event.values;
      attributes = tracker.entity_values r (who i);
    }

map-same : {A B : Type 0} (f g : A → B) (o : Option A) → ((a : A) → f a ≡ g a) → option_map f o ≡ option_map g o
map-same f g (Some a) same = ap Some (same a)
map-same f g None same = refl

then-same : {A B : Type 0} (f g : A → Option B) (o : Option A) → ((a : A) → o ≡ Some a → f a ≡ g a) → option_and_then f o ≡ option_and_then g o
then-same f g (Some a) same = same a refl
then-same f g None same = refl

-- what an event hangs on is the same
record HangsAs (f g : Facts) (event : Event) : Type 0 where
  enrolled : tracker.enrollment_of f event ≡ tracker.enrollment_of g event
  who : tracker.entity_of f event ≡ tracker.entity_of g event

event-row-same : (r : Records) (f g : Facts) (id : List ℕ) → f.event id ≡ g.event id → ((event : Event) → g.event id ≡ Some event → HangsAs f g event)
    → event_row r f id ≡ event_row r g id
unfolding event_row tracker.place_of tracker.event_at
event-row-same r f g id event hangs =
    ap (λ o. option_and_then (tracker.event_at r f) (option_and_then (λ (e : Event). option_map (tracker.event_place id) e.occurred) o)) event
    ∙ by_event (g.event id)
  where
    at-day : (day : ℤ) → option_and_then (λ (e : Event). option_map (tracker.event_with r f (tracker.event_place id day) e) (tracker.objects_of r e))
        (f.event id)
        ≡ option_and_then (λ (e : Event). option_map (tracker.event_with r g (tracker.event_place id day) e) (tracker.objects_of r e)) (g.event id)
    at-day day =
        ap (option_and_then (λ (e : Event). option_map (tracker.event_with r f (tracker.event_place id day) e) (tracker.objects_of r e))) event
        ∙ then-same (λ (e : Event). option_map (tracker.event_with r f (tracker.event_place id day) e) (tracker.objects_of r e))
        (λ (e : Event). option_map (tracker.event_with r g (tracker.event_place id day) e) (tracker.objects_of r e)) (g.event id)
        (λ e is. map-same (tracker.event_with r f (tracker.event_place id day) e) (tracker.event_with r g (tracker.event_place id day) e)
        (tracker.objects_of r e)
        (λ objects. with-same r f g (tracker.event_place id day) e objects (hangs e is).enrolled (hangs e is).who))

    by_day : (o : Option ℤ)
        → option_and_then (λ (place : EventPlace).
        option_and_then (λ (e : Event). option_map (tracker.event_with r f place e) (tracker.objects_of r e)) (f.event place.id))
        (option_map (tracker.event_place id) o)
        ≡ option_and_then (λ (place : EventPlace).
        option_and_then (λ (e : Event). option_map (tracker.event_with r g place e) (tracker.objects_of r e)) (g.event place.id))
        (option_map (tracker.event_place id) o)
    by_day (Some day) = at-day day
    by_day None = refl

    by_event : (o : Option Event)
        → option_and_then (λ (place : EventPlace).
        option_and_then (λ (e : Event). option_map (tracker.event_with r f place e) (tracker.objects_of r e)) (f.event place.id))
        (option_and_then (λ (e : Event). option_map (tracker.event_place id) e.occurred) o)
        ≡ option_and_then (λ (place : EventPlace).
        option_and_then (λ (e : Event). option_map (tracker.event_with r g place e) (tracker.objects_of r e)) (g.event place.id))
        (option_and_then (λ (e : Event). option_map (tracker.event_place id) e.occurred) o)
    by_event (Some e) = by_day e.occurred
    by_event None = refl

-- ---- an event that isn't touched

module _ (base writes : List Write) (id : List ℕ) (out : IsIn id (events_touched (facts_in (base ++ writes)) writes) → ⊥) where
  unnamed-event : IsIn id (events_named writes) → ⊥
  unnamed-event there =
      let w = in-given event_named writes id there in
      untouched-by (facts_in (base ++ writes)) id writes out w.a w.there (named-touched (facts_in (base ++ writes)) id id w.a w.is)

  still-enrolled : (event : Event) (on : List ℕ) → (facts_in (base ++ writes)).event id ≡ Some event → event.enrollment ≡ Some on
      → (facts_in base).enrollment on ≡ (facts_in (base ++ writes)).enrollment on
  unfolding facts_in
  still-enrolled event on is hangs =
      sym (ap (λ o. unwrap_or o None) (still (of_enrollment on) base writes (λ w there.
      enrollment-unnamed (facts_in (base ++ writes)) id on w (untouched-by (facts_in (base ++ writes)) id writes out w there)
      (under-enrollment (base ++ writes) id on event is hangs))))

  still-entity : (event : Event) (on : List ℕ) (enrollment : Enrollment) → (facts_in (base ++ writes)).event id ≡ Some event → event.enrollment ≡ Some on
      → (facts_in (base ++ writes)).enrollment on ≡ Some enrollment
      → (facts_in base).entity enrollment.entity ≡ (facts_in (base ++ writes)).entity enrollment.entity
  unfolding facts_in
  still-entity event on enrollment is hangs found =
      sym (ap (λ o. unwrap_or o None) (still (of_entity enrollment.entity) base writes (λ w there.
      entity-unnamed (facts_in (base ++ writes)) id enrollment.entity w (untouched-by (facts_in (base ++ writes)) id writes out w there)
      (under-entity (base ++ writes) id on event enrollment is hangs found))))

  enrolled-as : (event : Event) → (facts_in (base ++ writes)).event id ≡ Some event
      → tracker.enrollment_of (facts_in base) event ≡ tracker.enrollment_of (facts_in (base ++ writes)) event
  unfolding tracker.enrollment_of
  enrolled-as event is =
      then-same (facts_in base).enrollment (facts_in (base ++ writes)).enrollment event.enrollment (λ on hangs. still-enrolled event on is hangs)

  who-as : (event : Event) → (facts_in (base ++ writes)).event id ≡ Some event
      → tracker.entity_of (facts_in base) event ≡ tracker.entity_of (facts_in (base ++ writes)) event
  unfolding tracker.entity_of tracker.enrollment_of
  who-as event is =
      ap (option_and_then (λ (enrollment : Enrollment). (facts_in base).entity enrollment.entity)) (enrolled-as event is)
      ∙ then-same (λ (enrollment : Enrollment). (facts_in base).entity enrollment.entity)
      (λ (enrollment : Enrollment). (facts_in (base ++ writes)).entity enrollment.entity)
      (option_and_then (facts_in (base ++ writes)).enrollment event.enrollment)
      (λ enrollment found.
      let on = and_then-some (facts_in (base ++ writes)).enrollment event.enrollment enrollment found in
      still-entity event on.0 enrollment is on.1 on.2)

  untouched-row : (r : Records) → event_row r (facts_in base) id ≡ event_row r (facts_in (base ++ writes)) id
  untouched-row r =
      event-row-same r (facts_in base) (facts_in (base ++ writes)) id (sym (event-same base writes id unnamed-event))
      (λ event is. record { enrolled = enrolled-as event is; who = who-as event is })

-- ---- values

row-as : (r : Records) (f g : Facts) (key : ValueKey) → f.value key ≡ g.value key
    → ((text : List ℕ) → g.value key ≡ Some text → (objects : ValueObjects) → values.objects_of r key ≡ Some objects
    → approved_at f r key ≡ approved_at g r key) → values.row_of r f key ≡ values.row_of r g key
unfolding values.row_of values.row_with
row-as r f g key value approved =
    ap (option_and_then (λ text. option_map (row_on r key (approved_at f r key) (tree f r) text) (values.objects_of r key))) value
    ∙ then-same (λ text. option_map (row_on r key (approved_at f r key) (tree f r) text) (values.objects_of r key))
    (λ text. option_map (row_on r key (approved_at g r key) (tree g r) text) (values.objects_of r key)) (g.value key)
    (λ text is. by_objects text is (values.objects_of r key) refl)
  where
    by_objects : (text : List ℕ) → g.value key ≡ Some text → (o : Option ValueObjects) → values.objects_of r key ≡ o
        → option_map (row_on r key (approved_at f r key) (tree f r) text) o ≡ option_map (row_on r key (approved_at g r key) (tree g r) text) o
    by_objects text is (Some objects) are =
        let units = units-same r f g in
        let same = approved text is objects are in
        λ i. Some (row_on r key (same i) (units i) text objects)
    by_objects text is None are = refl

-- ---- writes of which others are the last

later-named : {K : Type 0} (named : Write → Option K) (k : K) (first last : List Write) → IsIn k (filter_map named last)
    → IsIn k (filter_map named (first ++ last))
later-named named k first last there =
    let w = in-given named last k there in
    given-in named w.a k w.is (first ++ last) (in-right w.a first last w.there)

later-touched : (facts : Facts) (id : List ℕ) (first last : List Write) → IsIn id (events_touched facts last)
    → IsIn id (events_touched facts (first ++ last))
later-touched facts id first last there =
    subst (IsIn id) (sym (gathered-append (events_by facts) first last)) (in-right id (events_touched facts first) (events_touched facts last) there)

pub rows-tree : (r : Records) → ((log : Facts) → IsTree (tree log r)) → IsTree (unit_rows r)
unfolding tree
rows-tree r stands = stands (facts_in [])

rows-count : (r : Records) → length (unit_rows r) ≡ length r.organisation_units
rows-count r = length-map r.organisation_units _

pub log-stands : (r : Records) (log : Facts) → IsTree (unit_rows r) → StandsTree r log
log-stands r log t = record { is_tree = units-tree r log t; numbers = units-count r log }

row-is : (r : Records) (facts : Facts) (key : ValueKey) (text : List ℕ) (objects : ValueObjects) → facts.value key ≡ Some text
    → values.objects_of r key ≡ Some objects → values.row_of r facts key ≡ Some (values.row_with r facts key text objects)
unfolding values.row_of
row-is r facts key text objects value are =
    λ i. option_and_then (λ t. option_map (values.row_with r facts key t) (are i)) (value i)

-- the rows that the tables of a log have
pub start-rows : (r : Records) (start : List Write) (rows : List Row) → rows ≡ (listed_in r start).rows
    → rows ≡ values.rows_of r (facts_in start) (values_named start)
unfolding listed_in
start-rows r start rows are = are

module _ (r : Records) (t : IsTree (unit_rows r)) (rows : List Row) (start : List Write) (are : rows ≡ values.rows_of r (facts_in start) (values_named start))
  where
    -- what is sought by the rows of the base is found where the key has a row
    pub sought-has : (approvals : List ApprovalKey) (key : ValueKey) (text : List ℕ) (objects : ValueObjects) → (facts_in start).value key ≡ Some text
        → values.objects_of r key ≡ Some objects → has_position r (approved_alone approvals) key ≡ true → IsIn key (decided_by r rows approvals)
    sought-has approvals key text objects value objects_are decided =
        let is = row-is r (facts_in start) key text objects value objects_are in
        let row = values.row_with r (facts_in start) key text objects in
        let there : IsIn row rows =
        subst (IsIn row) (sym are) ((rows-list r (facts_in start) (log-stands r (facts_in start) t) (values_named start)).has key row
        (value-held start key text value) is) in
        to-filter (has_position r (approved_alone approvals)) key (found r rows approvals)
        (found-has r t (rows-count r) rows (facts_in start) approvals key row there is decided) decided

    module _ (base first last : List Write) (whole : start ++ (first ++ last) ≡ base ++ last) where
      -- of a value that isn't touched the position is the same
      position-same : (key : ValueKey) → (IsIn key (values_sought r rows (first ++ last)) → ⊥) → (text : List ℕ)
          → (facts_in (base ++ last)).value key ≡ Some text → (objects : ValueObjects) → values.objects_of r key ≡ Some objects
          → approved_at (facts_in base) r key ≡ approved_at (facts_in (base ++ last)) r key
      position-same key out text held objects are_objects =
          elim (cases_Bool (is_decided r (first ++ last) key)) [
            | inl decided ↦
                let before : (facts_in start).value key ≡ Some text =
                sym (value-same start (first ++ last) key (λ there. out (in-left key (values_named (first ++ last)) _ there)))
                ∙ ap (λ writes. (facts_in writes).value key) whole ∙ held in
                absurd (out (in-right key (values_named (first ++ last)) (decided_by r rows (approvals_named (first ++ last)))
                (sought-has (approvals_named (first ++ last)) key text objects before are_objects decided)))
            | inr not_decided ↦ undecided-same r (first ++ last) (facts_in base) (facts_in (base ++ last))
                (λ asked unnamed. sym (approval-same base last asked (λ there. unnamed (later-named approval_named asked first last there)))) key not_decided
          ]

      covers-at : (keys : List ValueKey) (ids : List (List ℕ)) (names : List RegKey) → keys ≡ values_sought r rows (first ++ last)
          → ids ≡ events_touched (facts_in (base ++ last)) (first ++ last) → names ≡ regs_named (first ++ last)
          → Covers r (facts_in base) (facts_in (base ++ last)) keys ids names
      covers-at keys ids names of_values of_events of_regs =
          let touched = values_sought r rows (first ++ last) in
          let hit = events_touched (facts_in (base ++ last)) (first ++ last) in
          record {
            units = units-same r (facts_in base) (facts_in (base ++ last));
            values = λ key out.
                let none : IsIn key touched → ⊥ = λ there. out (subst (λ list. Contains list key) (sym of_values) (to-contains key touched there)) in
                row-as r (facts_in base) (facts_in (base ++ last)) key
                (sym (value-same base last key (λ there. none (in-left key (values_named (first ++ last)) _ (later-named value_named key first last there)))))
                (λ text held. position-same key none text held);
            events = λ id out. untouched-row base last id
                (λ there. out (subst (λ list. Contains list id) (sym of_events)
                (to-contains id hit (later-touched (facts_in (base ++ last)) id first last there)))) r;
            regs = λ key out. reg-row-same r (facts_in base) (facts_in (base ++ last)) key
                (sym (reg-same base last key (λ there. out (subst (λ list. Contains list key) (sym of_regs)
                (to-contains key (regs_named (first ++ last)) (later-named reg_named key first last there))))));
          }

    -- the keys that changes touch cover what any last part of them changed
    pub touched-covers : (hit : List Write) (facts : Facts) (keys : List ValueKey) (ids : List (List ℕ)) (names : List RegKey)
        → keys ≡ values_sought r rows hit → ids ≡ events_touched facts hit → names ≡ regs_named hit → (base first last : List Write)
        → facts ≡ facts_in (start ++ hit) → start ++ hit ≡ base ++ last → hit ≡ first ++ last → Covers r (facts_in base) facts keys ids names
    touched-covers hit facts keys ids names of_values of_events of_regs base first last held split part =
        let seen : facts ≡ facts_in (base ++ last) = held ∙ ap facts_in split in
        subst (λ (f : Facts). Covers r (facts_in base) f keys ids names) (sym seen)
        (covers-at base first last (ap (λ w. start ++ w) (sym part) ∙ split) keys ids names (of_values ∙ ap (values_sought r rows) part)
        (of_events ∙ (λ i. events_touched (seen i) (part i))) (of_regs ∙ ap regs_named part))

    -- ---- what is sought is what is touched

    has-row : (key : ValueKey) → has_row r (facts_in start) key ≡ true → (row : Row) × (values.row_of r (facts_in start) key ≡ Some row)
    has-row key e = by_row (values.row_of r (facts_in start) key) refl e
      where
        by_row : (o : Option Row) → values.row_of r (facts_in start) key ≡ o → is_some o ≡ true
            → (row : Row) × (values.row_of r (facts_in start) key ≡ Some row)
        by_row (Some row) is e = (row, is)
        by_row None is e = absurd (false≢true e)

    to-touched : (approvals : List ApprovalKey) (key : ValueKey) → IsIn key (decided_by r rows approvals)
        → IsIn key (filter (has_position r (approved_alone approvals)) (values_held r start))
    to-touched approvals key there =
        let sought = in-filter (has_position r (approved_alone approvals)) key (found r rows approvals) there in
        let from = found-sound r rows approvals key sought.0 in
        let own = (rows-list r (facts_in start) (log-stands r (facts_in start) t) (values_named start)).from from.row (subst (IsIn from.row) are from.there) in
        let same : own.a ≡ key = inside-key (sym (key-of-row r (facts_in start) t (rows-count r) own.a from.row own.is) ∙ from.is) in
        let is : values.row_of r (facts_in start) key ≡ Some from.row = ap (values.row_of r (facts_in start)) (sym same) ∙ own.is in
        to-filter (has_position r (approved_alone approvals)) key (values_held r start)
        (to-filter (has_row r (facts_in start)) key (values_named start) (subst (λ k. IsIn k (values_named start)) same own.there) (ap is_some is)) sought.1
      where
        inside-key : {a b : ValueKey} → Some a ≡ Some b → a ≡ b
        inside-key {a = a} e = ap (λ o. unwrap_or o a) e

    from-touched : (approvals : List ApprovalKey) (key : ValueKey)
        → IsIn key (filter (has_position r (approved_alone approvals)) (values_held r start)) → IsIn key (decided_by r rows approvals)
    from-touched approvals key there =
        let kept = in-filter (has_position r (approved_alone approvals)) key (values_held r start) there in
        let held = in-filter (has_row r (facts_in start)) key (values_named start) kept.0 in
        let row = has-row key held.1 in
        let in_rows : IsIn row.0 rows =
        subst (IsIn row.0) (sym are) ((rows-list r (facts_in start) (log-stands r (facts_in start) t) (values_named start)).has key row.0 held.0 row.1) in
        to-filter (has_position r (approved_alone approvals)) key (found r rows approvals)
        (found-has r t (rows-count r) rows (facts_in start) approvals key row.0 in_rows row.1 kept.1) kept.1

    pub places-touched : (facts : Facts) (hit : List Write)
        → value_places r facts (values_sought r rows hit) ≡ value_places r facts (values_touched r start hit)
    places-touched facts hit =
        places-same r facts (values_sought r rows hit) (values_touched r start hit)
        (either (values_named hit) (decided_by r rows (approvals_named hit)) (filter (is_decided r hit) (values_held r start)) (to-touched (approvals_named
        hit)))
        (either (values_named hit) (filter (is_decided r hit) (values_held r start)) (decided_by r rows (approvals_named hit)) (from-touched
        (approvals_named hit)))
      where
        either : (front xs ys : List ValueKey) → ((k : ValueKey) → IsIn k xs → IsIn k ys) → (k : ValueKey) → IsIn k (front ++ xs) → IsIn k (front ++ ys)
        either front xs ys more k there =
            elim (in-append k front xs there) [
              | inl first ↦ in-left k front ys first
              | inr second ↦ in-right k front ys (more k second)
            ]

pub covers-as : (r : Records) (before after : Facts) {keys other : List ValueKey} {ids others : List (List ℕ)} {names more : List RegKey} → keys ≡ other
    → ids ≡ others → names ≡ more → Covers r before after other others more → Covers r before after keys ids names
covers-as r before after {other = other} {ids = ids} {others = others} {names = names} {more = more} same_keys same_ids same_names cover =
    subst (λ k. Covers r before after k ids names) (sym same_keys) (subst (λ k. Covers r before after other k names) (sym same_ids)
    (subst (λ k. Covers r before after other others k) (sym same_names) cover))
