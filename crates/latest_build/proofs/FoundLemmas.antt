-- The values that approvals decide are among those that are found by the groups and ranges of rows.
use Rattle.std.proofs.Common.{◌≡◌, ◌∙◌, ◌⊎◌, inl, inr, ℕ, zero, suc, ◌+◌, ◌-◌, ◌<◌, Bool, true, false, not, cond, ◌&&◌, ◌==◌, List, [], ◌∷◌, ◌++◌}
use Rattle.std.proofs.Common.{Option, Some, None, length, map, get_or, refl, sym, ap, subst, arith, add-one, append_assoc}
use Rattle.std.specs.Prelude.{nat_eq, nat_le, nat_lt, option_map, option_and_then, slice_get}
use Rattle.std.specs.List.{filter, filter_map, position_from}
use Rattle.std.specs.List.Sorted.{IsStrictlySortedBy}
use Rattle.std.specs.Option.{is_some, option_map_or, option_or, unwrap_or}
use Rattle.std.specs.Cmp.Lexicographic.{nat_list_eq_equiv}
use Rattle.std.proofs.lemmas.Bool.{and_from, and_parts, cases_Bool, cases_lt, eq-eqb, eqb-true, false≢true}
use Rattle.std.proofs.lemmas.List.{length-map}
use Rattle.std.proofs.lemmas.Option.{slice_get-get_or, slice_get-map, slice_get_within, unwrap_or-slice_get}
use Rattle.dh_base.specs.declared.plain.Need.TheVariants.{All}
use Rattle.dh_changes.specs.declared.change.Write.TheVariants as write
use Rattle.dh_changes.specs.declared.keys.ApprovalKey.{ApprovalKey}
use Rattle.dh_changes.specs.declared.keys.ValueKey.{ValueKey}
use Rattle.dh_changes.specs.Keys.{same_approval_key}
use Rattle.dh_changes.proofs.KeyLemmas.{same_approval_key-Decides}
use Rattle.dh_periods.specs.declared.name.PeriodName.{PeriodName}
use Rattle.dh_periods.specs.declared.kind.PeriodType.{PeriodType}
use Rattle.dh_periods.specs.Days.{first_day, last_day}
use Rattle.dh_periods.specs.Keys.{same_period}
use Rattle.dh_periods.specs.Places.{containing_of}
use Rattle.dh_periods.proofs.KeyLemmas.{same_period-Decides}
use Rattle.dh_periods.proofs.TextLemmas.{and_then-some, map-some}
use Rattle.org_tree.specs.Units.{IsTree, UnitRow, ancestor_of, climb, id_at, is_under, level_of, order_of, parent_of, size_of}
use Rattle.org_tree.proofs.CountLemmas.{first_below_tells}
use Rattle.org_tree.proofs.WayLemmas.{under-itself}
use Rattle.org_tree.proofs.OrderLemmas.{order-differs, order-lt, under-interval, under-parent, under-trans}
use Rattle.dh_metadata.specs.Places.{place_of}
use Rattle.dh_metadata.proofs.PlaceLemmas.{place_of-at}
use Rattle.dh_metadata.proofs.DistinctLemmas.{place_of-below}
use Rattle.dh_metadata.specs.declared.held.Records.{Records}
use Rattle.dh_metadata.specs.declared.kind.Kind.{Kind}
use Rattle.dh_metadata.specs.declared.kind.Kind.TheVariants.{DataElement, OrganisationUnit, CategoryOptionCombo}
use Rattle.dh_metadata.specs.declared.records.Element.{Element}
use Rattle.dh_metadata.specs.declared.records.OptionCombo.{OptionCombo}
use Rattle.dh_metadata.specs.declared.records.Unit.{Unit as OrgUnit}
use Rattle.dh_metadata.specs.declared.records.Workflow.{Workflow}
use Rattle.dh_metadata.specs.Workflows.{workflow_of}
use Rattle.dh_metadata.specs.Approval.{levels_at, unit_rows}
use Rattle.dh_metadata.specs.Objects.{find_of, ids_of}
use Rattle.dh_changes.specs.declared.said.ApprovalState.{ApprovalState}
use Rattle.dh_changes.specs.declared.said.ApprovalState.TheVariants as state
use Rattle.dh_changes.specs.Said.{same_id, said_by, last_said, of_approval}
use Rattle.dh_changes.specs.Facts.{Facts, facts_in}
use Rattle.dh_records.specs.Access.{tree}
use Rattle.dh_records.specs.Approved.{approved_at, approved_by, approved_by_element, approved_in, approved_of, counts, is_approved, is_approved_as}
use Rattle.dh_records.specs.Approved.{is_approved_at, key_of, least_position, scope_of}
use Rattle.table_rows.specs.declared.row.Group.{Group}
use Rattle.table_rows.specs.declared.row.Row.{Row}
use Rattle.table_rows.specs.Cells.{gathered}
use Rattle.table_rows.specs.Groups.{each_once, groups_of}
use Rattle.table_rows.specs.Rows.{group_of, in_range, is_of_element, is_wanted, same_group, wanted_rows}
use Rattle.table_build.specs.declared.values.ValueObjects.{ValueObjects}
use Rattle.table_build.specs.Values as values
use Rattle.table_build.proofs.KeyLemmas.{given-in}
use Rattle.table_build.specs.Ordered.{in_order}
use Rattle.table_build.proofs.EachLemmas.{every}
use Rattle.table_build.proofs.OrderedLemmas.{in_order-sorted}
use Rattle.table_build.proofs.MemberLemmas.{IsIn, in_order-from, in_order-has, sorted-same}
use Rattle.table_latest.specs.declared.places.RowPlace.{RowPlace}
use Rattle.table_latest.specs.Keys.{place_cmp}
use Rattle.table_latest.proofs.SearchLemmas.{place_total}
use Rattle.latest_build.proofs.CoverLemmas.{one-place}
use Rattle.latest_build.specs.declared.found.Reach.{Reach}
use Rattle.latest_build.specs.Found.{combo_id, element_id, found, found_by, in_group, in_group_reached, in_groups, in_reach, is_around, is_reached, key_at}
use Rattle.latest_build.specs.Found.{of_element, of_elements, reach_of, reach_with, type_by, type_for, type_of, unit_at, unit_id, unit_number_id, value_key}
use Rattle.latest_build.specs.Places.{value_place, value_places}
use Rattle.latest_build.specs.Touches.{approved_alone, has_position}
use Rattle.latest_build.proofs.KeyLemmas.{Objects, objects-parts}
use Rattle.latest_build.proofs.ListLemmas.{in-given, to-filter, in-filter}
use Rattle.latest_build.proofs.TrackerLemmas.{in-gathered, in-left, in-right}

-- ---- members of lists

pub in-append : {A : Type 0} (x : A) (xs ys : List A) → IsIn x (xs ++ ys) → IsIn x xs ⊎ IsIn x ys
in-append x [] ys there = inr there
in-append x (z ∷ zs) ys (inl e) = inl (inl e)
in-append x (z ∷ zs) ys (inr later) =
    elim (in-append x zs ys later) [
      | inl first ↦ inl (inr first)
      | inr second ↦ inr second
    ]

in-none : {A : Type 0} (x : A) (b : Bool) (xs : List A) → IsIn x (cond b xs []) → IsIn x xs
in-none x true xs there = there
in-none x false xs none = absurd none

any-gathered : {A B : Type 0} (P : B → Type 0) (f : A → List B) → ((a : A) (b : B) → IsIn b (f a) → P b) → (xs : List A) (b : B) → IsIn b (gathered f xs)
    → P b
any-gathered P f all [] b none = absurd none
any-gathered P f all (x ∷ xs) b there =
    elim (in-append b (f x) (gathered f xs) there) [
      | inl here ↦ all x b here
      | inr later ↦ any-gathered P f all xs b later
    ]

in-or : {A B : Type 0} (P : B → Type 0) (f : A → List B) → ((a : A) (b : B) → IsIn b (f a) → P b) → (o : Option A) (b : B) → IsIn b (option_map_or f o [])
    → P b
in-or P f all (Some a) b there = all a b there
in-or P f all None b none = absurd none

-- keys with the same members have the same places
pub places-same : (r : Records) (facts : Facts) (xs ys : List ValueKey) → ((k : ValueKey) → IsIn k xs → IsIn k ys)
    → ((k : ValueKey) → IsIn k ys → IsIn k xs) → value_places r facts xs ≡ value_places r facts ys
unfolding value_places
places-same r facts xs ys left right =
    sorted-same place_cmp place_total (in_order place_cmp (λ p. p) (filter_map (value_place r facts) xs))
    (in_order place_cmp (λ p. p) (filter_map (value_place r facts) ys)) (ordered xs) (ordered ys) (moved xs ys left) (moved ys xs right)
  where
    ordered : (keys : List ValueKey) → IsStrictlySortedBy place_cmp (in_order place_cmp (λ p. p) (filter_map (value_place r facts) keys))
    ordered keys = in_order-sorted place_cmp (λ (p : RowPlace). p) place_total one-place (filter_map (value_place r facts) keys)

    moved : (xs ys : List ValueKey) → ((k : ValueKey) → IsIn k xs → IsIn k ys) → (p : RowPlace)
        → IsIn p (in_order place_cmp (λ p. p) (filter_map (value_place r facts) xs))
        → IsIn p (in_order place_cmp (λ p. p) (filter_map (value_place r facts) ys))
    moved xs ys left p there =
        let given = in-given (value_place r facts) xs p
        (in_order-from place_cmp (λ (q : RowPlace). q) place_total one-place (λ q. Unit {0}) (λ x y p q same. same) (filter_map (value_place r facts) xs) p
        there) in
        in_order-has place_cmp (λ (q : RowPlace). q) place_total one-place (λ q. Unit {0}) (λ x y p q same. same) (filter_map (value_place r facts) ys) p
        (every (filter_map (value_place r facts) ys)) (given-in (value_place r facts) given.a p given.is ys (left given.a given.there))

-- ---- what is found is the key of a row

pub record IsKeyOf (r : Records) (rows : List Row) (key : ValueKey) : Type 0 where
  pub row : Row
  pub there : IsIn row rows
  pub is : key_at r row ≡ Some key

module _ (r : Records) (rows : List Row) where
  group-sound : (reach : Reach) (group : Group) (key : ValueKey) → IsIn key (in_group r rows reach group) → IsKeyOf r rows key
  group-sound reach group key there =
      let given = in-given (key_at r) (wanted_rows group All reach.from reach.to rows) key there in
      record { row = given.a; there = (in-filter (is_wanted group All reach.from reach.to) given.a rows given.there).0; is = given.is }

  groups-sound : (approval : ApprovalKey) (reach : Reach) (element : ℕ) (kind : PeriodType) (key : ValueKey)
      → IsIn key (in_groups r rows approval reach element kind) → IsKeyOf r rows key
  groups-sound approval reach element kind =
      any-gathered (IsKeyOf r rows) (in_group_reached r rows approval reach kind)
      (λ group key there. group-sound reach group key (in-none key (is_reached kind approval reach group) (in_group r rows reach group) there))
      (groups_of element rows)

  elements-sound : (approval : ApprovalKey) (reach : Reach) (n : ℕ) (key : ValueKey) → IsIn key (of_elements r rows approval reach n) → IsKeyOf r rows key
  elements-sound approval reach zero key none = absurd none
  elements-sound approval reach (suc n) key there =
      elim (in-append key (of_elements r rows approval reach n) (of_element r rows approval reach n) there) [
        | inl before ↦ elements-sound approval reach n key before
        | inr here ↦ in-or (IsKeyOf r rows) (in_groups r rows approval reach n) (groups-sound approval reach n) (type_for r approval n) key here
      ]

  pub found-sound : (approvals : List ApprovalKey) (key : ValueKey) → IsIn key (found r rows approvals) → IsKeyOf r rows key
  found-sound =
      any-gathered (IsKeyOf r rows) (found_by r rows)
      (λ approval. in-or (IsKeyOf r rows) (in_reach r rows approval) (λ reach. elements-sound approval reach (length r.data_elements)) (reach_of r approval))

-- ---- the key of the row of a key

id-found : (r : Records) (kind : Kind) (id : List ℕ) (n : ℕ) → find_of r kind id ≡ Some n → slice_get (ids_of r kind) n ≡ Some id
id-found r kind id n is =
    slice_get-get_or (ids_of r kind) n [] (place_of-below (ids_of r kind) id n is) ∙ ap Some (place_of-at (ids_of r kind) id n is)

element-id : (r : Records) (id : List ℕ) (n : ℕ) → find_of r DataElement id ≡ Some n → element_id r n ≡ Some id
unfolding element_id
element-id r id n is = sym (slice_get-map (λ (found : Element). found.id) r.data_elements n) ∙ id-found r DataElement id n is

combo-id : (r : Records) (id : List ℕ) (n : ℕ) → find_of r CategoryOptionCombo id ≡ Some n → combo_id r n ≡ Some id
unfolding combo_id
combo-id r id n is = sym (slice_get-map (λ (found : OptionCombo). found.id) r.category_option_combos n) ∙ id-found r CategoryOptionCombo id n is

pub unit_at-is : (us : List UnitRow) → IsTree us → (x order : ℕ) → x < length us → order_of us x ≡ order → unit_at us order ≡ Some x
unit_at-is us t x order within is =
    elim (first_below_tells (λ z. order_of us z == order) (length us)) [
      | inl first ↦
          let same : order_of us first.0 ≡ order_of us x = eqb-true _ _ first.2.passes ∙ sym is in
          first.1 ∙ ap Some (order-differs us t first.0 x first.2.below within same)
      | inr none ↦
          let met : (order_of us x == order) ≡ true = eq-eqb _ _ is in
          let apart : (order_of us x == order) ≡ false = none.1 x within in
          absurd (cc)
    ]

pub unit_at-none : (us : List UnitRow) → IsTree us → (order : ℕ) → (order < length us → ⊥) → unit_at us order ≡ None
unit_at-none us t order out =
    elim (first_below_tells (λ z. order_of us z == order) (length us)) [
      | inl first ↦
          let same : order_of us first.0 ≡ order = eqb-true _ _ first.2.passes in
          absurd (out (subst (λ n. n < length us) same (order-lt us t first.0 first.2.below)))
      | inr none ↦ none.0
    ]

unit-id : (r : Records) → IsTree (unit_rows r) → (id : List ℕ) (n order : ℕ) → n < length (unit_rows r) → find_of r OrganisationUnit id ≡ Some n
    → order_of (unit_rows r) n ≡ order → unit_id r order ≡ Some id
unfolding unit_id
unit-id r t id n order within is at =
    ap (option_and_then (unit_number_id r)) (unit_at-is (unit_rows r) t n order within at)
    ∙ sym (slice_get-map (λ (found : OrgUnit). found.id) r.organisation_units n) ∙ id-found r OrganisationUnit id n is

pub unit-there : (r : Records) → IsTree (unit_rows r) → (n order : ℕ) (place : OrgUnit) → n < length (unit_rows r) → order_of (unit_rows r) n ≡ order
    → slice_get r.organisation_units n ≡ Some place → Some place.id ≡ unit_id r order
unfolding unit_id
unit-there r t n order place within at is =
    sym (ap (option_and_then (unit_number_id r)) (unit_at-is (unit_rows r) t n order within at) ∙ ap (option_map (λ (found : OrgUnit). found.id)) is)

pub unit-nowhere : (r : Records) → IsTree (unit_rows r) → (order : ℕ) → (order < length (unit_rows r) → ⊥) → None ≡ unit_id r order
unfolding unit_id
unit-nowhere r t order out = sym (ap (option_and_then (unit_number_id r)) (unit_at-none (unit_rows r) t order out))

-- the objects of the row of a key
record HasObjects (r : Records) (facts : Facts) (key : ValueKey) (row : Row) : Type 0 where
  objects : ValueObjects
  are : Objects r key objects
  element : row.element ≡ objects.element
  combo : row.combo ≡ objects.combo
  attribute : row.attribute ≡ objects.attribute
  period : row.period ≡ key.period
  order : order_of (unit_rows r) objects.unit ≡ row.order

row-objects : (r : Records) (facts : Facts) (key : ValueKey) (row : Row) → values.row_of r facts key ≡ Some row → HasObjects r facts key row
unfolding values.row_of values.row_with tree
row-objects r facts key row is =
    let text = and_then-some (λ text. option_map (values.row_with r facts key text) (values.objects_of r key)) (facts.value key) row is in
    let o = map-some (values.row_with r facts key text.0) (values.objects_of r key) row text.2 in
    record {
      objects = o.0;
      are = objects-parts r key o.0 o.1;
      element = ap (λ (x : Row). x.element) (sym o.2);
      combo = ap (λ (x : Row). x.combo) (sym o.2);
      attribute = ap (λ (x : Row). x.attribute) (sym o.2);
      period = ap (λ (x : Row). x.period) (sym o.2);
      order = ap (λ (x : Row). x.order) o.2;
    }

pub key-of-row : (r : Records) (facts : Facts) → IsTree (unit_rows r) → length (unit_rows r) ≡ length r.organisation_units → (key : ValueKey) (row : Row)
    → values.row_of r facts key ≡ Some row → key_at r row ≡ Some key
unfolding key_at
key-of-row r facts t numbers key row is =
    let has = row-objects r facts key row is in
    let o = has.objects in
    let element : element_id r row.element ≡ Some key.element = ap (element_id r) has.element ∙ element-id r key.element o.element has.are.element in
    let unit : unit_id r row.order ≡ Some key.unit = unit-id r t key.unit o.unit row.order (unit-in r key.unit o.unit numbers has.are.unit) has.are.unit
    has.order in
    let combo : combo_id r row.combo ≡ Some key.combo = ap (combo_id r) has.combo ∙ combo-id r key.combo o.combo has.are.combo in
    let attribute : combo_id r row.attribute ≡ Some key.attribute = ap (combo_id r) has.attribute ∙ combo-id r key.attribute o.attribute has.are.attribute in
    let around = has.period in
    λ i. option_and_then (λ e. option_and_then (λ u. option_and_then (λ c. option_map (λ a. value_key e (around i) u c a) (attribute i)) (combo i)) (unit i))
    (element i)
  where
    unit-in : (r : Records) (id : List ℕ) (n : ℕ) → length (unit_rows r) ≡ length r.organisation_units → find_of r OrganisationUnit id ≡ Some n
        → n < length (unit_rows r)
    unit-in r id n numbers is =
        subst (λ k. n < k) (length-map r.organisation_units _ ∙ sym numbers) (place_of-below (ids_of r OrganisationUnit) id n is)

-- ---- an approval that decides a value

some-then : {A B : Type 0} (f : A → Option B) (o : Option A) → is_some (option_and_then f o) ≡ true → (a : A) × (o ≡ Some a) × (is_some (f a) ≡ true)
some-then f (Some a) e = (a, refl, e)
some-then f None e = absurd (false≢true e)

some-or : {A : Type 0} (f : A → Bool) (o : Option A) → option_map_or f o false ≡ true → (a : A) × (o ≡ Some a) × (f a ≡ true)
some-or f (Some a) e = (a, refl, e)
some-or f None e = absurd (false≢true e)

some-first : {K : Type 0} (t : K → Bool) (at : ℕ) (xs : List K) → is_some (position_from t at xs) ≡ true → (x : K) × (t x ≡ true)
some-first t at [] e = absurd (false≢true e)
some-first {K = K} t at (x ∷ xs) e = by_first (t x) refl e (λ rest. some-first t (at + 1) xs rest)
  where
    by_first : (b : Bool) → t x ≡ b → is_some (cond b (Some at) (position_from t (at + 1) xs)) ≡ true
        → (is_some (position_from t (at + 1) xs) ≡ true → (x : K) × (t x ≡ true)) → (x : K) × (t x ≡ true)
    by_first true is e rest = (x, is)
    by_first false is e rest = rest e

said-in : (asked : ApprovalKey) (keys : List ApprovalKey) (s : ApprovalState)
    → last_said (of_approval asked) (map said_by (map write.Approve keys)) ≡ Some s → IsIn asked keys
said-in asked [] s e = absurd (cc)
said-in asked (key ∷ keys) s e =
    by_rest (last_said (of_approval asked) (map said_by (map write.Approve keys))) refl e (λ held is. said-in asked keys held is)
  where
    here : (b : Bool) → same_approval_key key asked ≡ b → cond b (Some state.Approved) None ≡ Some s → IsIn asked (key ∷ keys)
    here true is e = inl (sym ((same_approval_key-Decides key asked).0 is))
    here false is e = absurd (cc)

    by_rest : (o : Option ApprovalState) → last_said (of_approval asked) (map said_by (map write.Approve keys)) ≡ o
        → option_or o (of_approval asked (said_by (write.Approve key))) ≡ Some s
        → ((held : ApprovalState) → last_said (of_approval asked) (map said_by (map write.Approve keys)) ≡ Some held → IsIn asked keys)
        → IsIn asked (key ∷ keys)
    by_rest (Some held) is e rest = inr (rest held is)
    by_rest None is e rest = here (same_approval_key key asked) refl e

counts-in : (asked : ApprovalKey) (keys : List ApprovalKey) → counts ((approved_alone keys).approval asked) ≡ true → IsIn asked keys
unfolding facts_in
counts-in asked keys e = by_said (last_said (of_approval asked) (map said_by (map write.Approve keys))) refl e
  where
    by_said : (o : Option ApprovalState) → last_said (of_approval asked) (map said_by (map write.Approve keys)) ≡ o → counts (unwrap_or o state.None) ≡ true
        → IsIn asked keys
    by_said (Some s) is e = said-in asked keys s is
    by_said None is e = absurd (false≢true e)

-- what is asked for the position of a value
record Asks (r : Records) (facts : Facts) (key : ValueKey) : Type 0 where
  element : ℕ
  element_is : find_of r DataElement key.element ≡ Some element
  unit : ℕ
  unit_is : find_of r OrganisationUnit key.unit ≡ Some unit
  number : ℕ
  number_is : workflow_of r.data_sets element ≡ Some number
  workflow : Workflow
  workflow_is : slice_get r.data_approval_workflows number ≡ Some workflow
  around : PeriodName
  around_is : containing_of workflow.period_type (first_day key.period) (last_day key.period) ≡ Some around
  level : ℕ
  above : ℕ
  above_is : ancestor_of (unit_rows r) unit level ≡ Some above
  place : OrgUnit
  place_is : slice_get r.organisation_units above ≡ Some place
  approved : counts (facts.approval (key_of (scope_of workflow key.attribute around) place.id)) ≡ true

asks : (r : Records) (facts : Facts) (key : ValueKey) → has_position r facts key ≡ true → Asks r facts key
unfolding approved_at approved_of approved_in tree
asks r facts key e =
    let element = some-then (approved_by_element facts r key) (find_of r DataElement key.element) e in
    let unit = some-then (λ unit. approved_of facts r element.0 unit key.period key.attribute) (find_of r OrganisationUnit key.unit) element.2 in
    let number = some-then (λ number. approved_in facts r number unit.0 key.period key.attribute) (workflow_of r.data_sets element.0) unit.2 in
    let workflow = some-then (λ (workflow : Workflow). approved_by facts r number.0 workflow unit.0 key.period key.attribute)
    (slice_get r.data_approval_workflows number.0) number.2 in
    let around = some-then (λ around. least_position facts r unit.0 (scope_of workflow.0 key.attribute around) (levels_at r number.0))
    (containing_of workflow.0.period_type (first_day key.period) (last_day key.period)) workflow.2 in
    let level = some-first (is_approved_at facts r unit.0 (scope_of workflow.0 key.attribute around.0)) 0 (levels_at r number.0) around.2 in
    let above = some-or (is_approved_as facts r (scope_of workflow.0 key.attribute around.0)) (ancestor_of (unit_rows r) unit.0 level.0) level.1 in
    let place = some-or (λ (found : OrgUnit). is_approved facts (scope_of workflow.0 key.attribute around.0) found.id)
    (slice_get r.organisation_units above.0) above.2 in
    record {
      element = element.0;
      element_is = element.1;
      unit = unit.0;
      unit_is = unit.1;
      number = number.0;
      number_is = number.1;
      workflow = workflow.0;
      workflow_is = workflow.1;
      around = around.0;
      around_is = around.1;
      level = level.0;
      above = above.0;
      above_is = above.1;
      place = place.0;
      place_is = place.1;
      approved = place.2;
    }

-- ---- where the approval's unit stands

misses : {K : Type 0} (t : K → Bool) (at : ℕ) (xs : List K) (i : ℕ) (d : K) → position_from t at xs ≡ None → i < length xs → t (get_or xs i d) ≡ false
misses t at [] i d e within = absurd (omega (arith, within))
misses {K = K} t at (x ∷ xs) i d e within = by_first (t x) refl e i within (λ i e within. misses t (at + 1) xs i d e within)
  where
    by_first : (b : Bool) → t x ≡ b → cond b (Some at) (position_from t (at + 1) xs) ≡ None → (i : ℕ) → i < suc (length xs)
        → ((i : ℕ) → position_from t (at + 1) xs ≡ None → i < length xs → t (get_or xs i d) ≡ false) → t (get_or (x ∷ xs) i d) ≡ false
    by_first true is e i within rest = absurd (cc)
    by_first false is e zero within rest = is
    by_first false is e (suc i) within rest = rest i e (omega (arith, within))

own-place : (ids : List (List ℕ)) (n : ℕ) → n < length ids → ((x y : ℕ) → x < length ids → y < length ids → get_or ids x [] ≡ get_or ids y [] → x ≡ y)
    → place_of ids (get_or ids n []) ≡ Some n
own-place ids n within differ = by_place (place_of ids (get_or ids n [])) refl
  where
    by_place : (o : Option ℕ) → place_of ids (get_or ids n []) ≡ o → o ≡ Some n
    by_place (Some k) is =
        ap Some (differ k n (place_of-below ids (get_or ids n []) k is) within (place_of-at ids (get_or ids n []) k is))
    by_place None is =
        absurd (false≢true (sym (misses (λ other. same_id (get_or ids n []) other) 0 ids n [] is within) ∙ nat_list_eq_equiv.refl (get_or ids n [])))

id-at : (units : List OrgUnit) (x : ℕ) → id_at (map (λ (unit : OrgUnit). (unit.id, unit.parent)) units) x
    ≡ get_or (map (λ (unit : OrgUnit). unit.id) units) x []
id-at units x =
    ap (λ o. option_map_or (λ (u : UnitRow). u.0) o []) (slice_get-map (λ (unit : OrgUnit). (unit.id, unit.parent)) units x)
    ∙ by_unit (slice_get units x)
    ∙ sym (ap (λ o. unwrap_or o []) (slice_get-map (λ (unit : OrgUnit). unit.id) units x))
    ∙ unwrap_or-slice_get (map (λ (unit : OrgUnit). unit.id) units) x []
  where
    by_unit : (o : Option OrgUnit) → option_map_or (λ (u : UnitRow). u.0) (option_map (λ (unit : OrgUnit). (unit.id, unit.parent)) o) []
        ≡ unwrap_or (option_map (λ (unit : OrgUnit). unit.id) o) []
    by_unit (Some unit) = refl
    by_unit None = refl

inside : {A : Type 0} (x y : A) → Some x ≡ Some y → x ≡ y
inside x y e = ap (λ o. unwrap_or o x) e

find-own : (r : Records) → IsTree (unit_rows r) → (n : ℕ) (place : OrgUnit) → n < length (unit_rows r) → slice_get r.organisation_units n ≡ Some place
    → find_of r OrganisationUnit place.id ≡ Some n
find-own r t n place within is =
    let ids = map (λ (unit : OrgUnit). unit.id) r.organisation_units in
    let long : length (unit_rows r) ≡ length ids = length-map r.organisation_units _ ∙ sym (length-map r.organisation_units _) in
    let at : get_or ids n [] ≡ place.id =
    sym (unwrap_or-slice_get ids n []) ∙ ap (λ o. unwrap_or o []) (slice_get-map (λ (unit : OrgUnit). unit.id) r.organisation_units n
    ∙ ap (option_map (λ (unit : OrgUnit). unit.id)) is) in
    ap (place_of ids) (sym at)
    ∙ own-place ids n (subst (λ k. n < k) long within)
    (λ x y x_in y_in same. t.ids_differ x y (subst (λ k. x < k) (sym long) x_in) (subst (λ k. y < k) (sym long) y_in)
    (id-at r.organisation_units x ∙ same ∙ sym (id-at r.organisation_units y)))

-- a unit is under each that one climbs to
climb-under : (us : List UnitRow) → IsTree us → (steps x y : ℕ) → x < length us → climb steps us x ≡ Some y → is_under us x y ≡ true
unfolding climb
climb-under us t zero x y within e = subst (λ v. is_under us x v ≡ true) (inside x y e) (under-itself us x within)
climb-under us t (suc steps) x y within e =
    let up = and_then-some (λ p. climb steps us p) (parent_of us x) y e in
    under-trans us t x up.0 y within (under-parent us t x up.0 within up.1) (climb-under us t steps up.0 y (t.parent_in_range x up.0 up.1) up.2)

ancestor-under : (us : List UnitRow) → IsTree us → (x level y : ℕ) → x < length us → ancestor_of us x level ≡ Some y → is_under us x y ≡ true
unfolding ancestor_of
ancestor-under us t x level y within e = by_level (nat_le level (level_of us x)) e
  where
    by_level : (b : Bool) → cond b (climb (level_of us x - level) us x) None ≡ Some y → is_under us x y ≡ true
    by_level true e = climb-under us t (level_of us x - level) x y within e
    by_level false e = absurd (cc)

-- ---- groups that have a row

self-group : (a : Group) → same_group a a ≡ true
self-group a =
    and_from _ _ (eq-eqb a.element a.element refl) (and_from _ _ (eq-eqb a.combo a.combo refl) (and_from _ _ (eq-eqb a.attribute a.attribute refl)
    ((same_period-Decides a.period a.period).1 refl)))

one-group : (a b : Group) → same_group a b ≡ true → a ≡ b
one-group a b e =
    let x = and_parts _ _ e in
    let y = and_parts _ _ x.1 in
    let z = and_parts _ _ y.1 in
    let element = eqb-true _ _ x.0 in
    let combo = eqb-true _ _ y.0 in
    let attribute = eqb-true _ _ z.0 in
    let period = (same_period-Decides a.period b.period).0 z.1 in
    λ i. record { element = element i; combo = combo i; attribute = attribute i; period = period i }

in-once : (g : Group) (groups : List Group) → IsIn g groups → IsIn g (each_once same_group groups)
in-once g [] none = absurd none
in-once g (x ∷ xs) (inl e) = inl e
in-once g (x ∷ xs) (inr later) =
    elim (cases_Bool (same_group x g)) [
      | inl same ↦ inl (sym (one-group x g same))
      | inr differ ↦ inr (to-filter (λ y. not (same_group x y)) g (each_once same_group xs) (in-once g xs later) (ap not differ))
    ]

in-mapped : {A B : Type 0} (f : A → B) (a : A) (xs : List A) → IsIn a xs → IsIn (f a) (map f xs)
in-mapped f a [] none = absurd none
in-mapped f a (x ∷ xs) (inl e) = inl (ap f e)
in-mapped f a (x ∷ xs) (inr later) = inr (in-mapped f a xs later)

in-groups : (row : Row) (element : ℕ) (rows : List Row) → IsIn row rows → row.element ≡ element → IsIn (group_of row) (groups_of element rows)
unfolding groups_of
in-groups row element rows there is =
    in-once (group_of row) (map group_of (filter (is_of_element element) rows))
    (in-mapped group_of row (filter (is_of_element element) rows) (to-filter (is_of_element element) row rows there (eq-eqb _ _ is)))

-- ---- what an approval decides is found

in-element : (r : Records) (rows : List Row) (approval : ApprovalKey) (reach : Reach) (n element : ℕ) (key : ValueKey) → element < n
    → IsIn key (of_element r rows approval reach element) → IsIn key (of_elements r rows approval reach n)
in-element r rows approval reach zero element key within there = absurd (omega (arith, within))
in-element r rows approval reach (suc n) element key within there =
    elim (cases_Bool (nat_eq element n)) [
      | inl same ↦ in-right key (of_elements r rows approval reach n) (of_element r rows approval reach n)
          (subst (λ e. IsIn key (of_element r rows approval reach e)) (eqb-true element n same) there)
      | inr differ ↦ in-left key (of_elements r rows approval reach n) (of_element r rows approval reach n)
          (in-element r rows approval reach n element key (below element n within differ) there)
    ]
  where
    below : (a b : ℕ) → a < suc b → nat_eq a b ≡ false → a < b
    below a b within differ = elim (cases_lt a b) [ inl less ↦ less | inr more ↦ absurd (false≢true (sym differ ∙ eq-eqb a b (omega (arith, within, more)))) ]

element-below : (r : Records) (id : List ℕ) (n : ℕ) → find_of r DataElement id ≡ Some n → n < length r.data_elements
element-below r id n is = subst (λ k. n < k) (length-map r.data_elements _) (place_of-below (ids_of r DataElement) id n is)

unit-within : (r : Records) (id : List ℕ) (n : ℕ) → find_of r OrganisationUnit id ≡ Some n → n < length (unit_rows r)
unit-within r id n is =
    subst (λ k. n < k) (length-map r.organisation_units _ ∙ sym (length-map r.organisation_units _)) (place_of-below (ids_of r OrganisationUnit) id n is)

type-is : (r : Records) (approval : ApprovalKey) (element number : ℕ) (workflow : Workflow) → workflow_of r.data_sets element ≡ Some number
    → slice_get r.data_approval_workflows number ≡ Some workflow → approval.workflow ≡ workflow.id → type_for r approval element ≡ Some workflow.period_type
unfolding type_for
type-is r approval element number workflow named found same =
    ap (option_and_then (type_of r approval)) named ∙ ap (option_and_then (type_by approval)) found
    ∙ ap (λ b. cond b (Some workflow.period_type) None) (ap (same_id workflow.id) same ∙ nat_list_eq_equiv.refl workflow.id)

reach-is : (r : Records) (approval : ApprovalKey) (unit attribute : ℕ) → find_of r OrganisationUnit approval.unit ≡ Some unit
    → find_of r CategoryOptionCombo approval.attribute ≡ Some attribute → reach_of r approval ≡ Some (reach_with r unit attribute)
unfolding reach_of
reach-is r approval unit attribute at with =
    ap (option_and_then (λ u. option_map (λ a. reach_with r u a) (find_of r CategoryOptionCombo approval.attribute))) at
    ∙ ap (option_map (λ a. reach_with r unit a)) with

around-is : (kind : PeriodType) (approval : ApprovalKey) (period around : PeriodName)
    → containing_of kind (first_day period) (last_day period) ≡ Some around → approval.period ≡ around → is_around kind approval period ≡ true
around-is kind approval period around is same =
    ap (λ o. option_map_or (λ p. same_period p approval.period) o false) is
    ∙ (same_period-Decides around approval.period).1 (sym same)

module _ (r : Records) (t : IsTree (unit_rows r)) (numbers : length (unit_rows r) ≡ length r.organisation_units) (rows : List Row) where
  -- the row lies in the range of the approval's unit
  wanted-is : (row : Row) (unit above attribute : ℕ) → unit < length (unit_rows r) → above < length (unit_rows r)
      → is_under (unit_rows r) unit above ≡ true → order_of (unit_rows r) unit ≡ row.order
      → is_wanted (group_of row) All (reach_with r above attribute).from (reach_with r above attribute).to row ≡ true
  wanted-is row unit above attribute unit_in above_in under at =
      let us = unit_rows r in
      let lies : in_range (order_of us above) (order_of us above + size_of us above) row ≡ true =
      subst (λ n. (nat_le (order_of us above) n && nat_lt n (order_of us above + size_of us above)) ≡ true) at
      (sym (under-interval us t unit above unit_in above_in) ∙ under) in
      and_from _ _ (self-group (group_of row)) (and_from _ _ refl lies)

  -- the rows of the approval's reach have it
  approval-has : (facts : Facts) (key : ValueKey) (row : Row) → IsIn row rows → values.row_of r facts key ≡ Some row → (approval : ApprovalKey)
      → (unit above attribute element : ℕ) (kind : PeriodType) → unit < length (unit_rows r) → above < length (unit_rows r)
      → is_under (unit_rows r) unit above ≡ true → order_of (unit_rows r) unit ≡ row.order → reach_of r approval ≡ Some (reach_with r above attribute)
      → type_for r approval element ≡ Some kind → is_around kind approval row.period ≡ true → row.attribute ≡ attribute → row.element ≡ element
      → element < length r.data_elements → IsIn key (found_by r rows approval)
  approval-has facts key row there is approval unit above attribute element kind unit_in above_in under at reach_at type_at period_at paired of within =
      let reach = reach_with r above attribute in
      let wanted = wanted-is row unit above attribute unit_in above_in under at in
      let in_one : IsIn key (in_group r rows reach (group_of row)) =
      given-in (key_at r) row key (key-of-row r facts t numbers key row is) (wanted_rows (group_of row) All reach.from reach.to rows)
      (to-filter (is_wanted (group_of row) All reach.from reach.to) row rows there wanted) in
      let reached : is_reached kind approval reach (group_of row) ≡ true = and_from _ _ (eq-eqb _ _ paired) period_at in
      let in_each : IsIn key (in_groups r rows approval reach element kind) =
      in-gathered (in_group_reached r rows approval reach kind) (group_of row) key (groups_of element rows) (in-groups row element rows there of)
      (subst (λ b. IsIn key (cond b (in_group r rows reach (group_of row)) [])) (sym reached) in_one) in
      let in_this : IsIn key (of_element r rows approval reach element) =
      subst (λ o. IsIn key (option_map_or (in_groups r rows approval reach element) o [])) (sym type_at) in_each in
      subst (λ o. IsIn key (option_map_or (in_reach r rows approval) o [])) (sym reach_at)
      (in-element r rows approval reach (length r.data_elements) element key within in_this)

  -- a value that has a row and whose approval these keys decide is found
  pub found-has : (facts : Facts) (approvals : List ApprovalKey) (key : ValueKey) (row : Row) → IsIn row rows → values.row_of r facts key ≡ Some row
      → has_position r (approved_alone approvals) key ≡ true → IsIn key (found r rows approvals)
  found-has facts approvals key row there is decided =
      let a = asks r (approved_alone approvals) key decided in
      let approval = key_of (scope_of a.workflow key.attribute a.around) a.place.id in
      let has = row-objects r facts key row is in
      let same_element : a.element ≡ has.objects.element = inside _ _ (sym a.element_is ∙ has.are.element) in
      let same_unit : a.unit ≡ has.objects.unit = inside _ _ (sym a.unit_is ∙ has.are.unit) in
      let unit_in = unit-within r key.unit a.unit a.unit_is in
      let above_in : a.above < length (unit_rows r) =
      subst (λ n. a.above < n) (sym numbers) (slice_get_within r.organisation_units a.above a.place a.place_is) in
      in-gathered (found_by r rows) approval key approvals (counts-in approval approvals a.approved)
      (approval-has facts key row there is approval a.unit a.above has.objects.attribute has.objects.element a.workflow.period_type unit_in above_in
      (ancestor-under (unit_rows r) t a.unit a.level a.above unit_in a.above_is)
      (ap (order_of (unit_rows r)) same_unit ∙ has.order)
      (reach-is r approval a.above has.objects.attribute (find-own r t a.above a.place above_in a.place_is) has.are.attribute)
      (type-is r approval has.objects.element a.number a.workflow (ap (workflow_of r.data_sets) (sym same_element) ∙ a.number_is) a.workflow_is refl)
      (around-is a.workflow.period_type approval row.period a.around
      (ap (λ p. containing_of a.workflow.period_type (first_day p) (last_day p)) has.period ∙ a.around_is) refl)
      has.attribute has.element (element-below r key.element has.objects.element has.are.element))

-- ---- a loop over elements

pub elements-step : (r : Records) (rows : List Row) (approval : ApprovalKey) (reach : Reach) (element : ℕ) (start old new : List ValueKey)
    → old ≡ start ++ of_elements r rows approval reach element → new ≡ old ++ of_element r rows approval reach element
    → new ≡ start ++ of_elements r rows approval reach (element + 1)
elements-step r rows approval reach element start old new so_far is =
    rw add-one (is ∙ ap (λ v. v ++ of_element r rows approval reach element) so_far
    ∙ append_assoc start (of_elements r rows approval reach element) (of_element r rows approval reach element))
