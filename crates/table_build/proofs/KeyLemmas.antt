-- No two keys have one row, so that a list of rows is told by which they are.
use Rattle.std.proofs.Common.{◌≡◌, ◌∙◌, inl, inr, ℕ, ◌<◌, List, [], ◌∷◌, Option, Some, None, suc, length, map, get_or, refl, sym, ap, subst}
use Rattle.std.specs.Prelude.{option_map, option_and_then, true, nat_eq}
use Rattle.std.specs.Option.{unwrap_or}
use Rattle.std.specs.List.{AllByRecursion, filter_map, cons_option}
use Rattle.std.specs.List.Sorted.{IsStrictlySortedBy}
use Rattle.std.proofs.lemmas.Bool.{and_parts, eqb-true}
use Rattle.std.proofs.lemmas.List.Elements.{All-from_recursion, recursion_from_All}
use Rattle.dh_periods.proofs.TextLemmas.{and_then-some, map-some}
use Rattle.dh_changes.specs.declared.keys.ValueKey.{ValueKey}
use Rattle.org_tree.specs.Units.{IsTree, order_of}
use Rattle.org_tree.proofs.OrderLemmas.{order-differs}
use Rattle.dh_metadata.proofs.DistinctLemmas.{place_of-below}
use Rattle.dh_metadata.proofs.PlaceLemmas.{place_of-at}
use Rattle.dh_metadata.specs.declared.held.Records.{Records}
use Rattle.dh_metadata.specs.declared.records.Unit.{Unit as OrgUnit}
use Rattle.dh_metadata.specs.declared.kind.Kind.{Kind}
use Rattle.dh_metadata.specs.declared.kind.Kind.TheVariants.{DataElement, OrganisationUnit, CategoryOptionCombo}
use Rattle.dh_metadata.specs.Objects.{ids_of, find_of}
use Rattle.dh_changes.specs.Facts.{Facts}
use Rattle.dh_records.specs.Access.{tree}
use Rattle.dh_records.specs.Approved.{approved_at, approved_of, approved_by_element}
use Rattle.table_rows.specs.declared.row.Row.{Row}
use Rattle.table_rows.specs.Rows.{group_of, key_of, same_group, same_place}
use Rattle.table_rows.specs.Order.{key_cmp, row_cmp}
use Rattle.table_rows.specs.Store.{have_own_places}
use Rattle.table_rows.proofs.OrderLemmas.{key_total, row_total, same_group-true}
use Rattle.table_build.specs.declared.values.ValueObjects.{ValueObjects}
use Rattle.table_build.specs.Values as values
use Rattle.table_build.proofs.OrderLemmas.{same-key}
use Rattle.table_build.proofs.OrderedLemmas.{in_order-All, in_order-sorted}
use Rattle.table_build.proofs.MemberLemmas.{IsIn, in_order-is, in_order-has, sorted-differ}

find-one : (r : Records) (kind : Kind) (a b : List ℕ) (n m : ℕ) → find_of r kind a ≡ Some n → find_of r kind b ≡ Some m → n ≡ m → a ≡ b
find-one r kind a b n m left right same = sym (place_of-at (ids_of r kind) a n left) ∙ ap (λ k. get_or (ids_of r kind) k []) same
    ∙ place_of-at (ids_of r kind) b m right

-- the units that a log leaves are a tree, in which each has its number in the metadata
pub record StandsTree (r : Records) (facts : Facts) : Type 0 where
  pub is_tree : IsTree (tree facts r)
  pub numbers : length (tree facts r) ≡ length r.organisation_units

units-length : (units : List OrgUnit) → length (map (λ (unit : OrgUnit). unit.id) units) ≡ length units
units-length [] = refl
units-length (unit ∷ units) = ap suc (units-length units)

unit-below : (r : Records) (facts : Facts) → StandsTree r facts → (id : List ℕ) (n : ℕ) → find_of r OrganisationUnit id ≡ Some n → n < length (tree facts r)
unit-below r facts stands id n e =
    subst (λ k. n < k) (units-length r.organisation_units ∙ sym stands.numbers) (place_of-below (ids_of r OrganisationUnit) id n e)

unit-one : (r : Records) (facts : Facts) → StandsTree r facts → (a b : List ℕ) (n m : ℕ) → find_of r OrganisationUnit a ≡ Some n
    → find_of r OrganisationUnit b ≡ Some m
    → order_of (tree facts r) n ≡ order_of (tree facts r) m → a ≡ b
unit-one r facts stands a b n m left right same =
    find-one r OrganisationUnit a b n m left right
    (order-differs (tree facts r) stands.is_tree n m (unit-below r facts stands a n left) (unit-below r facts stands b m right) same)

inside : {A : Type 0} (x y : A) → Some x ≡ Some y → x ≡ y
inside x y e = ap (λ o. unwrap_or o x) e

-- ---- values

record Objects (r : Records) (key : ValueKey) (o : ValueObjects) : Type 0 where
  element : find_of r DataElement key.element ≡ Some o.element
  unit : find_of r OrganisationUnit key.unit ≡ Some o.unit
  combo : find_of r CategoryOptionCombo key.combo ≡ Some o.combo
  attribute : find_of r CategoryOptionCombo key.attribute ≡ Some o.attribute

objects-parts : (r : Records) (key : ValueKey) (o : ValueObjects) → values.objects_of r key ≡ Some o → Objects r key o
unfolding values.objects_of
objects-parts r key o e =
    let element = and_then-some _ (find_of r DataElement key.element) o e in
    let unit = and_then-some _ (find_of r OrganisationUnit key.unit) o element.2 in
    let combo = and_then-some _ (find_of r CategoryOptionCombo key.combo) o unit.2 in
    let attribute = map-some (λ attribute. values.value_objects element.0 unit.0 combo.0 attribute) (find_of r CategoryOptionCombo key.attribute) o combo.2 in
    record {
      element = element.1 ∙ ap (λ (x : ValueObjects). Some x.element) attribute.2;
      unit = unit.1 ∙ ap (λ (x : ValueObjects). Some x.unit) attribute.2;
      combo = combo.1 ∙ ap (λ (x : ValueObjects). Some x.combo) attribute.2;
      attribute = attribute.1 ∙ ap (λ (x : ValueObjects). Some x.attribute) attribute.2;
    }

-- the approved position of a key, by the numbers of its objects
pub approved-with : (r : Records) (facts : Facts) (key : ValueKey) (o : ValueObjects) → values.objects_of r key ≡ Some o
    → approved_at facts r key ≡ approved_of facts r o.element o.unit key.period key.attribute
unfolding approved_at
approved-with r facts key o is =
    let are = objects-parts r key o is in
    ap (option_and_then (approved_by_element facts r key)) are.element
    ∙ ap (option_and_then (λ unit. approved_of facts r o.element unit key.period key.attribute)) are.unit

-- the row of a key, and the objects that the key names
record Rowed (r : Records) (facts : Facts) (key : ValueKey) (x : Row) : Type 0 where
  objects : ValueObjects
  are : Objects r key objects
  element : x.element ≡ objects.element
  combo : x.combo ≡ objects.combo
  attribute : x.attribute ≡ objects.attribute
  period : x.period ≡ key.period
  order : x.order ≡ order_of (tree facts r) objects.unit

rowed : (r : Records) (facts : Facts) (key : ValueKey) (x : Row) → values.row_of r facts key ≡ Some x → Rowed r facts key x
unfolding values.row_of values.row_with
rowed r facts key x e =
    let text = and_then-some (λ text. option_map (values.row_with r facts key text) (values.objects_of r key)) (facts.value key) x e in
    let o = map-some (values.row_with r facts key text.0) (values.objects_of r key) x text.2 in
    record {
      objects = o.0;
      are = objects-parts r key o.0 o.1;
      element = ap (λ (row : Row). row.element) (sym o.2);
      combo = ap (λ (row : Row). row.combo) (sym o.2);
      attribute = ap (λ (row : Row). row.attribute) (sym o.2);
      period = ap (λ (row : Row). row.period) (sym o.2);
      order = ap (λ (row : Row). row.order) (sym o.2);
    }

-- rows of one group and one order are of one value key
pub place-key : (r : Records) (facts : Facts) → StandsTree r facts → (a b : ValueKey) (x y : Row) → values.row_of r facts a ≡ Some x
    → values.row_of r facts b ≡ Some y
    → group_of x ≡ group_of y → x.order ≡ y.order → a ≡ b
place-key r facts stands a b x y left right same order =
    let p = rowed r facts a x left in
    let q = rowed r facts b y right in
    let element = find-one r DataElement a.element b.element _ _ p.are.element q.are.element (sym p.element ∙ ap (λ k. k.element) same ∙ q.element) in
    let combo = find-one r CategoryOptionCombo a.combo b.combo _ _ p.are.combo q.are.combo (sym p.combo ∙ ap (λ k. k.combo) same ∙ q.combo) in
    let attribute =
    find-one r CategoryOptionCombo a.attribute b.attribute _ _ p.are.attribute q.are.attribute (sym p.attribute ∙ ap (λ k. k.attribute) same
    ∙ q.attribute) in
    let unit = unit-one r facts stands a.unit b.unit _ _ p.are.unit q.are.unit (sym p.order ∙ order ∙ q.order) in
    let around = sym p.period ∙ ap (λ k. k.period) same ∙ q.period in
    λ i. record { element = element i; period = around i; unit = unit i; combo = combo i; attribute = attribute i }

-- x is the row of a key
pub record IsRow (r : Records) (facts : Facts) (x : Row) : Type 0 where
  pub key : ValueKey
  pub is : values.row_of r facts key ≡ Some x

place-one : (r : Records) (facts : Facts) → StandsTree r facts → (x y : Row) → IsRow r facts x → IsRow r facts y → group_of x ≡ group_of y → x.order ≡ y.order
    → x ≡ y
place-one r facts stands x y left right same order =
    inside x y (sym left.is ∙ ap (values.row_of r facts) (place-key r facts stands left.key right.key x y left.is right.is same order) ∙ right.is)

pub row-one : (r : Records) (facts : Facts) → StandsTree r facts → (x y : Row) → IsRow r facts x → IsRow r facts y → key_of x ≡ key_of y → x ≡ y
row-one r facts stands x y left right same = place-one r facts stands x y left right (ap (λ k. k.group) same) (ap (λ k. k.order) same)

like-one : (r : Records) (facts : Facts) → StandsTree r facts → (x y : Row) → IsRow r facts x → IsRow r facts y → same_place x y ≡ true → x ≡ y
like-one r facts stands x y left right like =
    let parts = and_parts (same_group (group_of x) (group_of y)) (nat_eq x.order y.order) like in
    place-one r facts stands x y left right (same_group-true (group_of x) (group_of y) parts.0) (eqb-true x.order y.order parts.1)

-- ---- what a function gives of the members of a list

module _ {A X : Type 0} (f : A → Option X) where
  pub given-in : (a : A) (x : X) → f a ≡ Some x → (list : List A) → IsIn a list → IsIn x (filter_map f list)
  given-in a x is [] none = absurd none
  given-in a x is (b ∷ list) (inl same) = subst (λ o. IsIn x (cons_option o (filter_map f list))) (sym (ap f (sym same) ∙ is)) (inl refl)
  given-in a x is (b ∷ list) (inr later) =
      let rest = given-in a x is list later in
      elim (f b) as (λ o. IsIn x (cons_option o (filter_map f list))) [
        | Some y ↦ inr rest
        | None ↦ rest
      ]

  in-given : (P : X → Type 0) (one : (a : A) (x : X) → f a ≡ Some x → P x) (list : List A) → AllByRecursion P (filter_map f list)
  in-given P one [] = tt
  in-given P one (a ∷ list) =
      elim (f a) as (λ o. f a ≡ o → AllByRecursion P (cons_option o (filter_map f list))) [
        | Some x ↦ λ is. (one a x is, in-given P one list)
        | None ↦ λ is. in-given P one list
      ] refl

-- the row of each key of a list stands among the rows of the list
pub rows-has : (r : Records) (facts : Facts) → StandsTree r facts → (keys : List ValueKey) (key : ValueKey) (x : Row) → IsIn key keys
    → values.row_of r facts key ≡ Some x → IsIn x (values.rows_of r facts keys)
unfolding values.rows_of
rows-has r facts stands keys key x member is =
    in_order-has key_cmp key_of key_total same-key (IsRow r facts) (row-one r facts stands) (filter_map (values.row_of r facts) keys) x
    (in-given (values.row_of r facts) (IsRow r facts) (λ a y e. record { key = a; is = e }) keys)
    (given-in (values.row_of r facts) key x is keys member)

-- an ascending list of just the rows of the keys is the list of their rows
pub rows-are : (r : Records) (facts : Facts) → StandsTree r facts → (keys : List ValueKey) (rows : List Row) → IsStrictlySortedBy row_cmp rows
    → ((x : Row) → IsIn x (filter_map (values.row_of r facts) keys) → IsIn x rows)
    → ((x : Row) → IsIn x rows → IsIn x (filter_map (values.row_of r facts) keys))
    → rows ≡ values.rows_of r facts keys
unfolding values.rows_of
rows-are r facts stands keys rows sorted to from =
    in_order-is key_cmp key_of key_total same-key (IsRow r facts) (row-one r facts stands) (filter_map (values.row_of r facts) keys) rows
    (in-given (values.row_of r facts) (IsRow r facts) (λ a y e. record { key = a; is = e }) keys) sorted to from

-- of a group each unit has at most one of the rows
pub rows-own : (r : Records) (facts : Facts) → StandsTree r facts → (keys : List ValueKey) → have_own_places (values.rows_of r facts keys) ≡ true
unfolding values.rows_of
rows-own r facts stands keys =
    sorted-differ row_cmp row_total same_place (IsRow r facts) (like-one r facts stands) _
    (recursion_from_All _ _
    (in_order-All key_cmp key_of (IsRow r facts) _
    (All-from_recursion _ _ (in-given (values.row_of r facts) (IsRow r facts) (λ a y e. record { key = a; is = e }) keys))))
    (in_order-sorted key_cmp key_of key_total same-key (filter_map (values.row_of r facts) keys))
