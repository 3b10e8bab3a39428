-- What is put at places, one key after the other, gives the places of the keys and the rows of what they hold.
use Rattle.std.proofs.Common.{◌≡◌, ◌∙◌, true, false, Bool, cond, List, [], ◌∷◌, inl, inr, Option, Some, None, map, refl, sym, ap}
use Rattle.std.proofs.Common.{Ordering, Less, Equal, Greater}
use Rattle.std.specs.Prelude.{option_map, option_and_then}
use Rattle.std.specs.Cmp.{tied_itself}
use Rattle.std.specs.List.{AllByRecursion, filter_map, cons_option}
use Rattle.std.specs.List.Sorted.{IsSortedByKey, IsStableByKey, IsStrictlySortedBy}
use Rattle.std.specs.Option.{option_or}
use Rattle.std.specs.Ordering.{is_eq, ordering_reverse, match_ordering}
use Rattle.std.specs.BTreeMap.{insert_entry, is_at}
use Rattle.std.specs.Map.{keys_of, values_of, lookup}
use Rattle.dh_periods.proofs.TextLemmas.{and_then-some, map-some}
use Rattle.dh_changes.specs.declared.keys.ValueKey.{ValueKey}
use Rattle.dh_metadata.specs.declared.held.Records.{Records}
use Rattle.dh_changes.specs.Facts.{Facts}
use Rattle.table_rows.specs.declared.row.Row.{Row}
use Rattle.table_rows.specs.declared.row.RowKey.{RowKey}
use Rattle.table_rows.specs.Rows.{key_of}
use Rattle.table_rows.specs.Order.{key_cmp, row_cmp}
use Rattle.table_rows.specs.Store.{rises}
use Rattle.table_rows.proofs.OrderLemmas.{key_total, row_total}
use Rattle.table_rows.proofs.RiseLemmas.{sorted_from_rises}
use Rattle.table_build.specs.declared.values.ValueObjects.{ValueObjects}
use Rattle.table_build.specs.Last.{is_again, last_of_each}
use Rattle.table_build.specs.Ordered.{put_all, put_each, in_order}
use Rattle.table_build.specs.Values as values
use Rattle.table_build.proofs.KeyLemmas.{StandsTree, given-in, rows-are}
use Rattle.table_build.proofs.LastLemmas.{put-last}
use Rattle.table_build.proofs.MemberLemmas.{IsIn, at-member, each-member, in_order-from, in_order-has, in_order-is}
use Rattle.table_build.proofs.OrderLemmas.{same-key}
use Rattle.table_build.proofs.OrderedLemmas.{keys-keyed, put_all-keyed, in_order-sorted}
use Rattle.table_build.proofs.PlaceLemmas.{last_at, put-lookup, put-sorted, last-in, InPlace, put-in_place, found-row, row-found}
use Rattle.table_latest.specs.declared.places.RowPlace.{RowPlace}
use Rattle.table_latest.specs.Keys.{place_at, place_cmp, place_of}
use Rattle.table_latest.proofs.SearchLemmas.{place_total}
use Rattle.latest_build.specs.Held.{Held, place_in, row_in, held_with, held_at, entries_of, places_held, rows_held, places_last, rows_last}
use Rattle.latest_build.specs.Places.{value_at, value_place}
use Rattle.latest_build.proofs.CoverLemmas.{one-place}
use Rattle.latest_build.proofs.KeyLemmas.{inside, value-one}
use Rattle.latest_build.proofs.ListLemmas.{in-given}

-- ---- a list in the order of its places

lasts-places : (held : List Held) → keys_of (last_of_each place_cmp place_in row_in held) ≡ places_last held
lasts-places [] = refl
lasts-places (h ∷ hs) = by_next (is_again place_cmp place_in h hs) (lasts-places hs)
  where
    by_next : (b : Bool) → keys_of (last_of_each place_cmp place_in row_in hs) ≡ places_last hs
        → keys_of (cond b (last_of_each place_cmp place_in row_in hs) ((h.place, h.row) ∷ last_of_each place_cmp place_in row_in hs))
        ≡ cons_option (cond b None (Some h.place)) (places_last hs)
    by_next true rest = rest
    by_next false rest = ap (λ ps. h.place ∷ ps) rest

lasts-rows : (held : List Held) → filter_map (λ row. row) (values_of (last_of_each place_cmp place_in row_in held)) ≡ rows_last held
lasts-rows [] = refl
lasts-rows (h ∷ hs) = by_next (is_again place_cmp place_in h hs) (lasts-rows hs)
  where
    by_next : (b : Bool) → filter_map (λ row. row) (values_of (last_of_each place_cmp place_in row_in hs)) ≡ rows_last hs
        → filter_map (λ x. x) (values_of (cond b (last_of_each place_cmp place_in row_in hs) ((h.place, h.row) ∷ last_of_each place_cmp place_in row_in hs)))
        ≡ cons_option (cond b None h.row) (rows_last hs)
    by_next true rest = rest
    by_next false rest = ap (cons_option h.row) rest

module _ (put held : List Held) (sorted : IsSortedByKey place_in place_cmp held) (stable : IsStableByKey place_in place_cmp put held) where
  pub sorted-places : places_last held ≡ places_held put
  sorted-places = sym (ap keys_of (put-last place_cmp place_total one-place place_in row_in put held sorted stable) ∙ lasts-places held)

  pub sorted-rows : rows_last held ≡ rows_held put
  sorted-rows =
      sym (ap (λ es. filter_map (λ row. row) (values_of es)) (put-last place_cmp place_total one-place place_in row_in put held sorted stable)
      ∙ lasts-rows held)

-- ---- the keys of entries, whatever is put there

abbrev put_key : {K : Type 0} → (K → K → Ordering) → K → List K → List K
put_key cmp k [] = k ∷ []
put_key cmp k (x ∷ ks) = match_ordering (cmp k x) (k ∷ x ∷ ks) (x ∷ ks) (x ∷ put_key cmp k ks)

insert-keys : {K V : Type 0} (cmp : K → K → Ordering) (k : K) (v : V) (es : List (K × V)) → keys_of (insert_entry cmp es k v) ≡ put_key cmp k (keys_of es)
insert-keys cmp k v [] = refl
insert-keys cmp k v (e ∷ es) =
    elim (cmp k e.0) as (λ r. keys_of (match_ordering r ((k, v) ∷ e ∷ es) ((e.0, v) ∷ es) (e ∷ insert_entry cmp es k v))
    ≡ match_ordering r (k ∷ e.0 ∷ keys_of es) (e.0 ∷ keys_of es) (e.0 ∷ put_key cmp k (keys_of es))) [
      | Less ↦ refl
      | Equal ↦ refl
      | Greater ↦ ap (λ ks. e.0 ∷ ks) (insert-keys cmp k v es)
    ]

put-keys : {K X V : Type 0} (cmp : K → K → Ordering) (key : X → K) (value : X → V) (es : List (K × V)) (fs : List (K × K)) (xs : List X)
    → keys_of es ≡ keys_of fs → keys_of (put_each cmp key value es xs) ≡ keys_of (put_all cmp (λ k. k) fs (map key xs))
put-keys cmp key value es fs [] same = same
put-keys cmp key value es fs (x ∷ xs) same =
    put-keys cmp key value (insert_entry cmp es (key x) (value x)) (insert_entry cmp fs (key x) (key x)) xs
    (insert-keys cmp (key x) (value x) es ∙ ap (put_key cmp (key x)) same ∙ sym (insert-keys cmp (key x) (key x) fs))

map-same : {X : Type 0} (xs : List X) → map (λ x. x) xs ≡ xs
map-same [] = refl
map-same (x ∷ xs) = ap (λ ys. x ∷ ys) (map-same xs)

pub places-are : (held : List Held) → places_held held ≡ in_order place_cmp (λ p. p) (map place_in held)
places-are held =
    put-keys place_cmp place_in row_in [] [] held refl
    ∙ keys-keyed place_cmp (λ p. p) (put_all place_cmp (λ p. p) [] (map place_in held)) (put_all-keyed place_cmp (λ p. p) one-place [] (map place_in held) tt)
    ∙ map-same (in_order place_cmp (λ p. p) (map place_in held))

-- ---- an ascending list is in order

sorted-one : (xs : List Row) → IsStrictlySortedBy row_cmp xs → (x y : Row) → IsIn x xs → IsIn y xs → row_cmp x y ≡ Equal → x ≡ y
unfolding IsStrictlySortedBy
sorted-one [] s x y none there same = absurd none
sorted-one (z ∷ zs) s x y (inl e) (inl f) same = e ∙ sym f
sorted-one (z ∷ zs) s x y (inl e) (inr there) same =
    let less : row_cmp x y ≡ Less = ap (λ r. row_cmp r y) e ∙ at-member (λ w. row_cmp z w ≡ Less) y zs s.0 there in
    absurd (let both : Equal ≡ Less = sym same ∙ less in cc)
sorted-one (z ∷ zs) s x y (inr there) (inl f) same =
    let less : row_cmp y x ≡ Less = ap (λ r. row_cmp r x) f ∙ at-member (λ w. row_cmp z w ≡ Less) x zs s.0 there in
    let tied : row_cmp y x ≡ Equal = row_total.antisymm y x ∙ ap ordering_reverse same in
    absurd (let both : Equal ≡ Less = sym tied ∙ less in cc)
sorted-one (z ∷ zs) s x y (inr here) (inr there) same = sorted-one zs s.1 x y here there same

pub risen : (xs : List Row) → rises row_cmp xs ≡ true → xs ≡ in_order key_cmp key_of xs
risen xs up =
    let sorted = sorted_from_rises row_cmp row_total xs up in
    in_order-is key_cmp key_of key_total same-key (λ x. IsIn x xs)
    (λ x y p q same. sorted-one xs sorted x y p q (ap (key_cmp (key_of x)) (sym same) ∙ tied_itself key_total (key_of x))) xs xs (each-member xs) sorted
    (λ x is. is) (λ x is. is)

-- ---- what is put last

or-none : {A : Type 0} (o : Option A) → option_or o None ≡ o
or-none None = refl
or-none (Some a) = refl

abbrev pub last : RowPlace → List Held → Option (Option Row)
last = last_at place_cmp place_total one-place place_in row_in

-- something is put at the place of each
pub last-some : (h : Held) (hs : List Held) → IsIn h hs → (row : Option Row) × (last h.place hs ≡ Some row)
last-some h [] none = absurd none
last-some h (g ∷ hs) (inl same) = by_rest (last h.place hs)
  where
    here : is_at (place_cmp h.place) g.place ≡ true
    here = ap (λ (x : Held). is_at (place_cmp h.place) x.place) (sym same) ∙ ap is_eq (tied_itself place_total h.place)

    by_rest : (o : Option (Option Row))
        → (row : Option Row) × (option_or o (cond (is_at (place_cmp h.place) g.place) (Some g.row) None) ≡ Some row)
    by_rest None = (g.row, ap (λ b. option_or None (cond b (Some g.row) None)) here)
    by_rest (Some row) = (row, refl)
last-some h (g ∷ hs) (inr later) =
    let rest = last-some h hs later in
    (rest.0, ap (λ o. option_or o (cond (is_at (place_cmp h.place) g.place) (Some g.row) None)) rest.1)

module _ (r : Records) (facts : Facts) where
  abbrev at : ValueKey → Option Held
  at = held_at r facts

  -- ---- the place of a key and the row there

  pub record HeldBy (key : ValueKey) (h : Held) : Type 0 where
    pub objects : ValueObjects
    pub are : values.objects_of r key ≡ Some objects
    pub is : held_with r facts key objects ≡ h

  held-by : (key : ValueKey) (h : Held) → at key ≡ Some h → HeldBy key h
  unfolding held_at
  held-by key h e =
      let o = map-some (held_with r facts key) (values.objects_of r key) h e in
      record { objects = o.0; are = o.1; is = o.2 }

  place-held : (key : ValueKey) (h : Held) → at key ≡ Some h → value_place r facts key ≡ Some h.place
  unfolding value_place held_with
  place-held key h e =
      let by = held-by key h e in
      ap (option_map (value_at r facts key)) by.are ∙ ap (λ (g : Held). Some g.place) by.is

  pub own-row : (key : ValueKey) (h : Held) → at key ≡ Some h → (x : Row) → h.row ≡ Some x → place_of x ≡ h.place
  unfolding held_with values.row_with
  own-row key h e x given =
      let by = held-by key h e in
      let text = map-some (λ t. values.row_with r facts key t by.objects) (facts.value key) x (ap row_in by.is ∙ given) in
      ap place_of (sym text.2) ∙ ap place_in by.is

  row-held : (key : ValueKey) (h : Held) → at key ≡ Some h → (x : Row) → h.row ≡ Some x → values.row_of r facts key ≡ Some x
  unfolding held_with values.row_of
  row-held key h e x given =
      let by = held-by key h e in
      let text = map-some (λ t. values.row_with r facts key t by.objects) (facts.value key) x (ap row_in by.is ∙ given) in
      ap (option_and_then (λ t. option_map (values.row_with r facts key t) (values.objects_of r key))) text.1
      ∙ ap (option_map (values.row_with r facts key text.0)) by.are ∙ ap Some text.2

  held-row : (key : ValueKey) (x : Row) → values.row_of r facts key ≡ Some x → (h : Held) × (at key ≡ Some h) × (h.row ≡ Some x)
  unfolding held_at held_with values.row_of
  held-row key x e =
      let text = and_then-some (λ t. option_map (values.row_with r facts key t) (values.objects_of r key)) (facts.value key) x e in
      let o = map-some (values.row_with r facts key text.0) (values.objects_of r key) x text.2 in (
        held_with r facts key o.0,
        ap (option_map (held_with r facts key)) o.1,
        ap (option_map (λ t. values.row_with r facts key t o.0)) text.1 ∙ ap Some o.2,
      )

  -- ---- the places

  pub places-of : (keys : List ValueKey) → map place_in (filter_map at keys) ≡ filter_map (value_place r facts) keys
  unfolding held_at held_with value_place
  places-of [] = refl
  places-of (k ∷ ks) = by_objects (values.objects_of r k) (places-of ks)
    where
      by_objects : (o : Option ValueObjects) → map place_in (filter_map at ks) ≡ filter_map (value_place r facts) ks
          → map place_in (cons_option (option_map (held_with r facts k) o) (filter_map at ks))
          ≡ cons_option (option_map (value_at r facts k) o) (filter_map (value_place r facts) ks)
      by_objects None rest = rest
      by_objects (Some o) rest = ap (λ ps. value_at r facts k o ∷ ps) rest

  -- ---- the rows of any list that puts last at each place what the keys hold

  abbrev pub IsOwn : Held → Type 0
  IsOwn h = (x : Row) → h.row ≡ Some x → place_of x ≡ h.place

  module _ (stands : StandsTree r facts) (keys : List ValueKey) (put : List Held) (owns : AllByRecursion IsOwn put)
      (alike : (q : RowPlace) → last q put ≡ last q (filter_map at keys)) where
    abbrev held : List Held
    held = filter_map at keys

    abbrev entries : List (RowPlace × Option Row)
    entries = entries_of put

    one-held : (a b : ValueKey) (h g : Held) → at a ≡ Some h → at b ≡ Some g → h.place ≡ g.place → h ≡ g
    one-held a b h g left right same =
        let keys_same = value-one r facts stands a b g.place (place-held a h left ∙ ap Some same) (place-held b g right) in
        inside h g (sym left ∙ ap at keys_same ∙ right)

    in-place : InPlace place_cmp place_total one-place place_of entries
    in-place = put-in_place place_cmp place_total one-place place_of place_in row_in [] put owns tt

    sorted : IsStrictlySortedBy place_cmp (keys_of entries)
    unfolding IsStrictlySortedBy
    sorted = put-sorted place_cmp place_total one-place place_in row_in [] put tt

    stands-at : (q : RowPlace) → lookup (is_at (place_cmp q)) entries ≡ last q held
    stands-at q = put-lookup place_cmp place_total one-place place_in row_in q [] put ∙ or-none (last q put) ∙ alike q

    at-own : (k : ValueKey) (h : Held) → IsIn k keys → at k ≡ Some h → last h.place held ≡ Some h.row
    at-own k h there is =
        let there_last = last-some h held (given-in at k h is keys there) in
        let found = last-in place_cmp place_total one-place place_in row_in h.place held there_last.0 there_last.1 in
        let of = in-given at keys found.x found.there in
        let same = one-held k of.a h found.x is of.is found.at in
        there_last.1 ∙ ap Some (sym found.is ∙ ap row_in (sym same))

    to : (x : Row) → IsIn x (filter_map (values.row_of r facts) keys) → IsIn x (rows_held put)
    to x is =
        let k = in-given (values.row_of r facts) keys x is in
        let h = held-row k.a x k.is in
        found-row place_cmp place_total one-place place_of h.0.place x entries (stands-at h.0.place ∙ at-own k.a h.0 k.there h.1 ∙ ap Some h.2)

    from : (x : Row) → IsIn x (rows_held put) → IsIn x (filter_map (values.row_of r facts) keys)
    from x there =
        let found = last-in place_cmp place_total one-place place_in row_in (place_of x) held (Some x)
        (sym (stands-at (place_of x)) ∙ row-found place_cmp place_total one-place place_of x entries in-place sorted there) in
        let of = in-given at keys found.x found.there in
        given-in (values.row_of r facts) of.a x (row-held of.a found.x of.is x found.is) keys of.there

    own : (x y : Row) → IsIn x (rows_held put) → IsIn y (rows_held put) → key_of x ≡ key_of y → x ≡ y
    own x y here there same =
        let left = row-found place_cmp place_total one-place place_of x entries in-place sorted here in
        let right = row-found place_cmp place_total one-place place_of y entries in-place sorted there in
        let one : place_of x ≡ place_of y = ap (λ (k : RowKey). place_at k.group k.order) same in
        inside x y (inside (Some x) (Some y) (sym left ∙ ap (λ p. lookup (is_at (place_cmp p)) entries) one ∙ right))

    pub rows-list : in_order key_cmp key_of (rows_held put) ≡ values.rows_of r facts keys
    rows-list =
        rows-are r facts stands keys (in_order key_cmp key_of (rows_held put)) (in_order-sorted key_cmp key_of key_total same-key (rows_held put))
        (λ x is. in_order-has key_cmp key_of key_total same-key (λ x. IsIn x (rows_held put)) own (rows_held put) x (each-member (rows_held put)) (to x is))
        (λ x is. from x (in_order-from key_cmp key_of key_total same-key (λ x. IsIn x (rows_held put)) own (rows_held put) x is))
