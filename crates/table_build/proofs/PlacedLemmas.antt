-- The rows that writes put at their places, one over the other, are the rows of what each key holds at last.
use Rattle.std.proofs.Common.{◌≡◌, ◌∙◌, ℕ, ◌+◌, ◌<◌, ℤ, Bool, true, false, cond, List, [], ◌∷◌, ◌++◌, inl, inr, Option, Some, None, length, map, drop, get_or}
use Rattle.std.proofs.Common.{refl, sym, ap, subst, add-one, append_assoc, drop-cons}
use Rattle.std.specs.Prelude.{option_map, option_and_then}
use Rattle.std.specs.List.{filter, filter_map, cons_option}
use Rattle.std.specs.Option.{option_or, unwrap_or}
use Rattle.std.specs.Cmp.{tied_itself}
use Rattle.std.specs.List.Sorted.{IsSortedByKey, IsStableByKey, IsStrictlySortedBy}
use Rattle.std.specs.Ordering.{is_eq}
use Rattle.std.specs.BTreeMap.{is_at}
use Rattle.std.specs.Map.{keys_of, values_of, lookup}
use Rattle.std.proofs.lemmas.Bool.{false≢true}
use Rattle.std.proofs.lemmas.List.Elements.{filter_map-append}
use Rattle.dh_changes.proofs.KeyLemmas.{same_value_key-Decides}
use Rattle.dh_periods.proofs.TextLemmas.{and_then-some, map-some}
use Rattle.dh_changes.specs.Keys.{same_value_key}
use Rattle.dh_changes.specs.declared.change.Change.{Change}
use Rattle.dh_changes.specs.declared.change.Write.{Write}
use Rattle.dh_changes.specs.declared.change.Write.TheVariants as write
use Rattle.dh_changes.specs.declared.keys.ValueKey.{ValueKey}
use Rattle.dh_metadata.specs.declared.held.Records.{Records}
use Rattle.dh_changes.specs.Facts.{Facts, facts_in}
use Rattle.dh_changes.specs.Said.{said_by, last_said, of_value}
use Rattle.dh_records.specs.Access.{tree}
use Rattle.dh_records.specs.Approved.{approved_at, approved_of, approved_in}
use Rattle.table_rows.specs.declared.row.Row.{Row}
use Rattle.table_rows.specs.declared.row.RowKey.{RowKey}
use Rattle.table_rows.specs.Rows.{key_of}
use Rattle.table_rows.specs.Order.{key_cmp}
use Rattle.table_rows.specs.Store.{have_own_places}
use Rattle.table_rows.proofs.OrderLemmas.{key_total}
use Rattle.table_build.specs.declared.values.ValueObjects.{ValueObjects}
use Rattle.table_build.specs.Last.{is_again, last_of_each}
use Rattle.table_build.specs.Log.{writes_of, value_named, values_named}
use Rattle.table_build.specs.Placed.{Placed, is_wanted, placed_with, placed_at, placed_by, put_placed, rows_last, rows_placed}
use Rattle.table_build.specs.Values as values
use Rattle.table_build.proofs.EachLemmas.{filter_map-each, every}
use Rattle.table_build.proofs.KeyLemmas.{StandsTree, place-key, given-in, rows-are, rows-own}
use Rattle.table_build.proofs.LastLemmas.{put-last}
use Rattle.table_build.proofs.LeftLemmas.{Gives, in-given}
use Rattle.table_build.proofs.MemberLemmas.{IsIn}
use Rattle.table_build.proofs.OrderLemmas.{same-key}
use Rattle.table_build.proofs.PlaceLemmas.{equal-from, last_at, rows_in, put-lookup, put-sorted, Last, last-in, InPlace, put-in_place, rows-sorted}
use Rattle.table_build.proofs.PlaceLemmas.{found-row, row-found}

-- ---- of what a log holds, a row takes the approvals and its text

row-by : (r : Records) (f g : Facts) → f.approval ≡ g.approval → (key : ValueKey) (text : List ℕ) (o : ValueObjects)
    → values.row_with r f key text o ≡ values.row_with r g key text o
unfolding values.row_with approved_at approved_of approved_in tree
row-by r f g same key text o = ap (λ a. values.row_with r (record g { approval = a }) key text o) same

placed-same : (r : Records) (f g : Facts) → f.approval ≡ g.approval → (year : Option ℤ) (key : ValueKey) (text : Option (List ℕ))
    → placed_at r f year key text ≡ placed_at r g year key text
unfolding placed_at placed_with
placed-same r f g same year key text = by_objects (is_wanted year key) (values.objects_of r key)
  where
    by_text : (o : ValueObjects) (t : Option (List ℕ)) → option_map (λ x. values.row_with r f key x o) t ≡ option_map (λ x. values.row_with r g key x o) t
    by_text o None = refl
    by_text o (Some x) = ap Some (row-by r f g same key x o)

    by_objects : (b : Bool) (o : Option ValueObjects)
        → cond b (option_map (placed_with r f key text) o) None ≡ cond b (option_map (placed_with r g key text) o) None
    by_objects false o = refl
    by_objects true None = refl
    by_objects true (Some o) =
        let places = ap key_of (row-by r f g same key [] o) in
        let rows = by_text o text in
        λ i. Some (record { place = places i; row = rows i })

placed-by-same : (r : Records) (f g : Facts) → f.approval ≡ g.approval → (year : Option ℤ) (w : Write) → placed_by r f year w ≡ placed_by r g year w
unfolding placed_by
placed-by-same r f g same year (write.ValueSet key text) = placed-same r f g same year key (Some text)
placed-by-same r f g same year (write.ValueCleared key) = placed-same r f g same year key None
placed-by-same r f g same year (write.EventWritten event) = refl
placed-by-same r f g same year (write.EventDeleted id) = refl
placed-by-same r f g same year (write.EnrollmentWritten enrollment) = refl
placed-by-same r f g same year (write.EnrollmentDeleted id) = refl
placed-by-same r f g same year (write.EntityWritten entity) = refl
placed-by-same r f g same year (write.EntityDeleted id) = refl
placed-by-same r f g same year (write.Approve key) = refl
placed-by-same r f g same year (write.Unapprove key) = refl
placed-by-same r f g same year (write.Accept key) = refl
placed-by-same r f g same year (write.Unaccept key) = refl
placed-by-same r f g same year (write.Complete key day) = refl
placed-by-same r f g same year (write.Uncomplete key) = refl

each-same : {A B : Type 0} (f g : A → Option B) → ((a : A) → f a ≡ g a) → (xs : List A) → filter_map f xs ≡ filter_map g xs
each-same f g same [] = refl
each-same f g same (x ∷ xs) = ap (λ o. cons_option o (filter_map f xs)) (same x) ∙ ap (cons_option (g x)) (each-same f g same xs)

pub rows-same : (r : Records) (f g : Facts) → f.approval ≡ g.approval → (year : Option ℤ) (writes : List Write)
    → rows_placed r f year writes ≡ rows_placed r g year writes
unfolding rows_placed
rows-same r f g same year writes =
    ap (λ placed. filter_map (λ row. row) (values_of (put_placed [] placed)))
    (each-same (placed_by r f year) (placed_by r g year) (placed-by-same r f g same year) writes)

-- ---- lists and options

or-none : {A : Type 0} (o : Option A) → option_or o None ≡ o
or-none None = refl
or-none (Some a) = refl

was-said : {A : Type 0} (o : Option (Option A)) (a : A) → unwrap_or o None ≡ Some a → o ≡ Some (Some a)
was-said None a e = absurd (cc)
was-said (Some held) a e = ap Some e

in-filter : {A : Type 0} (test : A → Bool) (a : A) (xs : List A) → IsIn a (filter test xs) → IsIn a xs × (test a ≡ true)
in-filter test a [] none = absurd none
in-filter test a (x ∷ xs) is = by_test (test x) refl is (in-filter test a xs)
  where
    by_test : (b : Bool) → test x ≡ b → IsIn a (cond b (x ∷ filter test xs) (filter test xs)) → (IsIn a (filter test xs) → IsIn a xs × (test a ≡ true))
        → IsIn a (x ∷ xs) × (test a ≡ true)
    by_test true passes (inl same) rest = (inl same, ap test same ∙ passes)
    by_test true passes (inr more) rest = let r = rest more in (inr r.0, r.1)
    by_test false fails more rest = let r = rest more in (inr r.0, r.1)

to-filter : {A : Type 0} (test : A → Bool) (a : A) (xs : List A) → IsIn a xs → test a ≡ true → IsIn a (filter test xs)
to-filter test a [] none passes = absurd none
to-filter test a (x ∷ xs) (inl same) passes = subst (λ b. IsIn a (cond b (x ∷ filter test xs) (filter test xs))) (sym passes ∙ ap test same) (inl same)
to-filter test a (x ∷ xs) (inr more) passes = by_test (test x) (to-filter test a xs more passes)
  where
    by_test : (b : Bool) → IsIn a (filter test xs) → IsIn a (cond b (x ∷ filter test xs) (filter test xs))
    by_test true there = inr there
    by_test false there = there

-- ---- keys and places

module _ (r : Records) (facts : Facts) (stands : StandsTree r facts) (year : Option ℤ) where
  abbrev place : ValueKey → ValueObjects → RowKey
  place key o = key_of (values.row_with r facts key [] o)

  -- each key holds a text
  abbrev told : Facts
  told = record facts { value = λ key. Some [] }

  told-row : (key : ValueKey) (o : ValueObjects) → values.objects_of r key ≡ Some o
      → values.row_of r told key ≡ Some (values.row_with r facts key [] o)
  unfolding values.row_of
  told-row key o is = ap (option_map (values.row_with r told key [])) is ∙ ap Some (row-by r told facts refl key [] o)

  told-tree : StandsTree r told
  unfolding tree
  told-tree = record { is_tree = stands.is_tree; numbers = stands.numbers }

  one-place : (a b : ValueKey) (o p : ValueObjects) → values.objects_of r a ≡ Some o → values.objects_of r b ≡ Some p → place a o ≡ place b p → a ≡ b
  unfolding values.row_with
  one-place a b o p left right same =
      place-key r told told-tree a b (values.row_with r facts a [] o) (values.row_with r facts b [] p) (told-row a o left) (told-row b p right)
      (ap (λ (k : RowKey). k.group) same) (ap (λ (k : RowKey). k.order) same)

  abbrev last : RowKey → List Placed → Option (Option Row)
  last = last_at key_cmp key_total same-key (λ (p : Placed). p.place) (λ (p : Placed). p.row)

  -- what a text leaves of a key
  abbrev left : ValueKey → ValueObjects → Option (List ℕ) → Option Row
  left key o text = option_map (λ t. values.row_with r facts key t o) text

  record PlacedOf (key : ValueKey) (text : Option (List ℕ)) (p : Placed) : Type 0 where
    wanted : is_wanted year key ≡ true
    objects : ValueObjects
    are : values.objects_of r key ≡ Some objects
    is : placed_with r facts key text objects ≡ p

  placed-from : (key : ValueKey) (text : Option (List ℕ)) (p : Placed) → placed_at r facts year key text ≡ Some p → PlacedOf key text p
  unfolding placed_at
  placed-from key text p e = by_wanted (is_wanted year key) refl e
    where
      by_wanted : (b : Bool) → is_wanted year key ≡ b → cond b (option_map (placed_with r facts key text) (values.objects_of r key)) None ≡ Some p
          → PlacedOf key text p
      by_wanted true is found =
          let o = map-some (placed_with r facts key text) (values.objects_of r key) p found in
          record { wanted = is; objects = o.0; are = o.1; is = o.2 }
      by_wanted false is found = absurd (let e = found in cc)

  -- ---- what is put last at a key's place is what is said last of the key

  module _ (key : ValueKey) (o : ValueObjects) (are : values.objects_of r key ≡ Some o) (wanted : is_wanted year key ≡ true) where
    own-place : (text : Option (List ℕ)) → placed_at r facts year key text ≡ Some (placed_with r facts key text o)
    unfolding placed_at
    own-place text =
        ap (λ b. cond b (option_map (placed_with r facts key text) (values.objects_of r key)) None) wanted
        ∙ ap (option_map (placed_with r facts key text)) are

    put-own : (text : Option (List ℕ)) (xs : List Placed)
        → last (place key o) (placed_with r facts key text o ∷ xs) ≡ option_or (last (place key o) xs) (Some (left key o text))
    unfolding placed_with
    put-own text xs =
        ap (λ r. option_or (last (place key o) xs) (cond (is_eq r) (Some (left key o text)) None)) (tied_itself key_total (place key o))

    put-other : (p : Placed) (xs : List Placed) → is_at (key_cmp (place key o)) p.place ≡ false
        → last (place key o) (p ∷ xs) ≡ last (place key o) xs
    put-other p xs apart =
        ap (λ b. option_or (last (place key o) xs) (cond b (Some p.row) None)) apart ∙ or-none (last (place key o) xs)

    apart : (other : ValueKey) (text : Option (List ℕ)) (p : Placed) → PlacedOf other text p → same_value_key other key ≡ false
        → is_at (key_cmp (place key o)) p.place ≡ false
    unfolding placed_with
    apart other text p of not = by_test (is_at (key_cmp (place key o)) p.place) refl
      where
        by_test : (b : Bool) → is_at (key_cmp (place key o)) p.place ≡ b → b ≡ false
        by_test false at = refl
        by_test true at =
            let one : place key o ≡ p.place = same-key (place key o) p.place (equal-from (key_cmp (place key o) p.place) at) in
            let same : key ≡ other = one-place key other o of.objects are of.are (one ∙ sym (ap (λ (q : Placed). q.place) of.is)) in
            absurd (false≢true (sym not ∙ (same_value_key-Decides other key).1 (sym same)))

    step : (other : ValueKey) (text : Option (List ℕ)) (xs : List Placed) (said : Option (Option (List ℕ)))
        → last (place key o) xs ≡ option_map (left key o) said
        → last (place key o) (cons_option (placed_at r facts year other text) xs)
        ≡ option_map (left key o) (option_or said (cond (same_value_key other key) (Some text) None))
    step other text xs said rest = by_key (same_value_key other key) refl
      where
        join : (said : Option (Option (List ℕ))) → option_or (option_map (left key o) said) (Some (left key o text))
            ≡ option_map (left key o) (option_or said (Some text))
        join None = refl
        join (Some t) = refl

        by_place : same_value_key other key ≡ false → (placed : Option Placed) → placed_at r facts year other text ≡ placed
            → last (place key o) (cons_option placed xs) ≡ last (place key o) xs
        by_place not None is = refl
        by_place not (Some p) is = put-other p xs (apart other text p (placed-from other text p is) not)

        by_key : (b : Bool) → same_value_key other key ≡ b
            → last (place key o) (cons_option (placed_at r facts year other text) xs) ≡ option_map (left key o) (option_or said (cond b (Some text) None))
        by_key true is =
            ap (λ k. last (place key o) (cons_option (placed_at r facts year k text) xs)) ((same_value_key-Decides other key).0 is)
            ∙ ap (λ placed. last (place key o) (cons_option placed xs)) (own-place text) ∙ put-own text xs
            ∙ ap (λ l. option_or l (Some (left key o text))) rest ∙ join said
        by_key false not =
            by_place not (placed_at r facts year other text) refl ∙ rest ∙ ap (option_map (left key o)) (sym (or-none said))

    abbrev LastIs : List Write → Type 0
    LastIs ws = last (place key o) (filter_map (placed_by r facts year) ws) ≡ option_map (left key o) (last_said (of_value key) (map said_by ws))

    one-more : (other : ValueKey) (text : Option (List ℕ)) (ws : List Write) → LastIs ws
        → last (place key o) (cons_option (placed_at r facts year other text) (filter_map (placed_by r facts year) ws))
        ≡ option_map (left key o) (option_or (last_said (of_value key) (map said_by ws)) (cond (same_value_key other key) (Some text) None))
    one-more other text ws rest = step other text (filter_map (placed_by r facts year) ws) (last_said (of_value key) (map said_by ws)) rest

    none-more : (ws : List Write) → LastIs ws
        → last (place key o) (filter_map (placed_by r facts year) ws)
        ≡ option_map (left key o) (option_or (last_said (of_value key) (map said_by ws)) None)
    none-more ws rest = rest ∙ ap (option_map (left key o)) (sym (or-none (last_said (of_value key) (map said_by ws))))

    last-said : (writes : List Write) → LastIs writes
    unfolding placed_by
    last-said [] = refl
    last-said (write.ValueSet other text ∷ ws) = one-more other (Some text) ws (last-said ws)
    last-said (write.ValueCleared other ∷ ws) = one-more other None ws (last-said ws)
    last-said (write.EventWritten event ∷ ws) = none-more ws (last-said ws)
    last-said (write.EventDeleted id ∷ ws) = none-more ws (last-said ws)
    last-said (write.EnrollmentWritten enrollment ∷ ws) = none-more ws (last-said ws)
    last-said (write.EnrollmentDeleted id ∷ ws) = none-more ws (last-said ws)
    last-said (write.EntityWritten entity ∷ ws) = none-more ws (last-said ws)
    last-said (write.EntityDeleted id ∷ ws) = none-more ws (last-said ws)
    last-said (write.Approve other ∷ ws) = none-more ws (last-said ws)
    last-said (write.Unapprove other ∷ ws) = none-more ws (last-said ws)
    last-said (write.Accept other ∷ ws) = none-more ws (last-said ws)
    last-said (write.Unaccept other ∷ ws) = none-more ws (last-said ws)
    last-said (write.Complete other day ∷ ws) = none-more ws (last-said ws)
    last-said (write.Uncomplete other ∷ ws) = none-more ws (last-said ws)

  -- ---- the rows at the places are those of the keys

  -- what is put is put by a write that names a key
  record PutBy (w : Write) (p : Placed) : Type 0 where
    key : ValueKey
    text : Option (List ℕ)
    named : value_named w ≡ Some key
    of : PlacedOf key text p

  put-by : (w : Write) (p : Placed) → placed_by r facts year w ≡ Some p → PutBy w p
  unfolding placed_by
  put-by (write.ValueSet key text) p is = record { key = key; text = Some text; named = refl; of = placed-from key (Some text) p is }
  put-by (write.ValueCleared key) p is = record { key = key; text = None; named = refl; of = placed-from key None p is }
  put-by (write.EventWritten event) p is = absurd (let e = is in cc)
  put-by (write.EventDeleted id) p is = absurd (let e = is in cc)
  put-by (write.EnrollmentWritten enrollment) p is = absurd (let e = is in cc)
  put-by (write.EnrollmentDeleted id) p is = absurd (let e = is in cc)
  put-by (write.EntityWritten entity) p is = absurd (let e = is in cc)
  put-by (write.EntityDeleted id) p is = absurd (let e = is in cc)
  put-by (write.Approve key) p is = absurd (let e = is in cc)
  put-by (write.Unapprove key) p is = absurd (let e = is in cc)
  put-by (write.Accept key) p is = absurd (let e = is in cc)
  put-by (write.Unaccept key) p is = absurd (let e = is in cc)
  put-by (write.Complete key day) p is = absurd (let e = is in cc)
  put-by (write.Uncomplete key) p is = absurd (let e = is in cc)

  own-row : (w : Write) (p : Placed) → placed_by r facts year w ≡ Some p → (row : Row) → p.row ≡ Some row → key_of row ≡ p.place
  unfolding placed_with values.row_with
  own-row w p is row given =
      let by = put-by w p is in
      let text = map-some (λ t. values.row_with r facts by.key t by.of.objects) by.text row (ap (λ (q : Placed). q.row) by.of.is ∙ given) in
      ap key_of (sym text.2) ∙ ap (λ (q : Placed). q.place) by.of.is

  module _ (writes : List Write) (held : (key : ValueKey) → facts.value key ≡ unwrap_or (last_said (of_value key) (map said_by writes)) None) where
    abbrev put : List Placed
    put = filter_map (placed_by r facts year) writes

    abbrev entries : List (RowKey × Option Row)
    entries = put_placed [] put

    abbrev keys : List ValueKey
    keys = filter (is_wanted year) (values_named writes)

    in-place : InPlace key_cmp key_total same-key key_of entries
    in-place =
        put-in_place key_cmp key_total same-key key_of (λ (p : Placed). p.place) (λ (p : Placed). p.row) [] put
        (filter_map-each (placed_by r facts year) (λ w. Unit {0}) (λ p. (row : Row) → p.row ≡ Some row → key_of row ≡ p.place)
        (λ w p all is. own-row w p is) writes (every writes)) tt

    sorted : IsStrictlySortedBy key_cmp (keys_of entries)
    unfolding IsStrictlySortedBy
    sorted = put-sorted key_cmp key_total same-key (λ (p : Placed). p.place) (λ (p : Placed). p.row) [] put tt

    stands-at : (q : RowKey) → lookup (is_at (key_cmp q)) entries ≡ last q put
    stands-at q = put-lookup key_cmp key_total same-key (λ (p : Placed). p.place) (λ (p : Placed). p.row) q [] put ∙ or-none (last q put)

    to-row : (x : Row) (key : ValueKey) (text : List ℕ) (o : ValueObjects) → is_wanted year key ≡ true → facts.value key ≡ Some text
        → values.objects_of r key ≡ Some o → values.row_with r facts key text o ≡ x → IsIn x (rows_in key_cmp key_total same-key key_of entries)
    to-row x key text o wanted has are is =
        found-row key_cmp key_total same-key key_of (place key o) x entries
        (stands-at (place key o) ∙ last-said key o are wanted writes
        ∙ ap (option_map (left key o)) (was-said (last_said (of_value key) (map said_by writes)) text (sym (held key) ∙ has)) ∙ ap (λ row. Some (Some row)) is)

    to : (x : Row) → IsIn x (filter_map (values.row_of r facts) keys) → IsIn x (rows_in key_cmp key_total same-key key_of entries)
    unfolding values.row_of
    to x is = of-key (in-given (values.row_of r facts) keys x is)
      where
        of-key : Gives (values.row_of r facts) keys x → IsIn x (rows_in key_cmp key_total same-key key_of entries)
        of-key k =
            let text = and_then-some (λ t. option_map (values.row_with r facts k.a t) (values.objects_of r k.a)) (facts.value k.a) x k.is in
            let o = map-some (values.row_with r facts k.a text.0) (values.objects_of r k.a) x text.2 in
            to-row x k.a text.0 o.0 (in-filter (is_wanted year) k.a (values_named writes) k.there).1 text.1 o.1 o.2

    -- the row that stands at a key's place is that of the key
    at-key : (x : Row) (key : ValueKey) (o : ValueObjects) → is_wanted year key ≡ true → values.objects_of r key ≡ Some o
        → last (place key o) put ≡ Some (Some x) → values.row_of r facts key ≡ Some x
    unfolding values.row_of
    at-key x key o wanted are found =
        of-said (map-some (left key o) (last_said (of_value key) (map said_by writes)) (Some x) (sym (last-said key o are wanted writes) ∙ found))
      where
        of-said : (said : Option (List ℕ)) × (last_said (of_value key) (map said_by writes) ≡ Some said) × (left key o said ≡ Some x)
            → option_and_then (λ t. option_map (values.row_with r facts key t) (values.objects_of r key)) (facts.value key) ≡ Some x
        of-said said =
            let text = map-some (λ t. values.row_with r facts key t o) said.0 x said.2 in
            ap (option_and_then (λ t. option_map (values.row_with r facts key t) (values.objects_of r key)))
            (held key ∙ ap (λ s. unwrap_or s None) said.1 ∙ text.1)
            ∙ ap (option_map (values.row_with r facts key text.0)) are ∙ ap Some text.2

    from-row : (x : Row) (w : Write) (p : Placed) → IsIn w writes → PutBy w p → key_of x ≡ p.place → last (key_of x) put ≡ Some (Some x)
        → IsIn x (filter_map (values.row_of r facts) keys)
    unfolding placed_with
    from-row x w p there by at found =
        given-in (values.row_of r facts) by.key x
        (at-key x by.key by.of.objects by.of.wanted by.of.are
        (ap (λ q. last q put) (ap (λ (q : Placed). q.place) by.of.is ∙ sym at) ∙ found)) keys
        (to-filter (is_wanted year) by.key (values_named writes) (given-in value_named w by.key by.named writes there) by.of.wanted)

    from : (x : Row) → IsIn x (rows_in key_cmp key_total same-key key_of entries) → IsIn x (filter_map (values.row_of r facts) keys)
    from x is =
        of-last (sym (stands-at (key_of x)) ∙ row-found key_cmp key_total same-key key_of x entries in-place sorted is)
      where
        of-write : (l : Last key_cmp key_total same-key (λ (p : Placed). p.place) (λ (p : Placed). p.row) (key_of x) put (Some x))
            → Gives (placed_by r facts year) writes l.x
            → last (key_of x) put ≡ Some (Some x) → IsIn x (filter_map (values.row_of r facts) keys)
        of-write l w found = from-row x w.a l.x w.there (put-by w.a l.x w.is) l.at found

        of-last : last (key_of x) put ≡ Some (Some x) → IsIn x (filter_map (values.row_of r facts) keys)
        of-last found =
            of-put (last-in key_cmp key_total same-key (λ (p : Placed). p.place) (λ (p : Placed). p.row) (key_of x) put (Some x) found) found
          where
            of-put : Last key_cmp key_total same-key (λ (p : Placed). p.place) (λ (p : Placed). p.row) (key_of x) put (Some x)
                → last (key_of x) put ≡ Some (Some x) → IsIn x (filter_map (values.row_of r facts) keys)
            of-put l found = of-write l (in-given (placed_by r facts year) writes l.x l.there) found

    pub rows-placed : rows_placed r facts year writes ≡ values.rows_of r facts keys
    unfolding rows_placed
    rows-placed =
        rows-are r facts stands keys (rows_in key_cmp key_total same-key key_of entries)
        (rows-sorted key_cmp key_total same-key key_of entries in-place sorted) to from

-- ---- change by change

module _ {A : Type 0} (of : A → Change) (named : Write → Option Placed) where
  pub placed-step : (changes : List A) (i : ℕ) (a : A) (change : Change) (old new : List Placed) → i < length changes → a ≡ get_or changes i a
      → change ≡ of a
      → new ≡ old ++ filter_map named change.writes
      → old ++ filter_map named (writes_of (map of (drop i changes)))
      ≡ new ++ filter_map named (writes_of (map of (drop (i + 1) changes)))
  placed-step changes i a change old new within is seen next =
      let rest : List Write = writes_of (map of (drop (i + 1) changes)) in
      let here : drop i changes ≡ get_or changes i a ∷ drop (i + 1) changes = rw add-one (drop-cons changes i a within) in
      ap (λ l. old ++ filter_map named (writes_of (map of l))) here
      ∙ ap (λ x. old ++ filter_map named ((of x).writes ++ rest)) (sym is)
      ∙ ap (λ x. old ++ filter_map named (x.writes ++ rest)) (sym seen)
      ∙ ap (λ l. old ++ l) (filter_map-append named change.writes rest)
      ∙ sym (append_assoc old (filter_map named change.writes) (filter_map named rest))
      ∙ ap (λ l. l ++ filter_map named rest) (sym next)

-- ---- what is put is told by a list in the order of the places

abbrev place-of : Placed → RowKey
place-of placed = placed.place

abbrev row-of : Placed → Option Row
row-of placed = placed.row

lasts-rows : (placed : List Placed) → filter_map (λ row. row) (values_of (last_of_each key_cmp place-of row-of placed)) ≡ rows_last placed
lasts-rows [] = refl
lasts-rows (p ∷ ps) = by_next (is_again key_cmp place-of p ps) (lasts-rows ps)
  where
    by_next : (b : Bool) → filter_map (λ row. row) (values_of (last_of_each key_cmp place-of row-of ps)) ≡ rows_last ps
        → filter_map (λ row. row) (values_of (cond b (last_of_each key_cmp place-of row-of ps) ((p.place, p.row) ∷ last_of_each key_cmp place-of row-of ps)))
        ≡ cons_option (cond b None p.row) (rows_last ps)
    by_next true rest = rest
    by_next false rest = ap (cons_option p.row) rest

pub sorted-rows : (put placed : List Placed) → IsSortedByKey place-of key_cmp placed → IsStableByKey place-of key_cmp put placed
    → filter_map (λ row. row) (values_of (put_placed [] put)) ≡ rows_last placed
sorted-rows put placed sorted stable =
    ap (λ es. filter_map (λ row. row) (values_of es)) (put-last key_cmp key_total same-key place-of row-of put placed sorted stable) ∙ lasts-rows placed

-- ---- of what a world holds that has the approvals of the log

pub left-placed : (r : Records) (known : Facts) (year : Option ℤ) (writes : List Write) (rows : List Row) → StandsTree r known
    → known.approval ≡ (facts_in writes).approval
    → rows ≡ rows_placed r known year writes → rows ≡ values.rows_of r (facts_in writes) (filter (is_wanted year) (values_named writes))
unfolding facts_in tree
left-placed r known year writes rows stands same is =
    let held : StandsTree r (facts_in writes) = record { is_tree = stands.is_tree; numbers = stands.numbers } in
    is ∙ rows-same r known (facts_in writes) same year writes ∙ rows-placed r (facts_in writes) held year writes (λ key. refl)

pub left-own-places : (r : Records) (known : Facts) (year : Option ℤ) (writes : List Write) (rows : List Row) → StandsTree r known
    → rows ≡ values.rows_of r (facts_in writes) (filter (is_wanted year) (values_named writes)) → have_own_places rows ≡ true
unfolding tree
left-own-places r known year writes rows stands is =
    let held : StandsTree r (facts_in writes) = record { is_tree = stands.is_tree; numbers = stands.numbers } in
    ap have_own_places is ∙ rows-own r (facts_in writes) held (filter (is_wanted year) (values_named writes))
