-- The years of what writes name are those of the rows that they leave.
use Rattle.std.proofs.Common.{◌≡◌, ◌∙◌, ◌⊎◌, inl, inr, true, cond, ℕ, ◌+◌, ◌<◌, ℤ, List, [], ◌∷◌, ◌++◌, Option, Some, None, length, map}
use Rattle.std.proofs.Common.{drop, get_or, refl, sym, ap, subst, add-one, drop-cons}
use Rattle.std.proofs.Common.{Ordering, Less, Equal, Greater}
use Rattle.std.specs.Prelude.{option_map, option_and_then}
use Rattle.std.specs.Option.{unwrap_or, option_to_list}
use Rattle.std.specs.FinMap.{IsAntisymmetric, int_cmp-IsAntisymmetric}
use Rattle.std.specs.List.{AllByRecursion, filter_map, list_all, cons_option}
use Rattle.std.specs.List.Sorted.{IsStrictlySortedBy}
use Rattle.std.specs.Ordering.{int_cmp, is_eq, match_ordering}
use Rattle.std.specs.BTreeMap.{insert_entry, is_at}
use Rattle.std.specs.Map.{keys_of, lookup}
use Rattle.std.proofs.lemmas.Bool.{and_parts, false≢true}
use Rattle.std.proofs.lemmas.Bool.Decides.{Decides-int_eq}
use Rattle.std.proofs.lemmas.Cmp.{int_cmp_total}
use Rattle.std.proofs.lemmas.List.Elements.{filter_map-append}
use Rattle.dh_periods.proofs.TextLemmas.{and_then-some, map-some}
use Rattle.dh_changes.specs.declared.change.Change.{Change}
use Rattle.dh_changes.specs.declared.change.Write.{Write}
use Rattle.dh_changes.specs.declared.change.Write.TheVariants as write
use Rattle.dh_changes.specs.declared.keys.ValueKey.{ValueKey}
use Rattle.dh_changes.specs.declared.keys.RegKey.{RegKey}
use Rattle.dh_changes.specs.declared.tracker.Event.{Event}
use Rattle.dh_metadata.specs.declared.held.Records.{Records}
use Rattle.dh_changes.specs.Facts.{Facts, facts_in}
use Rattle.table_rows.specs.declared.row.Row.{Row}
use Rattle.table_rows.specs.declared.row.RowKey.{RowKey}
use Rattle.table_rows.specs.declared.event.EventRow.{EventRow}
use Rattle.table_rows.specs.declared.event.RegRow.{RegRow}
use Rattle.table_rows.specs.Rows.{key_of}
use Rattle.table_rows.specs.Order.{key_cmp}
use Rattle.table_rows.proofs.OrderLemmas.{key_total}
use Rattle.table_sums.specs.Years.{period_year, day_year, is_year_if_any}
use Rattle.table_build.specs.declared.events.EventPlace.{EventPlace}
use Rattle.table_build.specs.declared.regs.RegPlace.{RegPlace}
use Rattle.table_build.specs.Log.{writes_of, value_named, reg_named, event_named, values_named, regs_named, events_named}
use Rattle.table_build.specs.Ordered.{put_all, in_order}
use Rattle.table_build.specs.Values as values
use Rattle.table_build.specs.Regs as registrations
use Rattle.table_build.specs.Events as tracker
use Rattle.table_build.specs.Years as years
use Rattle.table_build.specs.Left.{value_year, reg_year, place_year, event_year, write_year, told_year, tells, IsThere, AreThere, years_named}
use Rattle.table_build.specs.Listed.{listed_in}
use Rattle.table_build.proofs.EachLemmas.{every}
use Rattle.table_build.proofs.KeyLemmas.{given-in}
use Rattle.table_build.proofs.MemberLemmas.{IsIn, in_order-is, in_order-has, in_order-from}
use Rattle.table_build.proofs.OrderLemmas.{same-key, reg_total, same-reg, event_total, same-event}
use Rattle.table_build.proofs.OrderedLemmas.{below_all, put_all_append, put_all-keyed, keys-keyed, in_order-sorted}
use Rattle.table_build.proofs.YearLemmas.{in-map, in-left, in-right}

-- ---- change by change

module _ {A : Type 0} (of : A → Change) (named : Write → Option ℤ) where
  pub put-step : (changes : List A) (i : ℕ) (a : A) (change : Change) (old new : List (ℤ × ℤ)) → i < length changes → a ≡ get_or changes i a → change ≡ of a
      → new ≡ put_all int_cmp (λ year. year) old (filter_map named change.writes)
      → put_all int_cmp (λ year. year) old (filter_map named (writes_of (map of (drop i changes))))
      ≡ put_all int_cmp (λ year. year) new (filter_map named (writes_of (map of (drop (i + 1) changes))))
  put-step changes i a change old new within is seen next =
      let rest : List Write = writes_of (map of (drop (i + 1) changes)) in
      let here : drop i changes ≡ get_or changes i a ∷ drop (i + 1) changes = rw add-one (drop-cons changes i a within) in
      ap (λ l. put_all int_cmp (λ year. year) old (filter_map named (writes_of (map of l)))) here
      ∙ ap (λ x. put_all int_cmp (λ year. year) old (filter_map named ((of x).writes ++ rest))) (sym is)
      ∙ ap (λ x. put_all int_cmp (λ year. year) old (filter_map named (x.writes ++ rest))) (sym seen)
      ∙ ap (put_all int_cmp (λ year. year) old) (filter_map-append named change.writes rest)
      ∙ put_all_append int_cmp (λ year. year) old (filter_map named change.writes) (filter_map named rest)
      ∙ ap (λ es. put_all int_cmp (λ year. year) es (filter_map named rest)) (sym next)

-- ---- write by write

inside : {A : Type 0} (x y : A) → Some x ≡ Some y → x ≡ y
inside x y e = ap (λ o. unwrap_or o x) e

put-option : (es : List (ℤ × ℤ)) (o : Option ℤ) (rest : List ℤ)
    → put_all int_cmp (λ year. year) es (cons_option o rest) ≡ put_all int_cmp (λ year. year) (put_all int_cmp (λ year. year) es (option_to_list o)) rest
put-option es None rest = refl
put-option es (Some year) rest = refl

-- the writes after one more
pub write-step : (named : Write → Option ℤ) (writes : List Write) (i : ℕ) (w : Write) (old new : List (ℤ × ℤ)) → i < length writes → w ≡ get_or writes i w
    → new ≡ put_all int_cmp (λ year. year) old (option_to_list (named w))
    → put_all int_cmp (λ year. year) old (filter_map named (drop i writes)) ≡ put_all int_cmp (λ year. year) new (filter_map named (drop (i + 1) writes))
write-step named writes i w old new within is next =
    let rest : List Write = drop (i + 1) writes in
    let here : drop i writes ≡ get_or writes i w ∷ rest = rw add-one (drop-cons writes i w within) in
    ap (λ l. put_all int_cmp (λ year. year) old (filter_map named l)) here
    ∙ ap (λ x. put_all int_cmp (λ year. year) old (filter_map named (x ∷ rest))) (sym is)
    ∙ put-option old (named w) (filter_map named rest)
    ∙ ap (λ es. put_all int_cmp (λ year. year) es (filter_map named rest)) (sym next)

-- an ascending list in which a year is found stays as it is when that is put there
pub there : (es : List (ℤ × ℤ)) (year : ℤ) → IsStrictlySortedBy int_cmp (keys_of es) → lookup (is_at (int_cmp year)) es ≡ Some year
    → IsThere es (Some year)
unfolding IsStrictlySortedBy
there [] year s found = absurd (cc)
there (e ∷ es) year s found = by_order (int_cmp year e.0) refl (there es year s.1)
  where
    above : (fs : List (ℤ × ℤ)) → AllByRecursion (λ y. int_cmp year y ≡ Less) (keys_of fs) → lookup (is_at (int_cmp year)) fs ≡ None
    above [] all = refl
    above (f ∷ fs) all = ap (λ r. cond (is_eq r) (Some f.1) (lookup (is_at (int_cmp year)) fs)) all.0 ∙ above fs all.1

    here : (r : Ordering) → int_cmp year e.0 ≡ r → cond (is_eq r) (Some e.1) (lookup (is_at (int_cmp year)) es) ≡ Some year
    here r is = ap (λ o. cond (is_eq o) (Some e.1) (lookup (is_at (int_cmp year)) es)) (sym is) ∙ found

    by_order : (r : Ordering) → int_cmp year e.0 ≡ r
        → (lookup (is_at (int_cmp year)) es ≡ Some year → insert_entry int_cmp es year year ≡ es)
        → match_ordering (int_cmp year e.0) ((year, year) ∷ e ∷ es) ((e.0, year) ∷ es) (e ∷ insert_entry int_cmp es year year) ≡ e ∷ es
    by_order Less is rest =
        let none = above (e ∷ es) (is, below_all int_cmp int_cmp_total year e.0 (keys_of es) is s.0) in
        absurd (let e = sym none ∙ found in cc)
    by_order Equal is rest =
        let own : e.1 ≡ year = inside e.1 year (here Equal is) in
        ap (λ o. match_ordering o ((year, year) ∷ e ∷ es) ((e.0, year) ∷ es) (e ∷ insert_entry int_cmp es year year)) is
        ∙ ap (λ y. (e.0, y) ∷ es) (sym own)
    by_order Greater is rest =
        ap (λ o. match_ordering o ((year, year) ∷ e ∷ es) ((e.0, year) ∷ es) (e ∷ insert_entry int_cmp es year year)) is
        ∙ ap (λ fs. e ∷ fs) (rest (here Greater is))

module _ (r : Records) (facts : Facts) where
  value-told : (key : ValueKey) (es : List (ℤ × ℤ)) → IsThere es (Some (period_year key.period))
      → es ≡ put_all int_cmp (λ year. year) es (option_to_list (value_year r facts key))
  unfolding value_year
  value-told key es is = by_text (facts.value key)
    where
      by_objects : {A : Type 0} (o : Option A)
          → es ≡ put_all int_cmp (λ year. year) es (option_to_list (option_map (λ objects. period_year key.period) o))
      by_objects None = refl
      by_objects (Some objects) = sym is

      by_text : {T : Type 0} (o : Option T) → es
          ≡ put_all int_cmp (λ year. year) es
          (option_to_list (option_and_then (λ text. option_map (λ objects. period_year key.period) (values.objects_of r key)) o))
      by_text None = refl
      by_text (Some text) = by_objects (values.objects_of r key)

  reg-told : (key : RegKey) (es : List (ℤ × ℤ)) → IsThere es (Some (period_year key.period))
      → es ≡ put_all int_cmp (λ year. year) es (option_to_list (reg_year r facts key))
  unfolding reg_year
  reg-told key es is = by_day (facts.registration key)
    where
      by_objects : {A : Type 0} (o : Option A)
          → es ≡ put_all int_cmp (λ year. year) es (option_to_list (option_map (λ objects. period_year key.period) o))
      by_objects None = refl
      by_objects (Some objects) = sym is

      by_day : {T : Type 0} (o : Option T) → es
          ≡ put_all int_cmp (λ year. year) es
          (option_to_list (option_and_then (λ day. option_map (λ objects. period_year key.period) (registrations.objects_of r key)) o))
      by_day None = refl
      by_day (Some day) = by_objects (registrations.objects_of r key)

  -- where a write tells a year that is there, its year changes nothing
  pub told : (w : Write) (es : List (ℤ × ℤ)) → IsThere es (told_year w) → es ≡ put_all int_cmp (λ year. year) es (option_to_list (write_year r facts w))
  unfolding told_year write_year
  told (write.ValueSet key value) es is = value-told key es is
  told (write.ValueCleared key) es is = value-told key es is
  told (write.EventWritten event) es is = absurd is
  told (write.EventDeleted id) es is = absurd is
  told (write.EnrollmentWritten enrollment) es is = absurd is
  told (write.EnrollmentDeleted id) es is = absurd is
  told (write.EntityWritten entity) es is = absurd is
  told (write.EntityDeleted id) es is = absurd is
  told (write.Approve key) es is = absurd is
  told (write.Unapprove key) es is = absurd is
  told (write.Accept key) es is = absurd is
  told (write.Unaccept key) es is = absurd is
  told (write.Complete key day) es is = reg-told key es is
  told (write.Uncomplete key) es is = reg-told key es is

  -- where all writes do, their years change nothing
  pub settled : (ws : List Write) (es : List (ℤ × ℤ)) → AreThere es ws
      → es ≡ put_all int_cmp (λ year. year) es (filter_map (write_year r facts) ws)
  settled [] es all = refl
  settled (w ∷ ws) es all =
      settled ws es all.1 ∙ ap (λ fs. put_all int_cmp (λ year. year) fs (filter_map (write_year r facts) ws)) (told w es all.0)
      ∙ sym (put-option es (write_year r facts w) (filter_map (write_year r facts) ws))

told-by : (o : Option ℤ) (year : ℤ) → is_year_if_any o year ≡ true → o ≡ Some year
told-by None year e = absurd (false≢true e)
told-by (Some found) year e = ap Some ((Decides-int_eq found year).0 e)

-- where all writes tell a year that is there, each does
pub all-there : (ws : List Write) (es : List (ℤ × ℤ)) (year : ℤ) → IsThere es (Some year) → list_all (tells year) ws ≡ true → AreThere es ws
all-there [] es year is all = tt
all-there (w ∷ ws) es year is all =
    let parts = and_parts (tells year w) (list_all (tells year) ws) all in
    (subst (IsThere es) (sym (told-by (told_year w) year parts.0)) is, all-there ws es year is parts.1)

-- ---- members

-- a member of a list of which f gives b
pub record Gives {A B : Type 0} (f : A → Option B) (xs : List A) (b : B) : Type 0 where
  pub a : A
  pub there : IsIn a xs
  pub is : f a ≡ Some b

later : {A B : Type 0} (f : A → Option B) (x : A) (xs : List A) (b : B) → Gives f xs b → Gives f (x ∷ xs) b
later f x xs b g = record { a = g.a; there = inr g.there; is = g.is }

pub in-given : {A B : Type 0} (f : A → Option B) (xs : List A) (b : B) → IsIn b (filter_map f xs) → Gives f xs b
in-given f [] b none = absurd none
in-given {A = A} {B = B} f (x ∷ xs) b is = by_first (f x) refl is (λ in_rest. in-given f xs b in_rest)
  where
    by_first : (o : Option B) → f x ≡ o → IsIn b (cons_option o (filter_map f xs)) → (IsIn b (filter_map f xs) → Gives f xs b) → Gives f (x ∷ xs) b
    by_first None e in_rest more = later f x xs b (more in_rest)
    by_first (Some y) e (inl same) more = record { a = x; there = inl refl; is = e ∙ ap Some (sym same) }
    by_first (Some y) e (inr in_rest) more = later f x xs b (more in_rest)

-- a member that is mapped to b
record Maps {A B : Type 0} (f : A → B) (xs : List A) (b : B) : Type 0 where
  a : A
  there : IsIn a xs
  is : f a ≡ b

in-mapped : {A B : Type 0} (f : A → B) (xs : List A) (b : B) → IsIn b (map f xs) → Maps f xs b
in-mapped f [] b none = absurd none
in-mapped f (x ∷ xs) b (inl same) = record { a = x; there = inl refl; is = sym same }
in-mapped f (x ∷ xs) b (inr more) = let g = in-mapped f xs b more in record { a = g.a; there = inr g.there; is = g.is }

in-either : {A : Type 0} (x : A) (xs ys : List A) → IsIn x (xs ++ ys) → IsIn x xs ⊎ IsIn x ys
in-either x [] ys is = inr is
in-either x (z ∷ xs) ys (inl same) = inl (inl same)
in-either x (z ∷ xs) ys (inr more) = elim (in-either x xs ys more) [
  | inl left ↦ inl (inr left)
  | inr right ↦ inr right
]

-- ---- each key of a list is one of the ordered list

module _ {K X : Type 0} (cmp : K → K → Ordering) (key : X → K) (decides : IsAntisymmetric cmp) where
  put-key : (x : X) (es : List (K × X)) → IsIn (key x) (keys_of (insert_entry cmp es (key x) x))
  put-key x [] = inl refl
  put-key x (e ∷ es) =
      elim (cmp (key x) e.0) as (λ r. cmp (key x) e.0 ≡ r
      → IsIn (key x) (keys_of (match_ordering r ((key x, x) ∷ e ∷ es) ((e.0, x) ∷ es) (e ∷ insert_entry cmp es (key x) x)))) [
        | Less ↦ λ is. inl refl
        | Equal ↦ λ is. inl (decides (key x) e.0 is)
        | Greater ↦ λ is. inr (put-key x es)
      ] refl

  stays-key : (k : K) (x : X) (es : List (K × X)) → IsIn k (keys_of es) → IsIn k (keys_of (insert_entry cmp es (key x) x))
  stays-key k x [] none = absurd none
  stays-key k x (e ∷ es) is =
      elim (cmp (key x) e.0) as (λ r. IsIn k (keys_of (match_ordering r ((key x, x) ∷ e ∷ es) ((e.0, x) ∷ es) (e ∷ insert_entry cmp es (key x) x)))) [
        | Less ↦ inr is
        | Equal ↦ is
        | Greater ↦ elim is [
          | inl same ↦ inl same
          | inr more ↦ inr (stays-key k x es more)
        ]
      ]

  put_all-key : (k : K) (es : List (K × X)) (xs : List X) → IsIn k (keys_of es) ⊎ IsIn k (map key xs) → IsIn k (keys_of (put_all cmp key es xs))
  put_all-key k es [] (inl was) = was
  put_all-key k es [] (inr none) = absurd none
  put_all-key k es (x ∷ xs) (inl was) = put_all-key k (insert_entry cmp es (key x) x) xs (inl (stays-key k x es was))
  put_all-key k es (x ∷ xs) (inr (inl same)) =
      put_all-key k (insert_entry cmp es (key x) x) xs
      (inl (subst (λ j. IsIn j (keys_of (insert_entry cmp es (key x) x))) (sym same) (put-key x es)))
  put_all-key k es (x ∷ xs) (inr (inr more)) = put_all-key k (insert_entry cmp es (key x) x) xs (inr more)

  in_order-key : (k : K) (xs : List X) → IsIn k (map key xs) → IsIn k (map key (in_order cmp key xs))
  in_order-key k xs is =
      subst (IsIn k) (keys-keyed cmp key (put_all cmp key [] xs) (put_all-keyed cmp key decides [] xs tt)) (put_all-key k [] xs (inr is))

-- ---- what a write names

module _ (r : Records) (facts : Facts) where
  value-write : (w : Write) (named : ValueKey) → value_named w ≡ Some named → write_year r facts w ≡ value_year r facts named
  unfolding write_year
  value-write (write.ValueSet key value) named is = ap (value_year r facts) (inside key named is)
  value-write (write.ValueCleared key) named is = ap (value_year r facts) (inside key named is)
  value-write (write.EventWritten event) named is = absurd (let e = is in cc)
  value-write (write.EventDeleted id) named is = absurd (let e = is in cc)
  value-write (write.EnrollmentWritten enrollment) named is = absurd (let e = is in cc)
  value-write (write.EnrollmentDeleted id) named is = absurd (let e = is in cc)
  value-write (write.EntityWritten entity) named is = absurd (let e = is in cc)
  value-write (write.EntityDeleted id) named is = absurd (let e = is in cc)
  value-write (write.Approve key) named is = absurd (let e = is in cc)
  value-write (write.Unapprove key) named is = absurd (let e = is in cc)
  value-write (write.Accept key) named is = absurd (let e = is in cc)
  value-write (write.Unaccept key) named is = absurd (let e = is in cc)
  value-write (write.Complete key day) named is = absurd (let e = is in cc)
  value-write (write.Uncomplete key) named is = absurd (let e = is in cc)

  reg-write : (w : Write) (named : RegKey) → reg_named w ≡ Some named → write_year r facts w ≡ reg_year r facts named
  unfolding write_year
  reg-write (write.ValueSet key value) named is = absurd (let e = is in cc)
  reg-write (write.ValueCleared key) named is = absurd (let e = is in cc)
  reg-write (write.EventWritten event) named is = absurd (let e = is in cc)
  reg-write (write.EventDeleted id) named is = absurd (let e = is in cc)
  reg-write (write.EnrollmentWritten enrollment) named is = absurd (let e = is in cc)
  reg-write (write.EnrollmentDeleted id) named is = absurd (let e = is in cc)
  reg-write (write.EntityWritten entity) named is = absurd (let e = is in cc)
  reg-write (write.EntityDeleted id) named is = absurd (let e = is in cc)
  reg-write (write.Approve key) named is = absurd (let e = is in cc)
  reg-write (write.Unapprove key) named is = absurd (let e = is in cc)
  reg-write (write.Accept key) named is = absurd (let e = is in cc)
  reg-write (write.Unaccept key) named is = absurd (let e = is in cc)
  reg-write (write.Complete key day) named is = ap (reg_year r facts) (inside key named is)
  reg-write (write.Uncomplete key) named is = ap (reg_year r facts) (inside key named is)

  event-write : (w : Write) (named : List ℕ) → event_named w ≡ Some named → write_year r facts w ≡ event_year r facts named
  unfolding write_year
  event-write (write.ValueSet key value) named is = absurd (let e = is in cc)
  event-write (write.ValueCleared key) named is = absurd (let e = is in cc)
  event-write (write.EventWritten event) named is = ap (event_year r facts) (inside event.id named is)
  event-write (write.EventDeleted id) named is = ap (event_year r facts) (inside id named is)
  event-write (write.EnrollmentWritten enrollment) named is = absurd (let e = is in cc)
  event-write (write.EnrollmentDeleted id) named is = absurd (let e = is in cc)
  event-write (write.EntityWritten entity) named is = absurd (let e = is in cc)
  event-write (write.EntityDeleted id) named is = absurd (let e = is in cc)
  event-write (write.Approve key) named is = absurd (let e = is in cc)
  event-write (write.Unapprove key) named is = absurd (let e = is in cc)
  event-write (write.Accept key) named is = absurd (let e = is in cc)
  event-write (write.Unaccept key) named is = absurd (let e = is in cc)
  event-write (write.Complete key day) named is = absurd (let e = is in cc)
  event-write (write.Uncomplete key) named is = absurd (let e = is in cc)

  -- ---- the year of a key, an event is that of its row

  row-of : (key : ValueKey) (year : ℤ) → value_year r facts key ≡ Some year → (row : Row) × (values.row_of r facts key ≡ Some row) × (years.row_year row ≡ year)
  unfolding value_year values.row_of values.row_with years.row_year
  row-of key year e =
      let text = and_then-some (λ text. option_map (λ objects. period_year key.period) (values.objects_of r key)) (facts.value key) year e in
      let o = map-some (λ objects. period_year key.period) (values.objects_of r key) year text.2 in (
        values.row_with r facts key text.0 o.0,
        ap (option_and_then (λ text. option_map (values.row_with r facts key text) (values.objects_of r key))) text.1
            ∙ ap (option_map (values.row_with r facts key text.0)) o.1,
        o.2,
      )

  of-row : (key : ValueKey) (row : Row) → values.row_of r facts key ≡ Some row → value_year r facts key ≡ Some (years.row_year row)
  unfolding value_year values.row_of values.row_with years.row_year
  of-row key row e =
      let text = and_then-some (λ text. option_map (values.row_with r facts key text) (values.objects_of r key)) (facts.value key) row e in
      let o = map-some (values.row_with r facts key text.0) (values.objects_of r key) row text.2 in
      ap (option_and_then (λ text. option_map (λ objects. period_year key.period) (values.objects_of r key))) text.1
      ∙ ap (option_map (λ objects. period_year key.period)) o.1
      ∙ ap (λ (x : Row). Some (period_year x.period)) o.2

  reg-of : (key : RegKey) (year : ℤ) → reg_year r facts key ≡ Some year
      → (reg : RegRow) × (registrations.reg_of r facts key ≡ Some reg) × (years.reg_year reg ≡ year)
  unfolding reg_year registrations.reg_of registrations.reg_with years.reg_year
  reg-of key year e =
      let day = and_then-some (λ day. option_map (λ objects. period_year key.period) (registrations.objects_of r key)) (facts.registration key) year e in
      let o = map-some (λ objects. period_year key.period) (registrations.objects_of r key) year day.2 in (
        registrations.reg_with r facts key day.0 o.0,
        ap (option_and_then (λ day. option_map (registrations.reg_with r facts key day) (registrations.objects_of r key))) day.1
            ∙ ap (option_map (registrations.reg_with r facts key day.0)) o.1,
        o.2,
      )

  of-reg : (key : RegKey) (reg : RegRow) → registrations.reg_of r facts key ≡ Some reg → reg_year r facts key ≡ Some (years.reg_year reg)
  unfolding reg_year registrations.reg_of registrations.reg_with years.reg_year
  of-reg key reg e =
      let day = and_then-some (λ day. option_map (registrations.reg_with r facts key day) (registrations.objects_of r key)) (facts.registration key) reg e in
      let o = map-some (registrations.reg_with r facts key day.0) (registrations.objects_of r key) reg day.2 in
      ap (option_and_then (λ day. option_map (λ objects. period_year key.period) (registrations.objects_of r key))) day.1
      ∙ ap (option_map (λ objects. period_year key.period)) o.1
      ∙ ap (λ (x : RegRow). Some (period_year x.period)) o.2

  event-of : (place : EventPlace) (year : ℤ) → place_year r facts place ≡ Some year
      → (row : EventRow) × (tracker.event_at r facts place ≡ Some row) × (years.event_year row ≡ Some year)
  unfolding place_year tracker.event_at tracker.event_with years.event_year
  event-of place year e =
      let event =
      and_then-some (λ (event : Event). option_and_then (λ objects. day_year place.day) (tracker.objects_of r event)) (facts.event place.id) year e in
      let o = and_then-some (λ objects. day_year place.day) (tracker.objects_of r event.0) year event.2 in (
        tracker.event_with r facts place event.0 o.0,
        ap (option_and_then (λ (event : Event). option_map (tracker.event_with r facts place event) (tracker.objects_of r event))) event.1
            ∙ ap (option_map (tracker.event_with r facts place event.0)) o.1,
        o.2,
      )

  of-event : (place : EventPlace) (row : EventRow) (year : ℤ) → tracker.event_at r facts place ≡ Some row → years.event_year row ≡ Some year
      → place_year r facts place ≡ Some year
  unfolding place_year tracker.event_at tracker.event_with years.event_year
  of-event place row year e is =
      let event =
      and_then-some (λ (event : Event). option_map (tracker.event_with r facts place event) (tracker.objects_of r event)) (facts.event place.id) row e in
      let o = map-some (tracker.event_with r facts place event.0) (tracker.objects_of r event.0) row event.2 in
      ap (option_and_then (λ (event : Event). option_and_then (λ objects. day_year place.day) (tracker.objects_of r event))) event.1
      ∙ ap (option_and_then (λ objects. day_year place.day)) o.1
      ∙ ap (λ (x : EventRow). day_year x.day) o.2
      ∙ is

-- ---- the years of rows are named

module _ (r : Records) (facts : Facts) (writes : List Write) where
  abbrev Named : ℤ → Type 0
  Named year = IsIn year (filter_map (write_year r facts) writes)

  abbrev Left : ℤ → Type 0
  Left year =
      IsIn year (map years.row_year (values.rows_of r facts (values_named writes))
      ++ (map years.reg_year (registrations.regs_of r facts (regs_named writes))
      ++ filter_map years.event_year (tracker.events_of r facts (events_named writes))))

  value-named : (key : ValueKey) (year : ℤ) → IsIn key (values_named writes) → value_year r facts key ≡ Some year → Named year
  value-named key year there is =
      let w = in-given value_named writes key there in
      given-in (write_year r facts) w.a year (value-write r facts w.a key w.is ∙ is) writes w.there

  reg-named : (key : RegKey) (year : ℤ) → IsIn key (regs_named writes) → reg_year r facts key ≡ Some year → Named year
  reg-named key year there is =
      let w = in-given reg_named writes key there in
      given-in (write_year r facts) w.a year (reg-write r facts w.a key w.is ∙ is) writes w.there

  event-named : (id : List ℕ) (year : ℤ) → IsIn id (events_named writes) → event_year r facts id ≡ Some year → Named year
  event-named id year there is =
      let w = in-given event_named writes id there in
      given-in (write_year r facts) w.a year (event-write r facts w.a id w.is ∙ is) writes w.there

  row-named : (year : ℤ) → IsIn year (map years.row_year (values.rows_of r facts (values_named writes))) → Named year
  unfolding values.rows_of
  row-named year is =
      let row = in-mapped years.row_year (values.rows_of r facts (values_named writes)) year is in
      let given =
      in_order-from key_cmp key_of key_total same-key (λ x. ⊥) (λ x y p q same. absurd p)
      (filter_map (values.row_of r facts) (values_named writes)) row.a row.there in
      let key = in-given (values.row_of r facts) (values_named writes) row.a given in
      value-named key.a year key.there (of-row r facts key.a row.a key.is ∙ ap Some row.is)

  registered : (year : ℤ) → IsIn year (map years.reg_year (registrations.regs_of r facts (regs_named writes))) → Named year
  unfolding registrations.regs_of
  registered year is =
      let reg = in-mapped years.reg_year (registrations.regs_of r facts (regs_named writes)) year is in
      let given =
      in_order-from registrations.place_cmp registrations.place_of reg_total same-reg (λ x. ⊥) (λ x y p q same. absurd p)
      (filter_map (registrations.reg_of r facts) (regs_named writes)) reg.a reg.there in
      let key = in-given (registrations.reg_of r facts) (regs_named writes) reg.a given in
      reg-named key.a year key.there (of-reg r facts key.a reg.a key.is ∙ ap Some reg.is)

  occurred : (year : ℤ) → IsIn year (filter_map years.event_year (tracker.events_of r facts (events_named writes))) → Named year
  unfolding tracker.events_of tracker.places_of event_year
  occurred year is =
      let row = in-given years.event_year (tracker.events_of r facts (events_named writes)) year is in
      let place = in-given (tracker.event_at r facts) (tracker.places_of facts (events_named writes)) row.a row.there in
      let given =
      in_order-from tracker.place_cmp (λ x. x) event_total same-event (λ x. Unit {0}) (λ x y p q same. same)
      (filter_map (tracker.place_of facts) (events_named writes)) place.a place.there in
      let id = in-given (tracker.place_of facts) (events_named writes) place.a given in
      event-named id.a year id.there
      (ap (option_and_then (place_year r facts)) id.is ∙ of-event r facts place.a row.a year place.is row.is)

  pub left-named : (year : ℤ) → Left year → Named year
  left-named year is =
      elim (in-either year (map years.row_year (values.rows_of r facts (values_named writes))) _ is) [
        | inl row ↦ row-named year row
        | inr more ↦ elim (in-either year (map years.reg_year (registrations.regs_of r facts (regs_named writes))) _ more) [
          | inl reg ↦ registered year reg
          | inr event ↦ occurred year event
        ]
      ]

  -- ---- the years that are named are those of rows

  value-left : (key : ValueKey) (year : ℤ) → IsIn key (values_named writes) → value_year r facts key ≡ Some year
      → IsIn year (map years.row_year (values.rows_of r facts (values_named writes)))
  unfolding values.rows_of years.row_year
  value-left key year there is =
      let row = row-of r facts key year is in
      let given = given-in (values.row_of r facts) key row.0 row.1 (values_named writes) there in
      let held =
      in-mapped key_of (values.rows_of r facts (values_named writes)) (key_of row.0)
      (in_order-key key_cmp key_of same-key (key_of row.0) (filter_map (values.row_of r facts) (values_named writes))
      (in-map key_of row.0 (filter_map (values.row_of r facts) (values_named writes)) given)) in
      subst (λ y. IsIn y (map years.row_year (values.rows_of r facts (values_named writes))))
      (ap (λ (k : RowKey). period_year k.group.period) held.is ∙ row.2)
      (in-map years.row_year held.a (values.rows_of r facts (values_named writes)) held.there)

  reg-left : (key : RegKey) (year : ℤ) → IsIn key (regs_named writes) → reg_year r facts key ≡ Some year
      → IsIn year (map years.reg_year (registrations.regs_of r facts (regs_named writes)))
  unfolding registrations.regs_of years.reg_year
  reg-left key year there is =
      let reg = reg-of r facts key year is in
      let given = given-in (registrations.reg_of r facts) key reg.0 reg.1 (regs_named writes) there in
      let held =
      in-mapped registrations.place_of (registrations.regs_of r facts (regs_named writes)) (registrations.place_of reg.0)
      (in_order-key registrations.place_cmp registrations.place_of same-reg (registrations.place_of reg.0)
      (filter_map (registrations.reg_of r facts) (regs_named writes))
      (in-map registrations.place_of reg.0 (filter_map (registrations.reg_of r facts) (regs_named writes)) given)) in
      subst (λ y. IsIn y (map years.reg_year (registrations.regs_of r facts (regs_named writes))))
      (ap (λ (k : RegPlace). period_year k.period) held.is ∙ reg.2)
      (in-map years.reg_year held.a (registrations.regs_of r facts (regs_named writes)) held.there)

  event-left : (id : List ℕ) (year : ℤ) → IsIn id (events_named writes) → event_year r facts id ≡ Some year
      → IsIn year (filter_map years.event_year (tracker.events_of r facts (events_named writes)))
  unfolding tracker.events_of tracker.places_of event_year
  event-left id year there is =
      let place = and_then-some (place_year r facts) (tracker.place_of facts id) year is in
      let row = event-of r facts place.0 year place.2 in
      let given = given-in (tracker.place_of facts) id place.0 place.1 (events_named writes) there in
      let held =
      in_order-has tracker.place_cmp (λ x. x) event_total same-event (λ x. Unit {0}) (λ x y p q same. same)
      (filter_map (tracker.place_of facts) (events_named writes)) place.0 (every _) given in
      given-in years.event_year row.0 year row.2 (tracker.events_of r facts (events_named writes))
      (given-in (tracker.event_at r facts) place.0 row.0 row.1 (tracker.places_of facts (events_named writes)) held)

  left-value : (key : ValueKey) (year : ℤ) → IsIn key (values_named writes) → value_year r facts key ≡ Some year → Left year
  left-value key year there is =
      in-left year (map years.row_year (values.rows_of r facts (values_named writes))) _ (value-left key year there is)

  left-reg : (key : RegKey) (year : ℤ) → IsIn key (regs_named writes) → reg_year r facts key ≡ Some year → Left year
  left-reg key year there is =
      in-right year (map years.row_year (values.rows_of r facts (values_named writes))) _
      (in-left year (map years.reg_year (registrations.regs_of r facts (regs_named writes))) _ (reg-left key year there is))

  left-event : (id : List ℕ) (year : ℤ) → IsIn id (events_named writes) → event_year r facts id ≡ Some year → Left year
  left-event id year there is =
      in-right year (map years.row_year (values.rows_of r facts (values_named writes))) _
      (in-right year (map years.reg_year (registrations.regs_of r facts (regs_named writes))) _ (event-left id year there is))

  by-write : (w : Write) (year : ℤ) → IsIn w writes → write_year r facts w ≡ Some year → Left year
  unfolding write_year
  by-write (write.ValueSet key value) year there is = left-value key year (given-in value_named (write.ValueSet key value) key refl writes there) is
  by-write (write.ValueCleared key) year there is = left-value key year (given-in value_named (write.ValueCleared key) key refl writes there) is
  by-write (write.EventWritten event) year there is = left-event event.id year (given-in event_named (write.EventWritten event) event.id refl writes there) is
  by-write (write.EventDeleted id) year there is = left-event id year (given-in event_named (write.EventDeleted id) id refl writes there) is
  by-write (write.EnrollmentWritten enrollment) year there is = absurd (let e = is in cc)
  by-write (write.EnrollmentDeleted id) year there is = absurd (let e = is in cc)
  by-write (write.EntityWritten entity) year there is = absurd (let e = is in cc)
  by-write (write.EntityDeleted id) year there is = absurd (let e = is in cc)
  by-write (write.Approve key) year there is = absurd (let e = is in cc)
  by-write (write.Unapprove key) year there is = absurd (let e = is in cc)
  by-write (write.Accept key) year there is = absurd (let e = is in cc)
  by-write (write.Unaccept key) year there is = absurd (let e = is in cc)
  by-write (write.Complete key day) year there is = left-reg key year (given-in reg_named (write.Complete key day) key refl writes there) is
  by-write (write.Uncomplete key) year there is = left-reg key year (given-in reg_named (write.Uncomplete key) key refl writes there) is

  pub named-left : (year : ℤ) → Named year → Left year
  named-left year is = let w = in-given (write_year r facts) writes year is in by-write w.a year w.there w.is

-- the years of what writes name are those of what they leave
pub years-left : (r : Records) (writes : List Write) → years_named r (facts_in writes) writes ≡ (listed_in r writes).years
unfolding years_named years.years_of listed_in
years-left r writes =
    let facts = facts_in writes in
    let rows = values.rows_of r facts (values_named writes) in
    let regs = registrations.regs_of r facts (regs_named writes) in
    let events = tracker.events_of r facts (events_named writes) in
    let left = map years.row_year rows ++ (map years.reg_year regs ++ filter_map years.event_year events) in
    sym (in_order-is int_cmp (λ y. y) int_cmp_total int_cmp-IsAntisymmetric (λ y. Unit {0}) (λ x y p q same. same)
    (filter_map (write_year r facts) writes) (in_order int_cmp (λ y. y) left) (every _)
    (in_order-sorted int_cmp (λ y. y) int_cmp_total int_cmp-IsAntisymmetric left)
    (λ year is. in_order-has int_cmp (λ y. y) int_cmp_total int_cmp-IsAntisymmetric (λ y. Unit {0}) (λ x y p q same. same) left year (every _)
    (named-left r facts writes year is))
    (λ year is. left-named r facts writes year
    (in_order-from int_cmp (λ y. y) int_cmp_total int_cmp-IsAntisymmetric (λ y. Unit {0}) (λ x y p q same. same) left year is)))
