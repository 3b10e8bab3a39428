-- What writes say at the places of values is at last what the keys hold, so that what they hold needn't be looked up.
use Rattle.std.proofs.Common.{◌≡◌, ◌∙◌, ◌≤◌, arith, length, ℕ, Bool, true, false, cond, List, [], ◌∷◌, ◌++◌, inl, inr, Option, Some, None, map, take, drop}
use Rattle.std.proofs.Common.{refl, sym, ap}
use Rattle.std.specs.Prelude.{option_map}
use Rattle.std.specs.List.{AllByRecursion, filter_map, cons_option}
use Rattle.std.specs.Option.{option_or, unwrap_or}
use Rattle.std.specs.BTreeMap.{is_at}
use Rattle.std.proofs.Math.Seq.{take-append_seam}
use Rattle.std.proofs.lemmas.List.{append_assoc, length-append, map-append, take-append-drop}
use Rattle.std.proofs.lemmas.List.Elements.{filter_map-append}
use Rattle.dh_periods.proofs.TextLemmas.{map-some}
use Rattle.dh_changes.specs.declared.change.Write.{Write}
use Rattle.dh_changes.specs.declared.change.Write.TheVariants as write
use Rattle.dh_changes.specs.declared.keys.ValueKey.{ValueKey}
use Rattle.dh_changes.specs.Keys.{same_value_key}
use Rattle.dh_changes.proofs.KeyLemmas.{same_value_key-Decides}
use Rattle.dh_metadata.specs.declared.held.Records.{Records}
use Rattle.dh_changes.specs.Facts.{Facts, facts_in}
use Rattle.dh_changes.specs.Said.{said_by, last_said, of_value}
use Rattle.table_rows.specs.declared.row.Row.{Row}
use Rattle.table_rows.specs.Rows.{key_of}
use Rattle.table_rows.specs.Order.{key_cmp}
use Rattle.table_build.specs.declared.values.ValueObjects.{ValueObjects}
use Rattle.table_build.specs.Log.{values_named}
use Rattle.table_build.specs.Ordered.{in_order}
use Rattle.table_build.specs.Values as values
use Rattle.table_build.proofs.KeyLemmas.{StandsTree, given-in}
use Rattle.table_build.proofs.MemberLemmas.{IsIn}
use Rattle.table_build.proofs.PlaceLemmas.{equal-from}
use Rattle.table_latest.specs.declared.places.RowPlace.{RowPlace}
use Rattle.table_latest.specs.Keys.{place_cmp, place_of}
use Rattle.latest_build.specs.Held.{Held, place_in, held_with, held_at, places_held, rows_held}
use Rattle.latest_build.specs.Places.{value_at, value_place, value_places}
use Rattle.latest_build.specs.Told.{held_as, held_told, held_by_write}
use Rattle.latest_build.proofs.CoverLemmas.{one-place}
use Rattle.latest_build.proofs.HeldLemmas.{IsOwn, last, last-some, own-row, places-are, places-of, rows-list}
use Rattle.latest_build.proofs.KeptLemmas.{last-append, value-same}
use Rattle.latest_build.proofs.ListLemmas.{in-given-all}

in-front : {A : Type 0} (a : A) (xs ys : List A) → IsIn a xs → IsIn a (xs ++ ys)
in-front a [] ys none = absurd none
in-front a (x ∷ xs) ys (inl same) = inl same
in-front a (x ∷ xs) ys (inr more) = inr (in-front a xs ys more)

all-append : {A : Type 0} (P : A → Type 0) (xs ys : List A) → AllByRecursion P xs → AllByRecursion P ys → AllByRecursion P (xs ++ ys)
all-append P [] ys first more = more
all-append P (x ∷ xs) ys first more = (first.0, all-append P xs ys first.1 more)

-- a key has what is left by the text that it holds
pub told-holds : (r : Records) (facts : Facts) (key : ValueKey) (text : Option (List ℕ)) → text ≡ facts.value key → held_told r facts key text ≡ held_at r facts key
unfolding held_told held_as held_at held_with
told-holds r facts key text is = ap (held_told r facts key) is

-- ---- what a log holds of the key that its last write of it names

was-told : (base : List Write) (key : ValueKey) (w : Write) (text : Option (List ℕ)) → of_value key (said_by w) ≡ Some text
    → (facts_in (base ++ w ∷ [])).value key ≡ text
unfolding facts_in
was-told base key w text is =
    ap (λ o. unwrap_or o None) (ap (last_said (of_value key)) (map-append said_by base (w ∷ []))
    ∙ last-append (of_value key) (map said_by base) (said_by w ∷ []) ∙ ap (λ o. option_or (option_or None o) (last_said (of_value key) (map said_by base))) is)

told-last : (base ws : List Write) (key : ValueKey) (w : Write) (text : Option (List ℕ)) → of_value key (said_by w) ≡ Some text
    → (IsIn key (values_named ws) → ⊥) → (facts_in (base ++ w ∷ ws)).value key ≡ text
told-last base ws key w text is out =
    ap (λ l. (facts_in l).value key) (sym (append_assoc base (w ∷ []) ws)) ∙ value-same (base ++ w ∷ []) ws key out ∙ was-told base key w text is

same-said : (key : ValueKey) (text : Option (List ℕ)) → cond (same_value_key key key) (Some text) None ≡ Some text
same-said key text = ap (λ b. cond b (Some text) None) ((same_value_key-Decides key key).1 refl)

module _ (r : Records) (facts : Facts) where
  abbrev at : ValueKey → Option Held
  at = held_at r facts

  abbrev by : Write → Option Held
  by = held_by_write r facts

  -- ---- the places

  place-told : (key : ValueKey) (text : Option (List ℕ)) (hs : List Held) (ps : List RowPlace) → map place_in hs ≡ ps
      → map place_in (cons_option (held_told r facts key text) hs) ≡ cons_option (value_place r facts key) ps
  unfolding held_told held_as value_place
  place-told key text hs ps rest = by_objects (values.objects_of r key)
    where
      by_objects : (o : Option ValueObjects)
          → map place_in (cons_option (option_map (held_as r facts key text) o) hs) ≡ cons_option (option_map (value_at r facts key) o) ps
      by_objects None = rest
      by_objects (Some o) = ap (λ l. value_at r facts key o ∷ l) rest

  places-told : (ws : List Write) → map place_in (filter_map by ws) ≡ filter_map (value_place r facts) (values_named ws)
  unfolding held_by_write
  places-told [] = refl
  places-told (write.ValueSet key text ∷ ws) =
      place-told key (Some text) (filter_map by ws) (filter_map (value_place r facts) (values_named ws)) (places-told ws)
  places-told (write.ValueCleared key ∷ ws) =
      place-told key None (filter_map by ws) (filter_map (value_place r facts) (values_named ws)) (places-told ws)
  places-told (write.EventWritten event ∷ ws) = places-told ws
  places-told (write.EventDeleted id ∷ ws) = places-told ws
  places-told (write.EnrollmentWritten enrollment ∷ ws) = places-told ws
  places-told (write.EnrollmentDeleted id ∷ ws) = places-told ws
  places-told (write.EntityWritten entity ∷ ws) = places-told ws
  places-told (write.EntityDeleted id ∷ ws) = places-told ws
  places-told (write.Approve key ∷ ws) = places-told ws
  places-told (write.Unapprove key ∷ ws) = places-told ws
  places-told (write.Accept key ∷ ws) = places-told ws
  places-told (write.Unaccept key ∷ ws) = places-told ws
  places-told (write.Complete key day ∷ ws) = places-told ws
  places-told (write.Uncomplete key ∷ ws) = places-told ws

  -- those that writes name, then others
  abbrev told : List Write → List ValueKey → List Held
  told ws more = filter_map by ws ++ filter_map at more

  places-all : (ws : List Write) (more : List ValueKey) → places_held (told ws more) ≡ value_places r facts (values_named ws ++ more)
  unfolding value_places
  places-all ws more =
      places-are (told ws more)
      ∙ ap (in_order place_cmp (λ p. p)) (map-append place_in (filter_map by ws) (filter_map at more)
      ∙ ap (λ l. l ++ map place_in (filter_map at more)) (places-told ws)
      ∙ ap (λ l. filter_map (value_place r facts) (values_named ws) ++ l) (places-of r facts more)
      ∙ sym (filter_map-append (value_place r facts) (values_named ws) more))

  pub places-list : (ws : List Write) (keys : List ValueKey) (named : ℕ) → take named keys ≡ values_named ws
      → places_held (told ws (drop named keys)) ≡ value_places r facts keys
  places-list ws keys named are =
      places-all ws (drop named keys)
      ∙ ap (λ l. value_places r facts (l ++ drop named keys)) (sym are) ∙ ap (value_places r facts) (take-append-drop named keys)

  -- ---- each row is in its place

  own-told : (key : ValueKey) (text : Option (List ℕ)) (h : Held) → held_told r facts key text ≡ Some h → IsOwn r facts h
  unfolding held_told held_as values.row_with
  own-told key text h e x given =
      let o = map-some (held_as r facts key text) (values.objects_of r key) h e in
      let t = map-some (λ t. values.row_with r facts key t o.0) text x (ap (λ (g : Held). g.row) o.2 ∙ given) in
      ap place_of (sym t.2) ∙ ap place_in o.2

  own-by : (w : Write) (h : Held) → by w ≡ Some h → IsOwn r facts h
  unfolding held_by_write
  own-by (write.ValueSet key text) h e = own-told key (Some text) h e
  own-by (write.ValueCleared key) h e = own-told key None h e
  own-by (write.EventWritten event) h e = absurd (cc)
  own-by (write.EventDeleted id) h e = absurd (cc)
  own-by (write.EnrollmentWritten enrollment) h e = absurd (cc)
  own-by (write.EnrollmentDeleted id) h e = absurd (cc)
  own-by (write.EntityWritten entity) h e = absurd (cc)
  own-by (write.EntityDeleted id) h e = absurd (cc)
  own-by (write.Approve key) h e = absurd (cc)
  own-by (write.Unapprove key) h e = absurd (cc)
  own-by (write.Accept key) h e = absurd (cc)
  own-by (write.Unaccept key) h e = absurd (cc)
  own-by (write.Complete key day) h e = absurd (cc)
  own-by (write.Uncomplete key) h e = absurd (cc)

  own-all : (ws : List Write) (more : List ValueKey) → AllByRecursion (IsOwn r facts) (told ws more)
  own-all ws more =
      all-append (IsOwn r facts) (filter_map by ws) (filter_map at more) (in-given-all by (IsOwn r facts) own-by ws)
      (in-given-all at (IsOwn r facts) (own-row r facts) more)

  -- ---- what is put last

  -- a key that stands among some has something at its place
  some-there : (key : ValueKey) (h : Held) (keys : List ValueKey) (more : List Held) → at key ≡ Some h → IsIn key keys
      → last h.place (filter_map at keys ++ more) ≡ None → ⊥
  some-there key h keys more is there none =
      let found = last-some h (filter_map at keys ++ more) (in-front h (filter_map at keys) more (given-in at key h is keys there)) in
      let both : None ≡ Some found.0 = sym none ∙ found.1 in
      cc

  module _ (key : ValueKey) (text : Option (List ℕ)) (ws : List ValueKey) (puts helds : List Held)
      (held : (IsIn key ws → ⊥) → facts.value key ≡ text) (alike : (q : RowPlace) → last q puts ≡ last q (filter_map at ws ++ helds)) where
    abbrev rest : RowPlace → Option (Option Row)
    rest q = last q (filter_map at ws ++ helds)

    abbrev row-of : Option (List ℕ) → ValueObjects → Option Row
    row-of t o = option_map (λ t. values.row_with r facts key t o) t

    one-step : (o : ValueObjects) (q : RowPlace) → values.objects_of r key ≡ Some o → (l : Option (Option Row)) → rest q ≡ l
        → (b : Bool) → is_at (place_cmp q) (value_at r facts key o) ≡ b
        → option_or l (cond b (Some (row-of text o)) None) ≡ option_or l (cond b (Some (row-of (facts.value key) o)) None)
    unfolding held_at held_with
    one-step o q are (Some v) is b here = refl
    one-step o q are None is false here = refl
    one-step o q are None is true here =
        let own : q ≡ value_at r facts key o = one-place q (value_at r facts key o) (equal-from (place_cmp q (value_at r facts key o)) here) in
        let stands : at key ≡ Some (held_with r facts key o) = ap (option_map (held_with r facts key)) are in
        let out : IsIn key ws → ⊥ =
        λ there. some-there key (held_with r facts key o) ws helds stands there (ap rest (sym own) ∙ is) in
        ap (λ t. Some (row-of t o)) (sym (held out))

    put-step : (q : RowPlace) → last q (cons_option (held_told r facts key text) puts) ≡ last q (cons_option (at key) (filter_map at ws ++ helds))
    unfolding held_told held_as held_at held_with
    put-step q = by_objects (values.objects_of r key) refl
      where
        by_objects : (o : Option ValueObjects) → values.objects_of r key ≡ o
            → last q (cons_option (option_map (held_as r facts key text) o) puts)
            ≡ last q (cons_option (option_map (held_with r facts key) o) (filter_map at ws ++ helds))
        by_objects None are = alike q
        by_objects (Some o) are =
            ap (λ l. option_or l (cond (is_at (place_cmp q) (value_at r facts key o)) (Some (row-of text o)) None)) (alike q)
            ∙ one-step o q are (rest q) refl (is_at (place_cmp q) (value_at r facts key o)) refl

  put-front : (o : Option Held) (xs ys : List Held) → cons_option o xs ++ ys ≡ cons_option o (xs ++ ys)
  put-front None xs ys = refl
  put-front (Some h) xs ys = refl

  abbrev Alike : List Write → List ValueKey → Type 0
  Alike ws more = (q : RowPlace) → last q (told ws more) ≡ last q (filter_map at (values_named ws ++ more))

  value-step : (base ws : List Write) (more : List ValueKey) (w : Write) (key : ValueKey) (text : Option (List ℕ))
      → of_value key (said_by w) ≡ Some text → facts ≡ facts_in (base ++ w ∷ ws) → Alike ws more → (q : RowPlace)
      → last q (cons_option (held_told r facts key text) (filter_map by ws) ++ filter_map at more)
      ≡ last q (cons_option (at key) (filter_map at (values_named ws ++ more)))
  value-step base ws more w key text said held alike q =
      let split = filter_map-append at (values_named ws) more in
      ap (last q) (put-front (held_told r facts key text) (filter_map by ws) (filter_map at more))
      ∙ put-step key text (values_named ws) (told ws more) (filter_map at more)
      (λ out. ap (λ (f : Facts). f.value key) held ∙ told-last base ws key w text said out)
      (λ p. alike p ∙ ap (last p) split) q
      ∙ ap (λ l. last q (cons_option (at key) l)) (sym split)

  alike : (base ws : List Write) (more : List ValueKey) → facts ≡ facts_in (base ++ ws) → Alike ws more
  unfolding held_by_write
  alike base [] more held q = refl
  alike base (w ∷ ws) more held q = by_write w held (alike (base ++ w ∷ []) ws more (held ∙ ap facts_in (sym (append_assoc base (w ∷ []) ws))))
    where
      by_write : (w : Write) → facts ≡ facts_in (base ++ w ∷ ws) → Alike ws more
          → last q (told (w ∷ ws) more) ≡ last q (filter_map at (values_named (w ∷ ws) ++ more))
      by_write (write.ValueSet key text) held rest =
          value-step base ws more (write.ValueSet key text) key (Some text) (same-said key (Some text)) held rest q
      by_write (write.ValueCleared key) held rest =
          value-step base ws more (write.ValueCleared key) key None (same-said key None) held rest q
      by_write (write.EventWritten event) held rest = rest q
      by_write (write.EventDeleted id) held rest = rest q
      by_write (write.EnrollmentWritten enrollment) held rest = rest q
      by_write (write.EnrollmentDeleted id) held rest = rest q
      by_write (write.EntityWritten entity) held rest = rest q
      by_write (write.EntityDeleted id) held rest = rest q
      by_write (write.Approve key) held rest = rest q
      by_write (write.Unapprove key) held rest = rest q
      by_write (write.Accept key) held rest = rest q
      by_write (write.Unaccept key) held rest = rest q
      by_write (write.Complete key day) held rest = rest q
      by_write (write.Uncomplete key) held rest = rest q

  pub rows-told : StandsTree r facts → (base ws : List Write) → facts ≡ facts_in (base ++ ws) → (keys : List ValueKey) (named : ℕ)
      → take named keys ≡ values_named ws
      → in_order key_cmp key_of (rows_held (told ws (drop named keys))) ≡ values.rows_of r facts keys
  rows-told stands base ws held keys named are =
      rows-list r facts stands (values_named ws ++ drop named keys) (told ws (drop named keys)) (own-all ws (drop named keys))
      (alike base ws (drop named keys) held)
      ∙ ap (λ l. values.rows_of r facts (l ++ drop named keys)) (sym are) ∙ ap (values.rows_of r facts) (take-append-drop named keys)

-- ---- keys that begin with those that writes name

module _ {A : Type 0} (xs ys keys : List A) (n : ℕ) (all : keys ≡ xs ++ ys) (count : n ≡ length xs) where
  pub named-within : n ≤ length keys
  named-within =
      let whole = ap length all ∙ length-append xs ys in
      omega (arith, whole, count)

  pub named-first : take n keys ≡ xs
  named-first = ap (λ k. take k keys) count ∙ ap (take (length xs)) all ∙ take-append_seam xs ys
