-- What a log holds beside data values is what those of its changes hold that write something else.
use Rattle.std.proofs.Common.{◌≡◌, ◌∙◌, ℕ, Bool, true, false, cond, ◌||◌, List, [], ◌∷◌, ◌++◌, Option, Some, None, map, refl, sym, ap, subst, ℤ}
use Rattle.std.specs.List.{filter, filter_map, cons_option}
use Rattle.std.specs.Option.{option_or, unwrap_or}
use Rattle.std.proofs.Math.Path.{fun_ext}
use Rattle.std.proofs.lemmas.Bool.{false≢true}
use Rattle.std.proofs.lemmas.List.{map-append}
use Rattle.std.proofs.lemmas.List.Elements.{filter_map-append}
use Rattle.dh_changes.specs.declared.change.Change.{Change}
use Rattle.dh_changes.specs.declared.change.Write.{Write}
use Rattle.dh_changes.specs.declared.change.Write.TheVariants as write
use Rattle.dh_changes.specs.declared.keys.ValueKey.{ValueKey}
use Rattle.dh_changes.specs.declared.keys.RegKey.{RegKey}
use Rattle.dh_metadata.specs.declared.held.Records.{Records}
use Rattle.dh_changes.specs.declared.said.ApprovalState.TheVariants as state
use Rattle.dh_changes.specs.declared.said.Said.{Said}
use Rattle.dh_changes.specs.declared.said.Said.TheVariants as said
use Rattle.dh_changes.specs.Said.{said_by, last_said, of_event, of_enrollment, of_entity, of_approval, of_registration}
use Rattle.dh_changes.specs.Facts.{Facts, facts_in}
use Rattle.dh_records.specs.Access.{tree}
use Rattle.table_rows.specs.declared.row.Row.{Row}
use Rattle.table_rows.specs.declared.event.EventRow.{EventRow}
use Rattle.table_rows.specs.declared.event.RegRow.{RegRow}
use Rattle.table_rows.specs.Store.{Listed}
use Rattle.table_build.specs.declared.events.EventPlace.{EventPlace}
use Rattle.table_build.specs.Listed.{listed_in}
use Rattle.table_build.specs.Log.{writes_of, reg_named, event_named, values_named, regs_named, events_named, is_other, any_other, has_other, with_others}
use Rattle.table_build.specs.Ordered.{in_order}
use Rattle.table_build.specs.Placed.{is_wanted}
use Rattle.table_build.specs.Reading.{IsReadOf}
use Rattle.table_build.specs.Values as values
use Rattle.table_build.specs.Regs as registrations
use Rattle.table_build.specs.Events as tracker
use Rattle.table_build.specs.Years.{years_of}
use Rattle.table_build.proofs.StoreLemmas.{made}

-- what is so of each write of a value is so of each that is no other
by-value : (P : Write → Type 0) → ((key : ValueKey) (text : List ℕ) → P (write.ValueSet key text)) → ((key : ValueKey) → P (write.ValueCleared key))
    → (w : Write) → is_other w ≡ false → P w
by-value P set cleared (write.ValueSet key text) other = set key text
by-value P set cleared (write.ValueCleared key) other = cleared key
by-value P set cleared (write.EventWritten event) other = absurd (false≢true (sym other))
by-value P set cleared (write.EventDeleted id) other = absurd (false≢true (sym other))
by-value P set cleared (write.EnrollmentWritten enrollment) other = absurd (false≢true (sym other))
by-value P set cleared (write.EnrollmentDeleted id) other = absurd (false≢true (sym other))
by-value P set cleared (write.EntityWritten entity) other = absurd (false≢true (sym other))
by-value P set cleared (write.EntityDeleted id) other = absurd (false≢true (sym other))
by-value P set cleared (write.Approve key) other = absurd (false≢true (sym other))
by-value P set cleared (write.Unapprove key) other = absurd (false≢true (sym other))
by-value P set cleared (write.Accept key) other = absurd (false≢true (sym other))
by-value P set cleared (write.Unaccept key) other = absurd (false≢true (sym other))
by-value P set cleared (write.Complete key day) other = absurd (false≢true (sym other))
by-value P set cleared (write.Uncomplete key) other = absurd (false≢true (sym other))

neither : (a b : Bool) → (a || b) ≡ false → (a ≡ false) × (b ≡ false)
neither true b both = absurd (false≢true (sym both))
neither false b both = (refl, both)

-- ---- what is said last

or-nothing : {A : Type 0} (o : Option A) → option_or o None ≡ o
or-nothing None = refl
or-nothing (Some a) = refl

or-assoc : {A : Type 0} (a b c : Option A) → option_or (option_or a b) c ≡ option_or a (option_or b c)
or-assoc (Some a) b c = refl
or-assoc None b c = refl

module _ {A : Type 0} (of : Said → Option A) where
  last-append : (xs ys : List Said) → last_said of (xs ++ ys) ≡ option_or (last_said of ys) (last_said of xs)
  last-append [] ys = sym (or-nothing (last_said of ys))
  last-append (x ∷ xs) ys = ap (λ o. option_or o (of x)) (last-append xs ys) ∙ or-assoc (last_said of ys) (last_said of xs) (of x)

  module _ (none : (w : Write) → is_other w ≡ false → of (said_by w) ≡ None) where
    last-none : (ws : List Write) → any_other ws ≡ false → last_said of (map said_by ws) ≡ None
    last-none [] lacks = refl
    last-none (w ∷ ws) lacks =
        let parts = neither (is_other w) (any_other ws) lacks in
        ap (λ o. option_or o (of (said_by w))) (last-none ws parts.1) ∙ none w parts.0

    last-more : (ws rest : List Write)
        → last_said of (map said_by (ws ++ rest)) ≡ option_or (last_said of (map said_by rest)) (last_said of (map said_by ws))
    last-more ws rest = ap (last_said of) (map-append said_by ws rest) ∙ last-append (map said_by ws) (map said_by rest)

    last-others : (changes : List Change)
        → last_said of (map said_by (writes_of (with_others changes))) ≡ last_said of (map said_by (writes_of changes))
    last-others [] = refl
    last-others (change ∷ more) = by_test (has_other change) refl (last-others more)
      where
        by_test : (b : Bool) → has_other change ≡ b
            → last_said of (map said_by (writes_of (with_others more))) ≡ last_said of (map said_by (writes_of more))
            → last_said of (map said_by (writes_of (cond b (change ∷ with_others more) (with_others more))))
            ≡ last_said of (map said_by (change.writes ++ writes_of more))
        by_test true is rest =
            last-more change.writes (writes_of (with_others more))
            ∙ ap (λ o. option_or o (last_said of (map said_by change.writes))) rest
            ∙ sym (last-more change.writes (writes_of more))
        by_test false lacks rest =
            rest
            ∙ sym (last-more change.writes (writes_of more) ∙ ap (option_or (last_said of (map said_by (writes_of more)))) (last-none change.writes lacks)
            ∙ or-nothing (last_said of (map said_by (writes_of more))))

-- ---- what is named

module _ {K : Type 0} (named : Write → Option K) (none : (w : Write) → is_other w ≡ false → named w ≡ None) where
  named-none : (ws : List Write) → any_other ws ≡ false → filter_map named ws ≡ []
  named-none [] lacks = refl
  named-none (w ∷ ws) lacks =
      let parts = neither (is_other w) (any_other ws) lacks in
      ap (λ o. cons_option o (filter_map named ws)) (none w parts.0) ∙ named-none ws parts.1

  named-others : (changes : List Change) → filter_map named (writes_of (with_others changes)) ≡ filter_map named (writes_of changes)
  named-others [] = refl
  named-others (change ∷ more) = by_test (has_other change) refl (named-others more)
    where
      by_test : (b : Bool) → has_other change ≡ b → filter_map named (writes_of (with_others more)) ≡ filter_map named (writes_of more)
          → filter_map named (writes_of (cond b (change ∷ with_others more) (with_others more))) ≡ filter_map named (change.writes ++ writes_of more)
      by_test true is rest =
          filter_map-append named change.writes (writes_of (with_others more))
          ∙ ap (λ l. filter_map named change.writes ++ l) rest
          ∙ sym (filter_map-append named change.writes (writes_of more))
      by_test false lacks rest =
          rest
          ∙ sym (filter_map-append named change.writes (writes_of more) ∙ ap (λ l. l ++ filter_map named (writes_of more)) (named-none change.writes lacks))

pub regs-others : (changes : List Change) → regs_named (writes_of (with_others changes)) ≡ regs_named (writes_of changes)
regs-others changes = named-others reg_named (λ w. by-value (λ x. reg_named x ≡ None) (λ key text. refl) (λ key. refl) w) changes

pub events-others : (changes : List Change) → events_named (writes_of (with_others changes)) ≡ events_named (writes_of changes)
events-others changes = named-others event_named (λ w. by-value (λ x. event_named x ≡ None) (λ key text. refl) (λ key. refl) w) changes

-- ---- what is held

-- both hold the same, but for values and what hangs on what
pub record Agree (f g : Facts) : Type 0 where
  pub event : f.event ≡ g.event
  pub enrollment : f.enrollment ≡ g.enrollment
  pub entity : f.entity ≡ g.entity
  pub approval : f.approval ≡ g.approval
  pub registration : f.registration ≡ g.registration

nothing-of : {A : Type 0} (of : Said → Option A)
    → ((key : ValueKey) (text : Option (List ℕ)) → of (said.Value key text) ≡ None) → (w : Write) → is_other w ≡ false → of (said_by w) ≡ None
nothing-of of none w = by-value (λ x. of (said_by x) ≡ None) (λ key text. none key (Some text)) (λ key. none key None) w

pub others-agree : (changes : List Change) → Agree (facts_in (writes_of (with_others changes))) (facts_in (writes_of changes))
unfolding facts_in
others-agree changes = record {
  event = fun_ext (λ id. ap (λ o. unwrap_or o None) (last-others (of_event id) (nothing-of (of_event id) (λ key text. refl)) changes));
  enrollment = fun_ext (λ id. ap (λ o. unwrap_or o None) (last-others (of_enrollment id) (nothing-of (of_enrollment id) (λ key text. refl)) changes));
  entity = fun_ext (λ id. ap (λ o. unwrap_or o None) (last-others (of_entity id) (nothing-of (of_entity id) (λ key text. refl)) changes));
  approval = fun_ext (λ key. ap (λ o. unwrap_or o state.None) (last-others (of_approval key) (nothing-of (of_approval key) (λ k text. refl)) changes));
  registration =
      fun_ext (λ key. ap (λ o. unwrap_or o None) (last-others (of_registration key) (nothing-of (of_registration key) (λ k text. refl)) changes));
}

-- ---- the rows of events and registrations are the same

each-same : {A B : Type 0} (f g : A → Option B) → ((a : A) → f a ≡ g a) → (xs : List A) → filter_map f xs ≡ filter_map g xs
each-same f g same [] = refl
each-same f g same (x ∷ xs) = ap (λ o. cons_option o (filter_map f xs)) (same x) ∙ ap (cons_option (g x)) (each-same f g same xs)

module _ (r : Records) (f g : Facts) (same : Agree f g) where
  event-same : (place : EventPlace) → tracker.event_at r f place ≡ tracker.event_at r g place
  unfolding tracker.event_at tracker.event_with tracker.enrollment_of tracker.entity_of tree
  event-same place =
      ap (λ e. tracker.event_at r (record g { event = e; enrollment = f.enrollment; entity = f.entity }) place) same.event
      ∙ ap (λ e. tracker.event_at r (record g { enrollment = e; entity = f.entity }) place) same.enrollment
      ∙ ap (λ e. tracker.event_at r (record g { entity = e }) place) same.entity

  place-same : (id : List ℕ) → tracker.place_of f id ≡ tracker.place_of g id
  unfolding tracker.place_of
  place-same id = ap (λ e. tracker.place_of (record g { event = e }) id) same.event

  pub rows-at-same : (places : List EventPlace) → filter_map (tracker.event_at r f) places ≡ filter_map (tracker.event_at r g) places
  rows-at-same places = each-same (tracker.event_at r f) (tracker.event_at r g) event-same places

  pub places-same : (ids : List (List ℕ)) → tracker.places_of f ids ≡ tracker.places_of g ids
  unfolding tracker.places_of
  places-same ids = ap (in_order tracker.place_cmp (λ place. place)) (each-same (tracker.place_of f) (tracker.place_of g) place-same ids)

  pub events-same : (ids : List (List ℕ)) → tracker.events_of r f ids ≡ tracker.events_of r g ids
  unfolding tracker.events_of
  events-same ids = ap (filter_map (tracker.event_at r f)) (places-same ids) ∙ rows-at-same (tracker.places_of g ids)

  reg-same : (key : RegKey) → registrations.reg_of r f key ≡ registrations.reg_of r g key
  unfolding registrations.reg_of registrations.reg_with tree
  reg-same key = ap (λ h. registrations.reg_of r (record g { registration = h }) key) same.registration

  pub regs-same : (keys : List RegKey) → registrations.regs_of r f keys ≡ registrations.regs_of r g keys
  unfolding registrations.regs_of
  regs-same keys =
      ap (in_order registrations.place_cmp registrations.place_of) (each-same (registrations.reg_of r f) (registrations.reg_of r g) reg-same keys)

-- ---- the lists that are made of what was read

all-wanted : (keys : List ValueKey) → filter (is_wanted None) keys ≡ keys
all-wanted [] = refl
all-wanted (key ∷ keys) = ap (λ ks. key ∷ ks) (all-wanted keys)

-- lists that are made of what is read of the changes once, seen by other names, and of all values
pub made-of-others : (r : Records) (seen changes : List Change) (known : Facts) (sets seen_sets : List RegKey) (places seen_places : List EventPlace)
    (rows : List Row) (events : List EventRow) (regs : List RegRow) (years : List ℤ) → IsReadOf seen known sets places
    → seen ≡ changes → seen_sets ≡ sets → seen_places ≡ places
    → rows ≡ values.rows_of r (facts_in (writes_of seen)) (filter (is_wanted None) (values_named (writes_of seen)))
    → events ≡ filter_map (tracker.event_at r known) seen_places
    → regs ≡ registrations.regs_of r known seen_sets
    → years ≡ years_of rows regs events
    → ◌≡◌ {A = Listed} (record { rows = rows; events = events; regs = regs; years = years }) (listed_in r (writes_of changes))
unfolding tracker.events_of
made-of-others r seen changes known sets seen_sets places seen_places rows events regs years read same sets_are places_are row event reg year =
    let writes = writes_of seen in
    let agree : Agree known (facts_in writes) = subst (λ f. Agree f (facts_in writes)) (sym read.holds) (others-agree seen) in
    made r writes (facts_in writes) (values_named writes) (events_named writes) (regs_named writes) rows events regs years refl refl
    (row ∙ ap (values.rows_of r (facts_in writes)) (all-wanted (values_named writes))) refl
    (event ∙ ap (filter_map (tracker.event_at r known)) (places_are ∙ read.event_places)
    ∙ events-same r known (facts_in writes) agree (events_named (writes_of (with_others seen)))
    ∙ ap (tracker.events_of r (facts_in writes)) (events-others seen)) refl
    (reg ∙ regs-same r known (facts_in writes) agree seen_sets
    ∙ ap (registrations.regs_of r (facts_in writes)) (sets_are ∙ read.reg_keys ∙ regs-others seen)) year
    ∙ ap (λ cs. listed_in r (writes_of cs)) same
