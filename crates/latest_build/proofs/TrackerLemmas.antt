-- Writes of events, enrollments and entities move the events that they touch alone.
use Rattle.std.proofs.Common.{◌≡◌, ◌∙◌, ℕ, ◌+◌, ◌<◌, Bool, true, false, cond, ◌||◌, List, []}
use Rattle.std.proofs.Common.{◌∷◌, ◌++◌, inl, inr, Option, Some, None, length, map, drop, get_or, refl, sym, ap}
use Rattle.std.proofs.Common.{subst, append_assoc, add-one, drop-cons}
use Rattle.std.specs.Cmp.Lexicographic.{same_text, slice_cmp, nat_list_eq_equiv}
use Rattle.std.specs.List.{filter, list_any}
use Rattle.std.specs.Option.{unwrap_or, option_or, option_to_list}
use Rattle.std.specs.Ordering.{nat_cmp}
use Rattle.std.proofs.lemmas.Bool.{false≢true}
use Rattle.dh_changes.specs.declared.change.Change.{Change}
use Rattle.dh_changes.specs.declared.change.Write.{Write}
use Rattle.dh_changes.specs.declared.change.Write.TheVariants as write
use Rattle.dh_changes.specs.declared.tracker.Event.{Event}
use Rattle.dh_changes.specs.declared.tracker.Enrollment.{Enrollment}
use Rattle.dh_changes.specs.declared.said.Said.{Said}
use Rattle.dh_changes.specs.declared.said.Said.TheVariants as said
use Rattle.dh_changes.specs.Hanging.{hangs_on, hanging, event_parent, enrollment_parent}
use Rattle.dh_changes.specs.Hanging as index
use Rattle.dh_changes.specs.Said.{same_id, said_by, last_said, of_enrollment, of_entity, of_event}
use Rattle.dh_changes.specs.Facts.{Facts, facts_in, all_named, event_in, enrollment_in}
use Rattle.dh_changes.specs.Facts as log
use Rattle.dh_changes.proofs.OrderLemmas.{in_order-is}
use Rattle.table_rows.specs.Cells.{gathered}
use Rattle.table_build.specs.Log.{event_named, writes_of}
use Rattle.table_build.specs.Ordered.{in_order}
use Rattle.table_build.proofs.EachLemmas.{every}
use Rattle.table_build.proofs.MemberLemmas.{IsIn, in_order-from, in_order-has}
use Rattle.table_build.proofs.OrderedLemmas.{in_order-sorted}
use Rattle.table_latest.proofs.SearchLemmas.{id_total}
use Rattle.latest_build.specs.Touches.{events_by, events_touched, events_under}
use Rattle.latest_build.proofs.CoverLemmas.{one-id}
use Rattle.latest_build.proofs.ListLemmas.{to-filter}

-- ---- gathered lists

pub gathered-append : {A B : Type 0} (f : A → List B) (xs ys : List A) → gathered f (xs ++ ys) ≡ gathered f xs ++ gathered f ys
gathered-append f [] ys = refl
gathered-append f (x ∷ xs) ys = ap (λ v. f x ++ v) (gathered-append f xs ys) ∙ sym (append_assoc (f x) (gathered f xs) (gathered f ys))

pub gather-step : {A B : Type 0} (f : A → List B) (xs : List A) (i : ℕ) (x : A) (all old new : List B) → i < length xs → x ≡ get_or xs i x
    → all ≡ old ++ gathered f (drop i xs) → new ≡ old ++ f x → all ≡ new ++ gathered f (drop (i + 1) xs)
gather-step f xs i x all old new within at so_far is =
    let here : drop i xs ≡ get_or xs i x ∷ drop (i + 1) xs = rw add-one (drop-cons xs i x within) in
    so_far ∙ ap (λ l. old ++ gathered f l) (here ∙ ap (λ y. y ∷ drop (i + 1) xs) (sym at))
    ∙ sym (append_assoc old (f x) (gathered f (drop (i + 1) xs))) ∙ ap (λ v. v ++ gathered f (drop (i + 1) xs)) (sym is)

pub gather-change : {A B : Type 0} (of : A → Change) (f : Write → List B) (changes : List A) (i : ℕ) (a : A) (change : Change) (all old new : List B)
    → i < length changes → a ≡ get_or changes i a → change ≡ of a → all ≡ old ++ gathered f (writes_of (map of (drop i changes)))
    → new ≡ old ++ gathered f change.writes → all ≡ new ++ gathered f (writes_of (map of (drop (i + 1) changes)))
gather-change of f changes i a change all old new within at seen so_far is =
    let here : drop i changes ≡ get_or changes i a ∷ drop (i + 1) changes = rw add-one (drop-cons changes i a within) in
    so_far ∙ ap (λ l. old ++ gathered f (writes_of (map of l))) (here ∙ ap (λ y. y ∷ drop (i + 1) changes) (sym at))
    ∙ ap (λ (x : Change). old ++ gathered f (x.writes ++ writes_of (map of (drop (i + 1) changes)))) (sym seen)
    ∙ ap (λ v. old ++ v) (gathered-append f change.writes (writes_of (map of (drop (i + 1) changes))))
    ∙ sym (append_assoc old (gathered f change.writes) (gathered f (writes_of (map of (drop (i + 1) changes)))))
    ∙ ap (λ v. v ++ gathered f (writes_of (map of (drop (i + 1) changes)))) (sym is)

pub in-left : {A : Type 0} (x : A) (xs ys : List A) → IsIn x xs → IsIn x (xs ++ ys)
in-left x [] ys none = absurd none
in-left x (z ∷ zs) ys (inl e) = inl e
in-left x (z ∷ zs) ys (inr more) = inr (in-left x zs ys more)

pub in-right : {A : Type 0} (x : A) (xs ys : List A) → IsIn x ys → IsIn x (xs ++ ys)
in-right x [] ys there = there
in-right x (z ∷ zs) ys there = inr (in-right x zs ys there)

pub in-gathered : {A B : Type 0} (f : A → List B) (a : A) (b : B) (xs : List A) → IsIn a xs → IsIn b (f a) → IsIn b (gathered f xs)
in-gathered f a b [] none there = absurd none
in-gathered f a b (x ∷ xs) (inl e) there = in-left b (f x) (gathered f xs) (subst (λ (y : _). IsIn b (f y)) e there)
in-gathered f a b (x ∷ xs) (inr more) there = in-right b (f x) (gathered f xs) (in-gathered f a b xs more there)

-- ---- identifiers that hang on one

same-self : (id : List ℕ) → same_id id id ≡ true
same-self id = nat_list_eq_equiv.refl id

any-in : (id : List ℕ) (ids : List (List ℕ)) → IsIn id ids → list_any (λ other. same_id id other) ids ≡ true
any-in id [] none = absurd none
any-in id (x ∷ xs) (inl e) = ap (λ b. b || list_any (λ other. same_id id other) xs) (ap (same_id id) (sym e) ∙ same-self id)
any-in id (x ∷ xs) (inr more) = ap (λ b. same_id id x || b) (any-in id xs more) ∙ or_true (same_id id x)
  where
    or_true : (b : Bool) → (b || true) ≡ true
    or_true true = refl
    or_true false = refl

in-any : (id : List ℕ) (ids : List (List ℕ)) → list_any (λ other. same_id id other) ids ≡ true → IsIn id ids
in-any id [] e = absurd (false≢true e)
in-any id (x ∷ xs) e = by_first (same_id id x) refl e (λ rest. in-any id xs rest)
  where
    by_first : (b : Bool) → same_id id x ≡ b → (b || list_any (λ other. same_id id other) xs) ≡ true
        → (list_any (λ other. same_id id other) xs ≡ true → IsIn id xs) → IsIn id (x ∷ xs)
    by_first true is e rest = inl (same_text id x (sym is))
    by_first false is e rest = inr (rest e)

by_truth : (a b : Bool) → (a ≡ true → b ≡ true) → (b ≡ true → a ≡ true) → a ≡ b
by_truth true b to from = sym (to refl)
by_truth false true to from = from refl
by_truth false false to from = refl

-- the ascending list has each of them
in-ascending : (id : List ℕ) (ids : List (List ℕ)) → IsIn id ids → IsIn id (index.in_order ids)
in-ascending id ids there =
    let own = in_order (slice_cmp nat_cmp) (λ (x : List ℕ). x) ids in
    subst (IsIn id) (in_order-is own ids (in_order-sorted (slice_cmp nat_cmp) (λ (x : List ℕ). x) id_total one-id ids)
    (λ q. by_truth (list_any (λ other. same_id q other) own) (list_any (λ other. same_id q other) ids)
    (λ e. any-in q ids (in_order-from (slice_cmp nat_cmp) (λ (x : List ℕ). x) id_total one-id (λ x. Unit {0}) (λ x y p q same. same) ids q (in-any q own e)))
    (λ e. any-in q own (in_order-has (slice_cmp nat_cmp) (λ (x : List ℕ). x) id_total one-id (λ x. Unit {0}) (λ x y p q same. same) ids q (every ids)
    (in-any q ids e)))))
    (in_order-has (slice_cmp nat_cmp) (λ (x : List ℕ). x) id_total one-id (λ x. Unit {0}) (λ x y p q same. same) ids id (every ids) there)

in-hanging : (parent_of : List ℕ → Option (List ℕ)) (ids : List (List ℕ)) (id parent : List ℕ) → IsIn id ids → parent_of id ≡ Some parent
    → IsIn id (hanging parent_of ids parent)
in-hanging parent_of ids id parent there is =
    in-ascending id (filter (λ other. hangs_on (parent_of other) parent) ids)
    (to-filter (λ other. hangs_on (parent_of other) parent) id ids there (ap (λ o. hangs_on o parent) is ∙ same-self parent))

-- ---- what is said last was said by a write

last-named : {A : Type 0} (of : Said → Option (Option A)) (named : Said → Option (List ℕ)) (id : List ℕ)
    → ((s : Said) (a : A) → of s ≡ Some (Some a) → named s ≡ Some id)
    → (xs : List Said) (a : A) → unwrap_or (last_said of xs) None ≡ Some a → IsIn id (all_named named xs)
last-named of named id one [] a is = absurd (cc)
last-named {A = A} of named id one (s ∷ more) a is = by_rest (last_said of more) refl is (λ a e. last-named of named id one more a e)
  where
    here : (o : Option (Option A)) → of s ≡ o → unwrap_or o None ≡ Some a → IsIn id (option_to_list (named s) ++ all_named named more)
    here (Some held) said_so e =
        let is_named = one s a (said_so ∙ ap Some e) in
        subst (λ o. IsIn id (option_to_list o ++ all_named named more)) (sym is_named) (inl refl)
    here None said_so e = absurd (cc)

    by_rest : (o : Option (Option A)) → last_said of more ≡ o → unwrap_or (option_or o (of s)) None ≡ Some a
        → ((a : A) → unwrap_or (last_said of more) None ≡ Some a → IsIn id (all_named named more))
        → IsIn id (option_to_list (named s) ++ all_named named more)
    by_rest (Some held) last e rest =
        in-right id (option_to_list (named s)) (all_named named more) (rest a (ap (λ o. unwrap_or o None) last ∙ e))
    by_rest None last e rest = here (of s) refl e

passes : {A : Type 0} (b : Bool) (held : Option A) (a : A) → cond b (Some held) None ≡ Some (Some a) → b ≡ true
passes true held a e = refl
passes false held a e = absurd (cc)

event-id : (asked : List ℕ) (s : Said) (a : Event) → of_event asked s ≡ Some (Some a) → log.event_named s ≡ Some asked
event-id asked (said.Value key value) a is = absurd (let e = is in cc)
event-id asked (said.Event id held) a is = ap Some (same_text id asked (sym (passes (same_id id asked) held a is)))
event-id asked (said.Enrollment id held) a is = absurd (let e = is in cc)
event-id asked (said.Entity id held) a is = absurd (let e = is in cc)
event-id asked (said.Approval key held) a is = absurd (let e = is in cc)
event-id asked (said.Registration key day) a is = absurd (let e = is in cc)

enrollment-id : (asked : List ℕ) (s : Said) (a : Enrollment) → of_enrollment asked s ≡ Some (Some a) → log.enrollment_named s ≡ Some asked
enrollment-id asked (said.Value key value) a is = absurd (let e = is in cc)
enrollment-id asked (said.Event id held) a is = absurd (let e = is in cc)
enrollment-id asked (said.Enrollment id held) a is = ap Some (same_text id asked (sym (passes (same_id id asked) held a is)))
enrollment-id asked (said.Entity id held) a is = absurd (let e = is in cc)
enrollment-id asked (said.Approval key held) a is = absurd (let e = is in cc)
enrollment-id asked (said.Registration key day) a is = absurd (let e = is in cc)

-- an event hangs on its enrollment, and an enrollment on its entity

event-hangs : (writes : List Write) (id enrollment : List ℕ) (event : Event) → (facts_in writes).event id ≡ Some event → event.enrollment ≡ Some enrollment
    → IsIn id ((facts_in writes).events_of enrollment)
unfolding facts_in
event-hangs writes id enrollment event is on =
    in-hanging (λ id. event_parent (event_in writes id)) (all_named log.event_named (map said_by writes)) id enrollment
    (last-named (of_event id) log.event_named id (event-id id) (map said_by writes) event is) (ap event_parent is ∙ on)

enrollment-hangs : (writes : List Write) (id : List ℕ) (enrollment : Enrollment) → (facts_in writes).enrollment id ≡ Some enrollment
    → IsIn id ((facts_in writes).enrollments_of enrollment.entity)
unfolding facts_in
enrollment-hangs writes id enrollment is =
    in-hanging (λ id. enrollment_parent (enrollment_in writes id)) (all_named log.enrollment_named (map said_by writes)) id enrollment.entity
    (last-named (of_enrollment id) log.enrollment_named id (enrollment-id id) (map said_by writes) enrollment is) (ap enrollment_parent is)

inside : {A : Type 0} (x y : A) → Some x ≡ Some y → x ≡ y
inside x y e = ap (λ o. unwrap_or o x) e

not-same : {A : Type 0} (b : Bool) (held : A) → (b ≡ true → ⊥) → cond b (Some held) None ≡ None
not-same true held out = absurd (out refl)
not-same false held out = refl

-- a write that names an event touches it
pub named-touched : (facts : Facts) (id asked : List ℕ) (w : Write) → event_named w ≡ Some asked → IsIn asked (events_by facts w)
named-touched facts id asked (write.ValueSet key value) is = absurd (let e = is in cc)
named-touched facts id asked (write.ValueCleared key) is = absurd (let e = is in cc)
named-touched facts id asked (write.EventWritten event) is = inl (sym (inside event.id asked is))
named-touched facts id asked (write.EventDeleted id_of) is = inl (sym (inside id_of asked is))
named-touched facts id asked (write.EnrollmentWritten enrollment) is = absurd (let e = is in cc)
named-touched facts id asked (write.EnrollmentDeleted other) is = absurd (let e = is in cc)
named-touched facts id asked (write.EntityWritten entity) is = absurd (let e = is in cc)
named-touched facts id asked (write.EntityDeleted other) is = absurd (let e = is in cc)
named-touched facts id asked (write.Approve key) is = absurd (let e = is in cc)
named-touched facts id asked (write.Unapprove key) is = absurd (let e = is in cc)
named-touched facts id asked (write.Accept key) is = absurd (let e = is in cc)
named-touched facts id asked (write.Unaccept key) is = absurd (let e = is in cc)
named-touched facts id asked (write.Complete key day) is = absurd (let e = is in cc)
named-touched facts id asked (write.Uncomplete key) is = absurd (let e = is in cc)

-- a write that doesn't touch an event names neither its enrollment nor the entity of that

pub enrollment-unnamed : (facts : Facts) (id asked : List ℕ) (w : Write) → (IsIn id (events_by facts w) → ⊥) → IsIn id (facts.events_of asked)
    → of_enrollment asked (said_by w) ≡ None
enrollment-unnamed facts id asked (write.ValueSet key value) out there = refl
enrollment-unnamed facts id asked (write.ValueCleared key) out there = refl
enrollment-unnamed facts id asked (write.EventWritten event) out there = refl
enrollment-unnamed facts id asked (write.EventDeleted other) out there = refl
enrollment-unnamed facts id asked (write.EnrollmentWritten enrollment) out there = not-same (same_id enrollment.id asked) (Some enrollment) (λ e. out
    (subst (λ other. IsIn id (facts.events_of other)) (sym (same_text enrollment.id asked (sym e))) there))
enrollment-unnamed facts id asked (write.EnrollmentDeleted other) out there = not-same (same_id other asked) None (λ e. out (subst (λ who. IsIn id
    (facts.events_of who)) (sym (same_text other asked (sym e))) there))
enrollment-unnamed facts id asked (write.EntityWritten entity) out there = refl
enrollment-unnamed facts id asked (write.EntityDeleted other) out there = refl
enrollment-unnamed facts id asked (write.Approve key) out there = refl
enrollment-unnamed facts id asked (write.Unapprove key) out there = refl
enrollment-unnamed facts id asked (write.Accept key) out there = refl
enrollment-unnamed facts id asked (write.Unaccept key) out there = refl
enrollment-unnamed facts id asked (write.Complete key day) out there = refl
enrollment-unnamed facts id asked (write.Uncomplete key) out there = refl

pub entity-unnamed : (facts : Facts) (id asked : List ℕ) (w : Write) → (IsIn id (events_by facts w) → ⊥) → IsIn id (events_under facts asked)
    → of_entity asked (said_by w) ≡ None
entity-unnamed facts id asked (write.ValueSet key value) out there = refl
entity-unnamed facts id asked (write.ValueCleared key) out there = refl
entity-unnamed facts id asked (write.EventWritten event) out there = refl
entity-unnamed facts id asked (write.EventDeleted other) out there = refl
entity-unnamed facts id asked (write.EnrollmentWritten enrollment) out there = refl
entity-unnamed facts id asked (write.EnrollmentDeleted other) out there = refl
entity-unnamed facts id asked (write.EntityWritten entity) out there = not-same (same_id entity.id asked) (Some entity) (λ e. out (subst (λ other. IsIn id
    (events_under facts other)) (sym (same_text entity.id asked (sym e))) there))
entity-unnamed facts id asked (write.EntityDeleted other) out there = not-same (same_id other asked) None (λ e. out (subst (λ who. IsIn id
    (events_under facts who)) (sym (same_text other asked (sym e))) there))
entity-unnamed facts id asked (write.Approve key) out there = refl
entity-unnamed facts id asked (write.Unapprove key) out there = refl
entity-unnamed facts id asked (write.Accept key) out there = refl
entity-unnamed facts id asked (write.Unaccept key) out there = refl
entity-unnamed facts id asked (write.Complete key day) out there = refl
entity-unnamed facts id asked (write.Uncomplete key) out there = refl

-- where an event hangs

pub under-enrollment : (writes : List Write) (id enrollment : List ℕ) (event : Event) → (facts_in writes).event id ≡ Some event
    → event.enrollment ≡ Some enrollment → IsIn id ((facts_in writes).events_of enrollment)
under-enrollment writes id enrollment event is on = event-hangs writes id enrollment event is on

pub under-entity : (writes : List Write) (id on : List ℕ) (event : Event) (enrollment : Enrollment) → (facts_in writes).event id ≡ Some event
    → event.enrollment ≡ Some on → (facts_in writes).enrollment on ≡ Some enrollment → IsIn id (events_under (facts_in writes) enrollment.entity)
under-entity writes id on event enrollment is hangs found =
    in-gathered (facts_in writes).events_of on id ((facts_in writes).enrollments_of enrollment.entity) (enrollment-hangs writes on enrollment found)
    (event-hangs writes id on event is hangs)

-- an event that isn't touched is touched by no write
pub untouched-by : (facts : Facts) (id : List ℕ) (writes : List Write) → (IsIn id (events_touched facts writes) → ⊥) → (w : Write) → IsIn w writes
    → IsIn id (events_by facts w) → ⊥
untouched-by facts id writes out w there by = out (in-gathered (events_by facts) w id writes there by)
