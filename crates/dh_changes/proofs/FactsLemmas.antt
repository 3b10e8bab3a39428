-- What is held is a function of the writes.
use mathlib.Core.Path.{fun_ext}
use Rattle.std.proofs.Common.{◌≡◌, ◌∙◌, ℕ, true, false, cond, ◌||◌, List, [], ◌∷◌, ◌++◌, Option, Some, None, refl, sym, ap, map}
use Rattle.std.proofs.lemmas.List.{map-append}
use Rattle.std.specs.Option.{unwrap_or, option_or, option_to_list, is_some}
use Rattle.std.specs.List.{list_any}
use Rattle.std.specs.Map.{keys_of}
use Rattle.std.specs.Cmp.Lexicographic.{nat_list_eq_equiv}
use Rattle.dh_changes.specs.declared.change.Write.{Write}
use Rattle.dh_changes.specs.declared.keys.ValueKey.{ValueKey}
use Rattle.dh_changes.specs.declared.keys.ApprovalKey.{ApprovalKey}
use Rattle.dh_changes.specs.declared.keys.RegKey.{RegKey}
use Rattle.dh_changes.specs.declared.said.Said.{Said}
use Rattle.dh_changes.specs.Said.{same_id, said_by, last_said, of_value, of_event, of_enrollment, of_entity, of_approval, of_registration}
use Rattle.dh_changes.specs.Holds.{Held, HoldSame, IsAfter, empty, value_held, event_held, enrollment_held, entity_held, approval_held, registration_held}
use Rattle.dh_changes.specs.declared.said.Said.TheVariants as said
use Rattle.dh_changes.specs.declared.said.ApprovalState.TheVariants as state
use Rattle.dh_changes.specs.Hanging.{event_parent, enrollment_parent}
use Rattle.dh_changes.specs.Facts.{Facts, facts_in, facts_of, all_named, event_named, enrollment_named, value_in, event_in, enrollment_in, entity_in}
use Rattle.dh_changes.specs.Facts.{approval_in, registration_in}
use Rattle.dh_changes.proofs.OrderLemmas.{Covers, hanging-same, covers-entries, covers-named}

-- facts that say the same are the same
pub facts-same : (f g : Facts) → ((key : ValueKey) → f.value key ≡ g.value key) → ((id : List ℕ) → f.event id ≡ g.event id)
    → ((id : List ℕ) → f.enrollment id ≡ g.enrollment id) → ((id : List ℕ) → f.entity id ≡ g.entity id)
    → ((key : ApprovalKey) → f.approval key ≡ g.approval key) → ((key : RegKey) → f.registration key ≡ g.registration key)
    → ((id : List ℕ) → f.events_of id ≡ g.events_of id) → ((id : List ℕ) → f.enrollments_of id ≡ g.enrollments_of id) → f ≡ g
facts-same f g values events enrollments entities approvals registrations events_of enrollments_of = λ i. record {
  value = fun_ext values i;
  event = fun_ext events i;
  enrollment = fun_ext enrollments i;
  entity = fun_ext entities i;
  approval = fun_ext approvals i;
  registration = fun_ext registrations i;
  events_of = fun_ext events_of i;
  enrollments_of = fun_ext enrollments_of i;
}

covers-events : (held : Held) (parent : List ℕ) → Covers (λ id. event_parent (event_held held id)) parent (keys_of held.events)
covers-events held parent = covers-entries event_parent refl held.events parent

covers-enrollments : (held : Held) (parent : List ℕ) → Covers (λ id. enrollment_parent (enrollment_held held id)) parent (keys_of held.enrollments)
covers-enrollments held parent = covers-entries enrollment_parent refl held.enrollments parent

said-or_not : {A : Type 0} (a : A) (id other : List ℕ) → is_some (cond (same_id other id) (Some a) None) ≡ (same_id id other || false)
said-or_not a id other =
    ap (λ b. is_some (cond b (Some a) None)) (nat_list_eq_equiv.symm other id)
    ∙ elim (same_id id other) as (λ b. is_some (cond b (Some a) None) ≡ (b || false)) [ true ↦ refl | false ↦ refl ]

event-said : (id : List ℕ) (s : Said) → is_some (of_event id s) ≡ list_any (λ other. same_id id other) (option_to_list (event_named s))
event-said id (said.Value key value) = refl
event-said id (said.Event other event) = said-or_not event id other
event-said id (said.Enrollment other enrollment) = refl
event-said id (said.Entity other entity) = refl
event-said id (said.Approval key now) = refl
event-said id (said.Registration key day) = refl

enrollment-said : (id : List ℕ) (s : Said) → is_some (of_enrollment id s) ≡ list_any (λ other. same_id id other) (option_to_list (enrollment_named s))
enrollment-said id (said.Value key value) = refl
enrollment-said id (said.Event other event) = refl
enrollment-said id (said.Enrollment other enrollment) = said-or_not enrollment id other
enrollment-said id (said.Entity other entity) = refl
enrollment-said id (said.Approval key now) = refl
enrollment-said id (said.Registration key day) = refl

covers-written_events : (writes : List Write) (parent : List ℕ)
    → Covers (λ id. event_parent (event_in writes id)) parent (all_named event_named (map said_by writes))
covers-written_events writes parent = covers-named event_parent refl of_event event_named event-said (map said_by writes) parent

covers-written_enrollments : (writes : List Write) (parent : List ℕ)
    → Covers (λ id. enrollment_parent (enrollment_in writes id)) parent (all_named enrollment_named (map said_by writes))
covers-written_enrollments writes parent = covers-named enrollment_parent refl of_enrollment enrollment_named enrollment-said (map said_by writes) parent

pub facts-from_same : (left right : Held) → HoldSame left [] right [] → facts_of left ≡ facts_of right
facts-from_same left right same =
    facts-same (facts_of left) (facts_of right) same.value same.event same.enrollment same.entity same.approval same.registration
    (λ parent. hanging-same (λ id. event_parent (event_held left id)) (λ id. event_parent (event_held right id)) (keys_of left.events) (keys_of right.events)
    parent
    (λ id. ap event_parent (same.event id)) (covers-events left parent) (covers-events right parent))
    (λ parent. hanging-same (λ id. enrollment_parent (enrollment_held left id)) (λ id. enrollment_parent (enrollment_held right id)) (keys_of left.enrollments)
    (keys_of right.enrollments) parent
    (λ id. ap enrollment_parent (same.enrollment id)) (covers-enrollments left parent) (covers-enrollments right parent))

-- entries that hold under each key what the writes say
facts-from_keys : (held : Held) (writes : List Write) → ((key : ValueKey) → value_held held key ≡ value_in writes key)
    → ((id : List ℕ) → event_held held id ≡ event_in writes id)
    → ((id : List ℕ) → enrollment_held held id ≡ enrollment_in writes id) → ((id : List ℕ) → entity_held held id ≡ entity_in writes id)
    → ((key : ApprovalKey) → approval_held held key ≡ approval_in writes key) → ((key : RegKey) → registration_held held key ≡ registration_in writes key)
    → facts_of held ≡ facts_in writes
unfolding facts_in
facts-from_keys held writes values events enrollments entities approvals registrations =
    facts-same (facts_of held) (facts_in writes) values events enrollments entities approvals registrations
    (λ parent. hanging-same (λ id. event_parent (event_held held id)) (λ id. event_parent (event_in writes id)) (keys_of held.events)
    (all_named event_named (map said_by writes)) parent
    (λ id. ap event_parent (events id)) (covers-events held parent) (covers-written_events writes parent))
    (λ parent. hanging-same (λ id. enrollment_parent (enrollment_held held id)) (λ id. enrollment_parent (enrollment_in writes id)) (keys_of held.enrollments)
    (all_named enrollment_named (map said_by writes)) parent
    (λ id. ap enrollment_parent (enrollments id)) (covers-enrollments held parent) (covers-written_enrollments writes parent))

pub facts-from_empty : (held : Held) → HoldSame held [] empty [] → facts_of held ≡ facts_in []
facts-from_empty held same = facts-from_keys held [] same.value same.event same.enrollment same.entity same.approval same.registration

last_said-append : {A : Type 0} (of : Said → Option A) (xs ys : List Said) → last_said of (xs ++ ys) ≡ option_or (last_said of ys) (last_said of xs)
last_said-append of [] ys = elim (last_said of ys) as (λ o. o ≡ option_or o None) [ Some v ↦ refl | None ↦ refl ]
last_said-append of (x ∷ xs) ys =
    ap (λ o. option_or o (of x)) (last_said-append of xs ys)
    ∙ elim (last_said of ys) as (λ o. option_or (option_or o (last_said of xs)) (of x) ≡ option_or o (option_or (last_said of xs) (of x)))
    [ Some v ↦ refl | None ↦ refl ]

unwrap-either : {V : Type 0} (a b : Option V) (d : V) → unwrap_or a (unwrap_or b d) ≡ unwrap_or (option_or a b) d
unwrap-either (Some v) b d = refl
unwrap-either None b d = refl

more_said : {V : Type 0} (of : Said → Option V) (log writes : List Write) (before : V)
    → unwrap_or (last_said of (map said_by writes)) (unwrap_or (last_said of (map said_by log)) before)
    ≡ unwrap_or (last_said of (map said_by (log ++ writes))) before
more_said of log writes before =
    unwrap-either (last_said of (map said_by writes)) (last_said of (map said_by log)) before
    ∙ ap (λ o. unwrap_or o before) (sym (last_said-append of (map said_by log) (map said_by writes)) ∙ sym (ap (last_said of) (map-append said_by log writes)))

-- what a log holds with more writes at its end
pub facts-from_after : (old new : Held) (log writes : List Write) → IsAfter old (map said_by writes) new → facts_of old ≡ facts_in log
    → facts_of new ≡ facts_in (log ++ writes)
unfolding facts_in
facts-from_after old new log writes after was = facts-from_keys new (log ++ writes)
    (λ q. after.value q ∙ ap (λ f. unwrap_or (last_said (of_value q) (map said_by writes)) (f.value q)) was ∙ more_said (of_value q) log writes None)
    (λ q. after.event q ∙ ap (λ f. unwrap_or (last_said (of_event q) (map said_by writes)) (f.event q)) was ∙ more_said (of_event q) log writes None)
    (λ q. after.enrollment q ∙ ap (λ f. unwrap_or (last_said (of_enrollment q) (map said_by writes)) (f.enrollment q)) was
    ∙ more_said (of_enrollment q) log writes None)
    (λ q. after.entity q ∙ ap (λ f. unwrap_or (last_said (of_entity q) (map said_by writes)) (f.entity q)) was ∙ more_said (of_entity q) log writes None)
    (λ q. after.approval q ∙ ap (λ f. unwrap_or (last_said (of_approval q) (map said_by writes)) (f.approval q)) was
    ∙ more_said (of_approval q) log writes state.None)
    (λ q. after.registration q ∙ ap (λ f. unwrap_or (last_said (of_registration q) (map said_by writes)) (f.registration q)) was
    ∙ more_said (of_registration q) log writes None)
