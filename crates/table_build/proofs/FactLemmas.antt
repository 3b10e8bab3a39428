-- The days that a log holds.
use Rattle.std.proofs.Common.{◌≡◌, ◌∙◌, ℕ, Bool, true, false, cond, ◌&&◌, List, [], ◌∷◌, Option, Some, None, refl, sym, ap, map, ℤ}
use Rattle.std.specs.Option.{unwrap_or, option_or}
use Rattle.std.specs.List.{list_all}
use Rattle.std.proofs.lemmas.Bool.{and_parts}
use Rattle.dh_changes.specs.declared.change.Write.{Write}
use Rattle.dh_changes.specs.declared.change.Write.TheVariants as write
use Rattle.dh_changes.specs.declared.keys.RegKey.{RegKey}
use Rattle.dh_changes.specs.declared.tracker.Event.{Event}
use Rattle.dh_changes.specs.declared.tracker.Enrollment.{Enrollment}
use Rattle.dh_changes.specs.declared.said.Said.{Said}
use Rattle.dh_changes.specs.declared.said.Said.TheVariants as said
use Rattle.dh_changes.specs.Said.{same_id, said_by, last_said, of_event, of_enrollment, of_registration}
use Rattle.dh_changes.specs.Facts.{Facts, facts_in}
use Rattle.dh_changes.specs.Keys.{same_reg_key}
use Rattle.table_rows.specs.Events.{is_day_if_any}
use Rattle.table_build.specs.Log.{is_of_days}
use Rattle.dh_base.specs.Limits.{is_day}

abbrev event_days : Event → Bool
event_days event = is_day_if_any event.occurred && is_day_if_any event.scheduled

abbrev enrollment_days : Enrollment → Bool
enrollment_days enrollment = is_day_if_any enrollment.enrolled && is_day_if_any enrollment.occurred

-- the days of what is said lie in the years
abbrev said_days : Said → Bool
said_days (said.Event id (Some event)) = event_days event
said_days (said.Enrollment id (Some enrollment)) = enrollment_days enrollment
said_days (said.Registration key (Some day)) = is_day day
said_days _ = true

said_by-days : (w : Write) → is_of_days w ≡ said_days (said_by w)
said_by-days (write.ValueSet key value) = refl
said_by-days (write.ValueCleared key) = refl
said_by-days (write.EventWritten event) = refl
said_by-days (write.EventDeleted id) = refl
said_by-days (write.EnrollmentWritten enrollment) = refl
said_by-days (write.EnrollmentDeleted id) = refl
said_by-days (write.EntityWritten entity) = refl
said_by-days (write.EntityDeleted id) = refl
said_by-days (write.Approve key) = refl
said_by-days (write.Unapprove key) = refl
said_by-days (write.Accept key) = refl
said_by-days (write.Unaccept key) = refl
said_by-days (write.Complete key day) = refl
said_by-days (write.Uncomplete key) = refl

all-said : (writes : List Write) → list_all is_of_days writes ≡ list_all said_days (map said_by writes)
all-said [] = refl
all-said (w ∷ ws) = ap (λ b. b && list_all is_of_days ws) (said_by-days w) ∙ ap (λ b. said_days (said_by w) && b) (all-said ws)

-- what the last of a list says passes a test that each passes
last-passes : {A : Type 0} (of : Said → Option (Option A)) (test : A → Bool) → ((s : Said) (a : A) → said_days s ≡ true → of s ≡ Some (Some a) → test a ≡ true)
    → (xs : List Said) → list_all said_days xs ≡ true → (a : A) → unwrap_or (last_said of xs) None ≡ Some a → test a ≡ true
last-passes of test each [] all a is = absurd (cc)
last-passes of test each (s ∷ more) all a is =
    let parts = and_parts (said_days s) (list_all said_days more) all in
    elim (last_said of more) as (λ o. last_said of more ≡ o → unwrap_or (option_or o (of s)) None ≡ Some a → test a ≡ true) [
      | Some v ↦ λ last seen. last-passes of test each more parts.1 a (ap (λ o. unwrap_or o None) last ∙ seen)
      | None ↦ λ last seen.
          elim (of s) as (λ o. of s ≡ o → unwrap_or o None ≡ Some a → test a ≡ true) [
            | Some v ↦ λ own held. each s a parts.0 (own ∙ ap Some held)
            | None ↦ λ own held. absurd (cc)
          ] refl seen
    ] refl is

held-in : {A : Type 0} (b : Bool) (held : Option A) (a : A) → cond b (Some held) None ≡ Some (Some a) → held ≡ Some a
held-in true held a e = cc
held-in false held a e = absurd (cc)

event-said : (id : List ℕ) (s : Said) (event : Event) → said_days s ≡ true → of_event id s ≡ Some (Some event) → event_days event ≡ true
event-said id (said.Value key value) event days is = absurd (cc)
event-said id (said.Event other held) event days is =
    let one = held-in (same_id other id) held event is in
    ap (λ o. said_days (said.Event other o)) (sym one) ∙ days
event-said id (said.Enrollment other held) event days is = absurd (cc)
event-said id (said.Entity other held) event days is = absurd (cc)
event-said id (said.Approval key state) event days is = absurd (cc)
event-said id (said.Registration key day) event days is = absurd (cc)

enrollment-said : (id : List ℕ) (s : Said) (enrollment : Enrollment) → said_days s ≡ true → of_enrollment id s ≡ Some (Some enrollment)
    → enrollment_days enrollment ≡ true
enrollment-said id (said.Value key value) enrollment days is = absurd (cc)
enrollment-said id (said.Event other held) enrollment days is = absurd (cc)
enrollment-said id (said.Enrollment other held) enrollment days is =
    let one = held-in (same_id other id) held enrollment is in
    ap (λ o. said_days (said.Enrollment other o)) (sym one) ∙ days
enrollment-said id (said.Entity other held) enrollment days is = absurd (cc)
enrollment-said id (said.Approval key state) enrollment days is = absurd (cc)
enrollment-said id (said.Registration key day) enrollment days is = absurd (cc)

reg-said : (key : RegKey) (s : Said) (day : ℤ) → said_days s ≡ true → of_registration key s ≡ Some (Some day) → is_day day ≡ true
reg-said key (said.Value other value) day days is = absurd (cc)
reg-said key (said.Event other held) day days is = absurd (cc)
reg-said key (said.Enrollment other held) day days is = absurd (cc)
reg-said key (said.Entity other held) day days is = absurd (cc)
reg-said key (said.Approval other state) day days is = absurd (cc)
reg-said key (said.Registration other held) day days is =
    let one = held-in (same_reg_key other key) held day is in
    ap (λ o. said_days (said.Registration other o)) (sym one) ∙ days

-- the days of events, enrollments and registrations lie in the years
pub record HaveDays (facts : Facts) : Type 0 where
  pub event : (id : List ℕ) (event : Event) → facts.event id ≡ Some event → is_day_if_any event.occurred ≡ true
  pub enrollment : (id : List ℕ) (enrollment : Enrollment) → facts.enrollment id ≡ Some enrollment → is_day_if_any enrollment.enrolled ≡ true
  pub registration : (key : RegKey) (day : ℤ) → facts.registration key ≡ Some day → is_day day ≡ true

pub facts-days : (writes : List Write) → list_all is_of_days writes ≡ true → HaveDays (facts_in writes)
unfolding facts_in
facts-days writes days =
    let all : list_all said_days (map said_by writes) ≡ true = sym (all-said writes) ∙ days in
    record {
      event = λ id event is. (and_parts _ _ (last-passes (of_event id) event_days (event-said id) (map said_by writes) all event is)).0;
      enrollment =
          λ id enrollment is. (and_parts _ _ (last-passes (of_enrollment id) enrollment_days (enrollment-said id) (map said_by writes) all enrollment is)).0;
      registration = λ key day is. last-passes (of_registration key) is_day (reg-said key) (map said_by writes) all day is;
    }
