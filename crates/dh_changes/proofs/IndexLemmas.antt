-- An index that takes in what was said of its keys.
use Rattle.std.proofs.Common.{◌≡◌, ◌∙◌, ◌+◌, ◌<◌, ℕ, Bool, true, false, cond, List, [], ◌∷◌, ◌++◌, Option, Some, None, refl, sym, ap, subst, reverse}
use Rattle.std.proofs.Common.{length, take, get_or}
use Rattle.std.proofs.lemmas.List.{reverse-append, take_more}
use Rattle.std.specs.Option.{unwrap_or, is_some, option_or}
use Rattle.std.specs.HashMap.{HashMap, get}
use Rattle.std.specs.Cmp.Lexicographic.{same_text}
use Rattle.dh_changes.specs.declared.said.ApprovalState.TheVariants as state
use Rattle.dh_changes.specs.declared.said.Said.{Said}
use Rattle.dh_changes.specs.declared.said.Said.TheVariants as said
use Rattle.dh_changes.specs.declared.index.Index.{Index}
use Rattle.dh_changes.specs.Said.{same_id, last_said, of_value, of_event, of_enrollment, of_entity, of_approval, of_registration}
use Rattle.dh_changes.specs.Keys.{same_value_key, same_approval_key, same_reg_key}
use Rattle.dh_changes.specs.Maps.{is_noted}
use Rattle.std.specs.Map.{lookup}
use Rattle.dh_changes.specs.Holds.{Held, contents, empty, HoldSame, IsAfter, value_held, entity_held, approval_held, registration_held, event_held, enrollment_held}
use Rattle.dh_changes.specs.Hanging.{event_parent, enrollment_parent}
use Rattle.dh_changes.specs.Index.{is_linked, IsLinked, IsReady, AllReady, Keeps, Puts}

-- ---- one map

-- a key holds what was put there, and each other key what it held
held-put : {K V : Type 0} (same : K → K → Bool) (nothing : V) (old new : K → Option V) (key : K) (value : V)
    → ((q : K) → new q ≡ cond (same key q) (Some value) (old q))
    → (q : K) → unwrap_or (new q) nothing ≡ unwrap_or (cond (same key q) (Some value) None) (unwrap_or (old q) nothing)
held-put same nothing old new key value update q =
    ap (λ o. unwrap_or o nothing) (update q)
    ∙ elim (same key q) as (λ b. unwrap_or (cond b (Some value) (old q)) nothing ≡ unwrap_or (cond b (Some value) None) (unwrap_or (old q) nothing))
    [ true ↦ refl | false ↦ refl ]

-- a key that was there is there
there-put : {K V : Type 0} (same : K → K → Bool) (old new : K → Option V) (key : K) (value : V)
    → ((q : K) → new q ≡ cond (same key q) (Some value) (old q))
    → (q : K) → is_some (old q) ≡ true → is_some (new q) ≡ true
there-put same old new key value update q there =
    ap is_some (update q) ∙ elim (same key q) as (λ b. is_some (cond b (Some value) (old q)) ≡ true) [ true ↦ refl | false ↦ there ]

-- ---- what is ready stays ready

linked-stays : {S : Type 0} (old new : HashMap (List ℕ) (List (List ℕ)) S) → ((p c : List ℕ) → is_noted old p c ≡ true → is_noted new p c ≡ true)
    → (parent : Option (List ℕ)) (child : List ℕ) → is_linked old parent child ≡ true → is_linked new parent child ≡ true
linked-stays old new stays None child linked = linked
linked-stays old new stays (Some parent) child linked = stays parent child linked

pub ready-stays : (old new : Index) → Keeps old new → (s : Said) → IsReady old s → IsReady new s
ready-stays old new keeps (said.Value key value) ready = keeps.values key ready
ready-stays old new keeps (said.Event id event) ready =
    (keeps.events id ready.0, linked-stays old.events_of new.events_of keeps.events_of (event_parent event) id ready.1)
ready-stays old new keeps (said.Enrollment id enrollment) ready =
    (keeps.enrollments id ready.0, linked-stays old.enrollments_of new.enrollments_of keeps.enrollments_of (enrollment_parent enrollment) id ready.1)
ready-stays old new keeps (said.Entity id entity) ready = keeps.entities id ready
ready-stays old new keeps (said.Approval key now) ready = keeps.approvals key ready
ready-stays old new keeps (said.Registration key day) ready = keeps.registrations key ready

pub all_ready-stays : (old new : Index) → Keeps old new → (xs : List Said) → AllReady old xs → AllReady new xs
all_ready-stays old new keeps [] ready = ready
all_ready-stays old new keeps (s ∷ more) ready = (ready-stays old new keeps s ready.0, all_ready-stays old new keeps more ready.1)

pub all_ready-more : (i : Index) (xs : List Said) (s : Said) → AllReady i xs → IsReady i s → AllReady i (xs ++ s ∷ [])
all_ready-more i [] s ready one = (one, ready)
all_ready-more i (x ∷ xs) s ready one = (ready.0, all_ready-more i xs s ready.1 one)

-- ---- what hangs on another stays noted where each key holds what it held

pub linked-same : (old new : Index) → Keeps old new → HoldSame (contents new) [] (contents old) [] → IsLinked old → IsLinked new
linked-same old new keeps same linked = record {
  events = λ id. ap (λ e. is_linked new.events_of (event_parent e) id) (same.event id)
      ∙ linked-stays old.events_of new.events_of keeps.events_of (event_parent (event_held (contents old) id)) id (linked.events id);
  enrollments = λ id. ap (λ e. is_linked new.enrollments_of (enrollment_parent e) id) (same.enrollment id)
      ∙ linked-stays old.enrollments_of new.enrollments_of keeps.enrollments_of (enrollment_parent (enrollment_held (contents old) id)) id
      (linked.enrollments id);
}

-- ---- an index that holds nothing

pub empty-holds : (h : Held) → h.values ≡ [] → h.events ≡ [] → h.enrollments ≡ [] → h.entities ≡ [] → h.approvals ≡ [] → h.registrations ≡ []
    → HoldSame h [] empty []
empty-holds h values events enrollments entities approvals registrations = record {
  value = λ q. ap (λ es. unwrap_or (lookup (same_value_key q) es) None) values;
  event = λ q. ap (λ es. unwrap_or (lookup (same_id q) es) None) events;
  enrollment = λ q. ap (λ es. unwrap_or (lookup (same_id q) es) None) enrollments;
  entity = λ q. ap (λ es. unwrap_or (lookup (same_id q) es) None) entities;
  approval = λ q. ap (λ es. unwrap_or (lookup (same_approval_key q) es) state.None) approvals;
  registration = λ q. ap (λ es. unwrap_or (lookup (same_reg_key q) es) None) registrations;
}

pub empty-linked : (i : Index) → HoldSame (contents i) [] empty [] → IsLinked i
empty-linked i nothing = record {
  events = λ id. ap (λ e. is_linked i.events_of (event_parent e) id) (nothing.event id);
  enrollments = λ id. ap (λ e. is_linked i.enrollments_of (enrollment_parent e) id) (nothing.enrollment id);
}

-- ---- one thing is put

pub after-put : (old : Index) (s : Said) (new : Index) → Puts old s new → IsAfter (contents old) (s ∷ []) (contents new)
after-put old (said.Value key value) new puts = subst (λ i. IsAfter (contents old) (said.Value key value ∷ []) (contents i)) (sym puts.1) (record {
  value = held-put same_value_key None (get same_value_key old.values) (get same_value_key new.values) key value puts.0.0;
  event = λ q. refl;
  enrollment = λ q. refl;
  entity = λ q. refl;
  approval = λ q. refl;
  registration = λ q. refl;
})
after-put old (said.Event id event) new puts = subst (λ i. IsAfter (contents old) (said.Event id event ∷ []) (contents i)) (sym puts.1) (record {
  value = λ q. refl;
  event = held-put same_id None (get same_id old.events) (get same_id new.events) id event puts.0.0;
  enrollment = λ q. refl;
  entity = λ q. refl;
  approval = λ q. refl;
  registration = λ q. refl;
})
after-put old (said.Enrollment id enrollment) new puts =
    subst (λ i. IsAfter (contents old) (said.Enrollment id enrollment ∷ []) (contents i)) (sym puts.1) (record {
      value = λ q. refl;
      event = λ q. refl;
      enrollment = held-put same_id None (get same_id old.enrollments) (get same_id new.enrollments) id enrollment puts.0.0;
      entity = λ q. refl;
      approval = λ q. refl;
      registration = λ q. refl;
    })
after-put old (said.Entity id entity) new puts = subst (λ i. IsAfter (contents old) (said.Entity id entity ∷ []) (contents i)) (sym puts.1) (record {
  value = λ q. refl;
  event = λ q. refl;
  enrollment = λ q. refl;
  entity = held-put same_id None (get same_id old.entities) (get same_id new.entities) id entity puts.0.0;
  approval = λ q. refl;
  registration = λ q. refl;
})
after-put old (said.Approval key now) new puts = subst (λ i. IsAfter (contents old) (said.Approval key now ∷ []) (contents i)) (sym puts.1) (record {
  value = λ q. refl;
  event = λ q. refl;
  enrollment = λ q. refl;
  entity = λ q. refl;
  approval = held-put same_approval_key state.None (get same_approval_key old.approvals) (get same_approval_key new.approvals) key now puts.0.0;
  registration = λ q. refl;
})
after-put old (said.Registration key day) new puts = subst (λ i. IsAfter (contents old) (said.Registration key day ∷ []) (contents i)) (sym puts.1) (record {
  value = λ q. refl;
  event = λ q. refl;
  enrollment = λ q. refl;
  entity = λ q. refl;
  approval = λ q. refl;
  registration = held-put same_reg_key None (get same_reg_key old.registrations) (get same_reg_key new.registrations) key day puts.0.0;
})

pub keeps-put : (old : Index) (s : Said) (new : Index) → Puts old s new → Keeps old new
keeps-put old (said.Value key value) new puts = subst (λ i. Keeps old i) (sym puts.1) (record {
  values = there-put same_value_key (get same_value_key old.values) (get same_value_key new.values) key value puts.0.0;
  events = λ q there. there;
  enrollments = λ q there. there;
  entities = λ q there. there;
  approvals = λ q there. there;
  registrations = λ q there. there;
  events_of = λ p q noted. noted;
  enrollments_of = λ p q noted. noted;
})
keeps-put old (said.Event id event) new puts = subst (λ i. Keeps old i) (sym puts.1) (record {
  values = λ q there. there;
  events = there-put same_id (get same_id old.events) (get same_id new.events) id event puts.0.0;
  enrollments = λ q there. there;
  entities = λ q there. there;
  approvals = λ q there. there;
  registrations = λ q there. there;
  events_of = λ p q noted. noted;
  enrollments_of = λ p q noted. noted;
})
keeps-put old (said.Enrollment id enrollment) new puts = subst (λ i. Keeps old i) (sym puts.1) (record {
  values = λ q there. there;
  events = λ q there. there;
  enrollments = there-put same_id (get same_id old.enrollments) (get same_id new.enrollments) id enrollment puts.0.0;
  entities = λ q there. there;
  approvals = λ q there. there;
  registrations = λ q there. there;
  events_of = λ p q noted. noted;
  enrollments_of = λ p q noted. noted;
})
keeps-put old (said.Entity id entity) new puts = subst (λ i. Keeps old i) (sym puts.1) (record {
  values = λ q there. there;
  events = λ q there. there;
  enrollments = λ q there. there;
  entities = there-put same_id (get same_id old.entities) (get same_id new.entities) id entity puts.0.0;
  approvals = λ q there. there;
  registrations = λ q there. there;
  events_of = λ p q noted. noted;
  enrollments_of = λ p q noted. noted;
})
keeps-put old (said.Approval key now) new puts = subst (λ i. Keeps old i) (sym puts.1) (record {
  values = λ q there. there;
  events = λ q there. there;
  enrollments = λ q there. there;
  entities = λ q there. there;
  approvals = there-put same_approval_key (get same_approval_key old.approvals) (get same_approval_key new.approvals) key now puts.0.0;
  registrations = λ q there. there;
  events_of = λ p q noted. noted;
  enrollments_of = λ p q noted. noted;
})
keeps-put old (said.Registration key day) new puts = subst (λ i. Keeps old i) (sym puts.1) (record {
  values = λ q there. there;
  events = λ q there. there;
  enrollments = λ q there. there;
  entities = λ q there. there;
  approvals = λ q there. there;
  registrations = there-put same_reg_key (get same_reg_key old.registrations) (get same_reg_key new.registrations) key day puts.0.0;
  events_of = λ p q noted. noted;
  enrollments_of = λ p q noted. noted;
})

-- what is put was noted under its parent, and all else too
linked-one : {V : Type 0} (links : V → List ℕ → Bool) (old new : List ℕ → V) (id : List ℕ) (value : V)
    → ((q : List ℕ) → new q ≡ unwrap_or (cond (same_id id q) (Some value) None) (old q))
    → links value id ≡ true → ((q : List ℕ) → links (old q) q ≡ true) → (q : List ℕ) → links (new q) q ≡ true
linked-one links old new id value update noted linked q =
    elim (same_id id q) as (λ b. same_id id q ≡ b → links (new q) q ≡ true) [
      | true ↦ λ same.
          let equal : id ≡ q = same_text id q (sym same) in
          ap (λ v. links v q) (update q ∙ ap (λ b. unwrap_or (cond b (Some value) None) (old q)) same) ∙ sym (ap (links value) equal) ∙ noted
      | false ↦ λ apart. ap (λ v. links v q) (update q ∙ ap (λ b. unwrap_or (cond b (Some value) None) (old q)) apart) ∙ linked q
    ] refl

pub linked-put : (old : Index) (s : Said) (new : Index) → Puts old s new → IsReady old s → IsLinked old → IsLinked new
linked-put old (said.Value key value) new puts ready linked = subst IsLinked (sym puts.1) (record { events = linked.events; enrollments = linked.enrollments })
linked-put old (said.Event id event) new puts ready linked = subst IsLinked (sym puts.1) (record {
  events =
      linked-one (λ e q. is_linked old.events_of (event_parent e) q) (event_held (contents old)) (event_held (contents (record old { events = new.events }))) id
      event
      (held-put same_id None (get same_id old.events) (get same_id new.events) id event puts.0.0) ready.1 linked.events;
  enrollments = linked.enrollments;
})
linked-put old (said.Enrollment id enrollment) new puts ready linked = subst IsLinked (sym puts.1) (record {
  events = linked.events;
  enrollments =
      linked-one (λ e q. is_linked old.enrollments_of (enrollment_parent e) q) (enrollment_held (contents old))
      (enrollment_held (contents (record old { enrollments = new.enrollments }))) id enrollment
      (held-put same_id None (get same_id old.enrollments) (get same_id new.enrollments) id enrollment puts.0.0) ready.1 linked.enrollments;
})
linked-put old (said.Entity id entity) new puts ready linked = subst IsLinked (sym puts.1) (record { events = linked.events; enrollments = linked.enrollments })
linked-put old (said.Approval key now) new puts ready linked = subst IsLinked (sym puts.1) (record { events = linked.events; enrollments = linked.enrollments })
linked-put old (said.Registration key day) new puts ready linked =
    subst IsLinked (sym puts.1) (record { events = linked.events; enrollments = linked.enrollments })

-- ---- one thing less is to be said

step : {V : Type 0} (rest one : Option V) (before after : V) (last : V) → after ≡ unwrap_or one before → unwrap_or (option_or rest one) before ≡ last
    → unwrap_or rest after ≡ last
step (Some v) one before after last put is = is
step None one before after last put is = put ∙ is

pub same-step : (old new : Held) (s : Said) (rest : List Said) (right : Held) (others : List Said)
    → IsAfter old (s ∷ []) new → HoldSame old (s ∷ rest) right others → HoldSame new rest right others
same-step old new s rest right others after same = record {
  value =
      λ q. step (last_said (of_value q) rest) (of_value q s) (value_held old q) (value_held new q)
      (unwrap_or (last_said (of_value q) others) (value_held right q)) (after.value q) (same.value q);
  event =
      λ q. step (last_said (of_event q) rest) (of_event q s) (event_held old q) (event_held new q)
      (unwrap_or (last_said (of_event q) others) (event_held right q)) (after.event q) (same.event q);
  enrollment =
      λ q. step (last_said (of_enrollment q) rest) (of_enrollment q s) (enrollment_held old q) (enrollment_held new q)
      (unwrap_or (last_said (of_enrollment q) others) (enrollment_held right q)) (after.enrollment q) (same.enrollment q);
  entity =
      λ q. step (last_said (of_entity q) rest) (of_entity q s) (entity_held old q) (entity_held new q)
      (unwrap_or (last_said (of_entity q) others) (entity_held right q)) (after.entity q) (same.entity q);
  approval =
      λ q. step (last_said (of_approval q) rest) (of_approval q s) (approval_held old q) (approval_held new q)
      (unwrap_or (last_said (of_approval q) others) (approval_held right q)) (after.approval q) (same.approval q);
  registration =
      λ q. step (last_said (of_registration q) rest) (of_registration q s) (registration_held old q) (registration_held new q)
      (unwrap_or (last_said (of_registration q) others) (registration_held right q)) (after.registration q) (same.registration q);
}

pub same-through : (a : Held) (xs : List Said) (b : Held) (ys : List Said) (c : Held) (zs : List Said) → HoldSame a xs b ys → HoldSame b ys c zs
    → HoldSame a xs c zs
same-through a xs b ys c zs one two = record {
  value = λ q. one.value q ∙ two.value q;
  event = λ q. one.event q ∙ two.event q;
  enrollment = λ q. one.enrollment q ∙ two.enrollment q;
  entity = λ q. one.entity q ∙ two.entity q;
  approval = λ q. one.approval q ∙ two.approval q;
  registration = λ q. one.registration q ∙ two.registration q;
}

-- ---- one more of what waits is made ready

pub ready-more : (start old new : Index) (xs : List Said) (i : ℕ) (s : Said) → i < length xs → s ≡ get_or xs i s
    → HoldSame (contents new) [] (contents old) [] → Keeps old new → IsReady new s
    → HoldSame (contents old) [] (contents start) [] → IsLinked old → AllReady old (take i xs)
    → HoldSame (contents new) [] (contents start) [] × IsLinked new × AllReady new (take (i + 1) xs)
ready-more start old new xs i s within at same keeps ready held linked all = (
  same-through (contents new) [] (contents old) [] (contents start) [] same held,
  linked-same old new keeps same linked,
  subst (AllReady new) (ap (λ x. take i xs ++ x ∷ []) at ∙ sym (take_more xs i s within))
      (all_ready-more new (take i xs) s (all_ready-stays old new keeps (take i xs) all) ready),
)

-- ---- the last of what waits, which stands first once the list is turned

pub popped : (waiting rest : List Said) (s : Said) → waiting ≡ rest ++ s ∷ [] → reverse waiting ≡ s ∷ reverse rest
popped waiting rest s is = ap reverse is ∙ reverse-append rest (s ∷ [])

-- what a turn of the loop keeps
pub turn : (old : Index) (waiting rest : List Said) (s : Said) (new : Index) (right : Held) (others : List Said) → waiting ≡ rest ++ s ∷ [] → Puts old s new
    → HoldSame (contents old) (reverse waiting) right others → IsLinked old → AllReady old (reverse waiting)
    → HoldSame (contents new) (reverse rest) right others × IsLinked new × AllReady new (reverse rest)
turn old waiting rest s new right others is puts same linked ready =
    let first : reverse waiting ≡ s ∷ reverse rest = popped waiting rest s is in
    let all : AllReady old (s ∷ reverse rest) = subst (AllReady old) first ready in (
      same-step (contents old) (contents new) s (reverse rest) right others (after-put old s new puts)
          (subst (λ xs. HoldSame (contents old) xs right others) first same),
      linked-put old s new puts all.0 linked,
      all_ready-stays old new (keeps-put old s new puts) (reverse rest) all.1,
    )

pub ready-first : (old : Index) (waiting rest : List Said) (s : Said) → waiting ≡ rest ++ s ∷ [] → AllReady old (reverse waiting) → IsReady old s
ready-first old waiting rest s is ready = (subst (AllReady old) (popped waiting rest s is) ready).0
