-- What the notes beside a verdict say of its writes.
use Rattle.std.proofs.Common.{◌≡◌, ◌∙◌, ℕ, Bool, true, false, cond, List, [], ◌∷◌, ◌++◌, ◌||◌, Option, Some, None, refl, sym, ap, map}
use Rattle.std.specs.Option.{unwrap_or, option_or, option_map, option_map_or}
use Rattle.std.specs.HashMap.{HashMap, get}
use Rattle.std.specs.HashSet.{HashSet, contains}
use Rattle.std.proofs.lemmas.List.Folds.{list_any-append}
use Rattle.dh_changes.specs.declared.change.Write.{Write}
use Rattle.dh_changes.specs.declared.tracker.Entity.{Entity}
use Rattle.dh_changes.specs.declared.said.Said.{Said}
use Rattle.dh_changes.specs.Said.{same_id, said_by, last_said, of_event, of_enrollment, of_entity}
use Rattle.tracker_import.specs.declared.names.EnrollmentPlace.{EnrollmentPlace}
use Rattle.tracker_import.specs.declared.places.EventPlace.{EventPlace}
use Rattle.tracker_import.specs.Rules.{is_judged}
use Rattle.tracker_import.specs.Known.{AreSaid, AreSeen, NotesEntity, NotesEnrollment, NotesEvent, whole_entity, enrollment_place, event_place}

-- ---- one write more

-- what is said last with one write more
last-end : {A : Type 0} (of : Said → Option A) (writes : List Write) (w : Write)
    → last_said of (map said_by (writes ++ w ∷ [])) ≡ option_or (of (said_by w)) (last_said of (map said_by writes))
last-end of [] w = elim (of (said_by w)) as (λ o. option_or None o ≡ option_or o None) [ Some a ↦ refl | None ↦ refl ]
last-end of (x ∷ writes) w =
    ap (λ o. option_or o (of (said_by x))) (last-end of writes w)
    ∙ elim (of (said_by w)) as (λ o. option_or (option_or o (last_said of (map said_by writes))) (of (said_by x))
    ≡ option_or o (option_or (last_said of (map said_by writes)) (of (said_by x))))
    [ Some a ↦ refl | None ↦ refl ]

either-mapped : {A B : Type 0} (f : A → B) (a b : Option A) → option_or (option_map f a) (option_map f b) ≡ option_map f (option_or a b)
either-mapped f (Some v) b = refl
either-mapped f None b = refl

more : {A B : Type 0} (f : A → B) (of : Said → Option A) (writes : List Write) (w : Write) (before after : Option B)
    → after ≡ option_or (option_map f (of (said_by w))) before → before ≡ option_map f (last_said of (map said_by writes))
    → after ≡ option_map f (last_said of (map said_by (writes ++ w ∷ [])))
more f of writes w before after noted was =
    noted ∙ ap (λ o. option_or (option_map f (of (said_by w))) o) was ∙ either-mapped f (of (said_by w)) (last_said of (map said_by writes))
    ∙ ap (option_map f) (sym (last-end of writes w))

pub said-more : {S T U : Type 0} (writes longer : List Write) (w : Write)
    (entities new_entities : HashMap (List ℕ) (Option Entity) S)
    (enrollments new_enrollments : HashMap (List ℕ) (Option EnrollmentPlace) T)
    (events new_events : HashMap (List ℕ) (Option EventPlace) U)
    → AreSaid entities enrollments events writes
    → NotesEntity w entities new_entities → NotesEnrollment w enrollments new_enrollments → NotesEvent w events new_events
    → longer ≡ writes ++ w ∷ [] → AreSaid new_entities new_enrollments new_events longer
said-more writes longer w entities new_entities enrollments new_enrollments events new_events was entity enrollment event is = record {
  entities = λ q. more whole_entity (of_entity q) writes w (get same_id entities q) (get same_id new_entities q) (entity q) (was.entities q)
      ∙ ap (λ ws. option_map whole_entity (last_said (of_entity q) (map said_by ws))) (sym is);
  enrollments = λ q. more enrollment_place (of_enrollment q) writes w (get same_id enrollments q) (get same_id new_enrollments q) (enrollment q)
      (was.enrollments q)
      ∙ ap (λ ws. option_map enrollment_place (last_said (of_enrollment q) (map said_by ws))) (sym is);
  events = λ q. more event_place (of_event q) writes w (get same_id events q) (get same_id new_events q) (event q) (was.events q)
      ∙ ap (λ ws. option_map event_place (last_said (of_event q) (map said_by ws))) (sym is);
}

-- ---- what the notes say goes before what the log says

pub held-here : {A B : Type 0} (f : Option A → Option B) (o : Option (Option A)) (log : Option A) (held : Option B)
    → Some held ≡ option_map f o → held ≡ f (unwrap_or o log)
held-here f (Some v) log held is = cc
held-here f None log held is = absurd (cc)

pub held-else : {A B : Type 0} (f : Option A → Option B) (o : Option (Option A)) (log : Option A)
    → None ≡ option_map f o → f log ≡ f (unwrap_or o log)
held-else f (Some v) log is = absurd (cc)
held-else f None log is = refl

-- ---- one object more is judged

turned : (a b : Bool) → cond a true b ≡ (b || (a || false))
turned true true = refl
turned true false = refl
turned false true = refl
turned false false = refl

without : (b : Bool) → b ≡ (b || (false || false))
without true = refl
without false = refl

pub seen-some : {S : Type 0} (judged longer : List (Option (List ℕ))) (id : List ℕ) (old new : HashSet (List ℕ) S)
    → AreSeen old judged → ((q : List ℕ) → contains same_id new q ≡ cond (same_id id q) true (contains same_id old q))
    → longer ≡ judged ++ Some id ∷ [] → AreSeen new longer
seen-some judged longer id old new was update is = λ q.
    update q
    ∙ ap (λ b. cond (same_id id q) true b) (was q)
    ∙ turned (same_id id q) (is_judged judged q)
    ∙ sym (list_any-append (λ other. option_map_or (λ own. same_id own q) other false) judged (Some id ∷ []))
    ∙ ap (λ all. is_judged all q) (sym is)

pub seen-none : {S : Type 0} (judged longer : List (Option (List ℕ))) (seen : HashSet (List ℕ) S)
    → AreSeen seen judged → longer ≡ judged ++ None ∷ [] → AreSeen seen longer
seen-none judged longer seen was is = λ q.
    was q
    ∙ without (is_judged judged q)
    ∙ sym (list_any-append (λ other. option_map_or (λ own. same_id own q) other false) judged (None ∷ []))
    ∙ ap (λ all. is_judged all q) (sym is)
