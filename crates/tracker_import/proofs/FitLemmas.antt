-- What objects come to that are to be written fits the bytes of a change.
use Rattle.std.proofs.Common.{◌≡◌, ℕ, ◌<◌, Bool, true, false, cond, List, [], ◌∷◌, length, Option, Some, None, refl, arith, pos}
use Rattle.std.specs.Prelude.{◌||◌, ◌==◌, bytes_eq}
use Rattle.std.specs.Option.{option_map_or, option_or, is_none, is_some, IfSome}
use Rattle.std.specs.List.{AllByRecursion}
use lib.Chars.{codes}
use Rattle.change_log.specs.Forms.{WriteFits, PairsFit, IsDay, event_statuses, enrollment_statuses}
use Rattle.dh_base.specs.declared.codes.Code.{Code}
use Rattle.dh_changes.specs.declared.change.Write.{Write}
use Rattle.dh_changes.specs.declared.change.Write.TheVariants as write
use Rattle.dh_changes.specs.declared.tracker.Entity.{Entity}
use Rattle.dh_metadata.specs.declared.held.Records.{Records}
use Rattle.dh_metadata.specs.declared.kind.Kind.TheVariants as kind
use Rattle.dh_changes.specs.Facts.{Facts}
use Rattle.dh_changes.specs.declared.outcome.Who.{Who}
use Rattle.dh_changes.specs.declared.outcome.ImportStrategy.{ImportStrategy}
use Rattle.import_forms.specs.declared.pair.Pair.{Pair}
use Rattle.import_forms.specs.declared.entity.BundleEntity.{BundleEntity}
use Rattle.import_forms.specs.declared.enrollment.BundleEnrollment.{BundleEnrollment}
use Rattle.import_forms.specs.declared.event.BundleEvent.{BundleEvent}
use Rattle.value_import.specs.Dates.{dated, day_told}
use Rattle.value_import.specs.Rules.{Condition, first_of}
use Rattle.value_import.proofs.DayLemmas.{told-day}
use Rattle.tracker_import.specs.declared.names.EnrollmentPlace.{EnrollmentPlace}
use Rattle.tracker_import.specs.declared.names.EntityNames.{EntityNames}
use Rattle.tracker_import.specs.declared.names.EnrollmentNames.{EnrollmentNames}
use Rattle.tracker_import.specs.declared.names.EventNames.{EventNames}
use Rattle.tracker_import.specs.declared.pairs.ItemKind.TheVariants as item
use Rattle.tracker_import.specs.declared.judged.Judged.{Judged}
use Rattle.tracker_import.specs.declared.judged.Judged.TheVariants as judged
use Rattle.tracker_import.specs.Pairs.{has_unknown, has_unfit, merged}
use Rattle.tracker_import.specs.Rules.{first_in, right_conditions, standing_conditions, day_in, pending_status_of, event_status_of, enrollment_status_of}
use Rattle.tracker_import.specs.Rules.{status_in, judged_by, put}
use Rattle.tracker_import.specs.Entities.{entity_names, entity_name_conditions, entity_value_conditions, entity_conflict}
use Rattle.tracker_import.specs.Entities.{attributes_of, entity_after, judged_entity}
use Rattle.tracker_import.specs.Enrollments.{enrollment_names, enrollment_name_conditions, entity_conditions, enrollment_form_conditions, attribute_conditions}
use Rattle.tracker_import.specs.Enrollments.{enrollment_conflict, enrollment_after, entity_writes, judged_enrollment}
use Rattle.tracker_import.specs.Events.{event_names, event_name_conditions, enrollment_conditions, event_form_conditions, element_conditions}
use Rattle.tracker_import.specs.Events.{event_conflict, event_after, judged_event}
use Rattle.tracker_import.proofs.ListLemmas.{attributes-fit, values-fit}

-- each write of what an object comes to fits
abbrev pub Fits : Judged → Type 0
Fits (judged.Refused code) = Unit {0}
Fits judged.Nothing = Unit {0}
Fits (judged.Created writes) = AllByRecursion WriteFits writes
Fits (judged.Updated writes) = AllByRecursion WriteFits writes
Fits (judged.Deleted writes) = AllByRecursion WriteFits writes

pub by-judged : (first : Option Code) (j : Judged) → (first ≡ None → Fits j) → Fits (judged_by first j)
by-judged (Some code) j fits = tt
by-judged None j fits = fits refl

put-fits : (live : Bool) (writes : List Write) → AllByRecursion WriteFits writes → Fits (put live writes)
put-fits true writes fit = fit
put-fits false writes fit = fit

-- ---- conditions that don't hold

of-first : (list : List Condition) (more : List (List Condition)) → first_in (list ∷ more) ≡ None → (first_of list ≡ None) × (first_in more ≡ None)
of-first list more none = split (first_of list) (first_in more) none
  where
    split : (a b : Option Code) → option_or a b ≡ None → (a ≡ None) × (b ≡ None)
    split None b is = (refl, is)
    split (Some code) b is = absurd (cc)

of-head : (code : Code) (b : Bool) (rest : Option Code) → cond b (Some code) rest ≡ None → (b ≡ false) × (rest ≡ None)
of-head code true rest none = absurd (cc)
of-head code false rest none = (refl, none)

latter : (a b : Bool) → (a || b) ≡ false → b ≡ false
latter true b is = absurd (cc)
latter false b is = is

-- ---- days and statuses

if-some : {A : Type 0} (P : A → Type 0) (o : Option A) → ((a : A) → o ≡ Some a → P a) → IfSome o P
if-some P None holds = tt
if-some P (Some a) holds = holds a refl

day-fits : (text : Option (List ℕ)) → IfSome (day_in text) IsDay
unfolding day_told
day-fits None = tt
day-fits (Some text) = if-some IsDay (dated text) (λ day is. told-day (pos 0) day (Some text) is)

six : (a b c d e f : Bool)
    → IfSome (cond a (Some 0) (cond b (Some 1) (cond c (Some 2) (cond d (Some 3) (cond e (Some 4) (cond f (Some 5) None)))))) (λ status. status < 6)
six true b c d e f = omega arith
six false true c d e f = omega arith
six false false true d e f = omega arith
six false false false true e f = omega arith
six false false false false true f = omega arith
six false false false false false true = omega arith
six false false false false false false = tt

three : (a b c : Bool) → IfSome (cond a (Some 0) (cond b (Some 1) (cond c (Some 2) None))) (λ status. status < 3)
three true b c = omega arith
three false true c = omega arith
three false false true = omega arith
three false false false = tt

event_status-below : (text : Option (List ℕ)) → IfSome (status_in event_status_of text) (λ status. status < event_statuses)
unfolding event_status_of pending_status_of
event_status-below None = omega arith
event_status-below (Some text) =
    six (bytes_eq text (codes "ACTIVE")) (bytes_eq text (codes "COMPLETED")) (bytes_eq text (codes "VISITED")) (bytes_eq text (codes "SCHEDULE"))
    (bytes_eq text (codes "OVERDUE")) (bytes_eq text (codes "SKIPPED"))

enrollment_status-below : (text : Option (List ℕ)) → IfSome (status_in enrollment_status_of text) (λ status. status < enrollment_statuses)
unfolding enrollment_status_of
enrollment_status-below None = omega arith
enrollment_status-below (Some text) =
    three (bytes_eq text (codes "ACTIVE")) (bytes_eq text (codes "COMPLETED")) (bytes_eq text (codes "CANCELLED"))

-- ---- entities

entity_after-fits : (r : Records) (before : Option Entity) (live : Bool) (id : Option (List ℕ)) (type unit : Option ℕ) (pairs : List Pair)
    → PairsFit (merged r (attributes_of before) pairs)
    → Fits (option_map_or (λ after. put live (write.EntityWritten after ∷ []))
    (entity_after r before (record { id = id; kind = type; unit = unit }) pairs) judged.Nothing)
unfolding entity_after
entity_after-fits r before live None type unit pairs fit = tt
entity_after-fits r before live (Some id) None unit pairs fit = tt
entity_after-fits r before live (Some id) (Some type) None pairs fit = tt
entity_after-fits r before live (Some id) (Some type) (Some unit) pairs fit = put-fits live _ (fit, tt)

entity-checked : (facts : Facts) (r : Records) (who : Who) (chosen : ImportStrategy) (live repeated : Bool) (names : EntityNames) (pairs : List Pair)
    → entity_conflict facts r who chosen live repeated names pairs ≡ None
    → (has_unknown r item.Attribute pairs ≡ false) × (has_unfit r item.Attribute pairs ≡ false)
unfolding entity_conflict entity_name_conditions entity_value_conditions
entity-checked facts r who chosen live repeated names pairs none =
    let standing = standing_conditions chosen live repeated ∷ [] in
    let values = entity_value_conditions r pairs ∷ standing in
    let rights = right_conditions facts r who names.unit kind.TrackedEntityType names.kind in
    let first = of-first (entity_name_conditions r names pairs) (rights ∷ values) none in
    let own = of-head _ (is_none names.id) _ first.0 in
    let named = of-head _ (is_none names.kind || has_unknown r item.Attribute pairs) _ own.1 in
    let second = of-first rights values first.1 in
    let third = of-first (entity_value_conditions r pairs) standing second.1 in
    let typed = of-head _ (has_unfit r item.Attribute pairs) _ third.0 in
    (latter (is_none names.kind) (has_unknown r item.Attribute pairs) named.0, typed.0)

pub entity-fits : (facts : Facts) (r : Records) (who : Who) (chosen : ImportStrategy) (before : Option Entity) (repeated : Bool) (asked : BundleEntity)
    → Fits (judged_entity facts r who chosen before repeated asked)
unfolding judged_entity
entity-fits facts r who chosen before repeated asked =
    let names = entity_names r asked in
    by-judged (entity_conflict facts r who chosen (is_some before) repeated names asked.attributes) _ (λ none.
    let checked = entity-checked facts r who chosen (is_some before) repeated names asked.attributes none in
    entity_after-fits r before (is_some before) names.id names.kind names.unit asked.attributes
    (attributes-fit r (attributes_of before) asked.attributes checked.0 checked.1))

-- ---- enrollments

entity_writes-fit : (r : Records) (parent : Option Entity) (pairs : List Pair) → has_unknown r item.Attribute pairs ≡ false
    → has_unfit r item.Attribute pairs ≡ false → AllByRecursion WriteFits (entity_writes r parent pairs)
unfolding entity_writes
entity_writes-fit r None pairs named fit =
    elim (length pairs == 0) as (λ b. AllByRecursion WriteFits (cond b [] [])) [ true ↦ tt | false ↦ tt ]
entity_writes-fit r (Some entity) pairs named fit =
    elim (length pairs == 0) as (λ b. AllByRecursion WriteFits
    (cond b [] (write.EntityWritten (record entity { attributes = merged r entity.attributes pairs }) ∷ []))) [
      | true ↦ tt
      | false ↦ (attributes-fit r entity.attributes pairs named fit, tt)
    ]

enrollment_after-fits : (r : Records) (names : EnrollmentNames) (id entity : Option (List ℕ)) (program unit status : Option ℕ)
    (asked : BundleEnrollment) (live : Bool) (more : List Write) → IfSome status (λ place. place < enrollment_statuses) → AllByRecursion WriteFits more
    → names.id ≡ id → names.entity ≡ entity → names.program ≡ program → names.unit ≡ unit → status_in enrollment_status_of asked.status ≡ status
    → Fits (option_map_or (λ after. put live (write.EnrollmentWritten after ∷ more)) (enrollment_after r names asked) judged.Nothing)
unfolding enrollment_after
enrollment_after-fits r names None entity program unit status asked live more below all a b c d e = rw a tt
enrollment_after-fits r names (Some id) None program unit status asked live more below all a b c d e = rw (a, b) tt
enrollment_after-fits r names (Some id) (Some entity) None unit status asked live more below all a b c d e = rw (a, b, c) tt
enrollment_after-fits r names (Some id) (Some entity) (Some program) None status asked live more below all a b c d e = rw (a, b, c, d) tt
enrollment_after-fits r names (Some id) (Some entity) (Some program) (Some unit) None asked live more below all a b c d e = rw (a, b, c, d, e) tt
enrollment_after-fits r names (Some id) (Some entity) (Some program) (Some unit) (Some status) asked live more below all a b c d e =
    rw (a, b, c, d, e) (put-fits live _ ((below, (day-fits asked.enrolled, day-fits asked.occurred)), all))

enrollment-checked : (facts : Facts) (r : Records) (who : Who) (chosen : ImportStrategy) (live repeated : Bool) (parent : Option Entity)
    (names : EnrollmentNames) (asked : BundleEnrollment) → enrollment_conflict facts r who chosen live repeated parent names asked ≡ None
    → (has_unknown r item.Attribute asked.attributes ≡ false) × (has_unfit r item.Attribute asked.attributes ≡ false)
unfolding enrollment_conflict enrollment_name_conditions attribute_conditions
enrollment-checked facts r who chosen live repeated parent names asked none =
    let standing = standing_conditions chosen live repeated ∷ [] in
    let values = attribute_conditions r names.program asked.attributes ∷ standing in
    let forms = enrollment_form_conditions asked ∷ values in
    let rights = right_conditions facts r who names.unit kind.Program names.program ∷ forms in
    let first = of-first (enrollment_name_conditions r names asked.attributes) (entity_conditions r names.program parent ∷ rights) none in
    let own = of-head _ (is_none names.id) _ first.0 in
    let named = of-head _ (is_none names.program || has_unknown r item.Attribute asked.attributes) _ own.1 in
    let second = of-first (entity_conditions r names.program parent) rights first.1 in
    let third = of-first (right_conditions facts r who names.unit kind.Program names.program) forms second.1 in
    let fourth = of-first (enrollment_form_conditions asked) values third.1 in
    let fifth = of-first (attribute_conditions r names.program asked.attributes) standing fourth.1 in
    let typed = of-head _ (has_unfit r item.Attribute asked.attributes) _ fifth.0 in
    (latter (is_none names.program) (has_unknown r item.Attribute asked.attributes) named.0, typed.0)

pub enrollment-fits : (facts : Facts) (r : Records) (who : Who) (chosen : ImportStrategy) (live repeated : Bool) (parent : Option Entity)
    (asked : BundleEnrollment)
    → Fits (judged_enrollment facts r who chosen live repeated parent asked)
unfolding judged_enrollment
enrollment-fits facts r who chosen live repeated parent asked =
    let names = enrollment_names r asked in
    by-judged (enrollment_conflict facts r who chosen live repeated parent names asked) _ (λ none.
    let checked = enrollment-checked facts r who chosen live repeated parent names asked none in
    enrollment_after-fits r names _ _ _ _ _ asked live (entity_writes r parent asked.attributes) (enrollment_status-below asked.status)
    (entity_writes-fit r parent asked.attributes checked.0 checked.1) refl refl refl refl refl)

-- ---- events

event_after-fits : (r : Records) (names : EventNames) (id : Option (List ℕ)) (program stage unit status : Option ℕ) (asked : BundleEvent) (live : Bool)
    → IfSome status (λ place. place < event_statuses) → PairsFit (merged r [] asked.values)
    → names.id ≡ id → names.program ≡ program → names.stage ≡ stage → names.unit ≡ unit → status_in event_status_of asked.status ≡ status
    → Fits (option_map_or (λ after. put live (write.EventWritten after ∷ [])) (event_after r names asked) judged.Nothing)
unfolding event_after
event_after-fits r names None program stage unit status asked live below fit a b c d e = rw a tt
event_after-fits r names (Some id) None stage unit status asked live below fit a b c d e = rw (a, b) tt
event_after-fits r names (Some id) (Some program) None unit status asked live below fit a b c d e = rw (a, b, c) tt
event_after-fits r names (Some id) (Some program) (Some stage) None status asked live below fit a b c d e = rw (a, b, c, d) tt
event_after-fits r names (Some id) (Some program) (Some stage) (Some unit) None asked live below fit a b c d e = rw (a, b, c, d, e) tt
event_after-fits r names (Some id) (Some program) (Some stage) (Some unit) (Some status) asked live below fit a b c d e =
    rw (a, b, c, d, e) (put-fits live _ (((below, (day-fits asked.occurred, day-fits asked.scheduled)), fit), tt))

event-checked : (facts : Facts) (r : Records) (who : Who) (chosen : ImportStrategy) (live repeated : Bool) (parent : Option EnrollmentPlace)
    (names : EventNames) (asked : BundleEvent) → event_conflict facts r who chosen live repeated parent names asked ≡ None
    → (has_unknown r item.Element asked.values ≡ false) × (has_unfit r item.Element asked.values ≡ false)
unfolding event_conflict event_name_conditions element_conditions
event-checked facts r who chosen live repeated parent names asked none =
    let standing = standing_conditions chosen live repeated ∷ [] in
    let values = element_conditions r names.stage asked.values ∷ standing in
    let forms = event_form_conditions asked ∷ values in
    let rights = right_conditions facts r who names.unit kind.Program names.program ∷ forms in
    let first = of-first (event_name_conditions r names asked.values) (enrollment_conditions r names parent ∷ rights) none in
    let own = of-head _ (is_none names.id) _ first.0 in
    let named = of-head _ ((is_none names.program || is_none names.stage) || has_unknown r item.Element asked.values) _ own.1 in
    let second = of-first (enrollment_conditions r names parent) rights first.1 in
    let third = of-first (right_conditions facts r who names.unit kind.Program names.program) forms second.1 in
    let fourth = of-first (event_form_conditions asked) values third.1 in
    let fifth = of-first (element_conditions r names.stage asked.values) standing fourth.1 in
    let typed = of-head _ (has_unfit r item.Element asked.values) _ fifth.0 in
    (latter (is_none names.program || is_none names.stage) (has_unknown r item.Element asked.values) named.0, typed.0)

pub event-fits : (facts : Facts) (r : Records) (who : Who) (chosen : ImportStrategy) (live repeated : Bool) (parent : Option EnrollmentPlace)
    (asked : BundleEvent)
    → Fits (judged_event facts r who chosen live repeated parent asked)
unfolding judged_event
event-fits facts r who chosen live repeated parent asked =
    let names = event_names r asked in
    by-judged (event_conflict facts r who chosen live repeated parent names asked) _ (λ none.
    let checked = event-checked facts r who chosen live repeated parent names asked none in
    event_after-fits r names _ _ _ _ _ asked live (event_status-below asked.status) (values-fit r asked.values checked.0 checked.1) refl refl refl refl refl)
