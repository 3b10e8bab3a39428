-- How objects are taken away, each with what hangs on it.
use Rattle.std.specs.Prelude.{ℕ, Bool, false, List, [], ◌∷◌, ◌++◌, map, filter, Option, Some, None}
use Rattle.std.specs.Option.{option_map_or, option_or, is_some, is_none}
use Rattle.std.specs.List.{flat_map}
use Rattle.std.specs.BTreeMap.{insert_entry}
use Rattle.std.specs.Cmp.Lexicographic.{slice_cmp}
use Rattle.std.specs.Ordering.{nat_cmp}
use Rattle.dh_base.specs.declared.codes.Code.{Code}
use Rattle.dh_base.specs.declared.codes.Code.TheVariants.{T1, T3, T4}
use Rattle.dh_changes.specs.declared.tracker.Entity.{Entity}
use Rattle.dh_changes.specs.declared.change.Write.{Write}
use Rattle.dh_changes.specs.declared.change.Write.TheVariants as write
use Rattle.dh_metadata.specs.Objects.{find_of}
use Rattle.dh_metadata.specs.declared.held.Records.{Records}
use Rattle.dh_metadata.specs.declared.kind.Kind.{Kind}
use Rattle.dh_metadata.specs.declared.kind.Kind.TheVariants as kind
use Rattle.dh_changes.specs.Facts.{Facts}
use Rattle.dh_changes.specs.declared.outcome.Who.{Who}
use Rattle.dh_changes.specs.declared.outcome.ImportStrategy.{ImportStrategy}
use Rattle.value_import.specs.Rules.{Condition, first_of}
use Rattle.tracker_import.specs.declared.names.EnrollmentPlace.{EnrollmentPlace}
use Rattle.tracker_import.specs.declared.places.EventPlace.{EventPlace}
use Rattle.tracker_import.specs.declared.places.Live.{Live}
use Rattle.tracker_import.specs.declared.judged.Judged.{Judged}
use Rattle.tracker_import.specs.declared.judged.Judged.TheVariants as outcome
use Rattle.tracker_import.specs.Known.{entity_now, enrollment_now, event_now}
use Rattle.tracker_import.specs.Rules.{first_in, right_conditions, standing_conditions}
use Rattle.tracker_import.specs.Rules.{judged_by}

-- ---- the conditions

-- an object that is there: its unit, its tracked entity type or program, and whether the object that it hangs on isn't there
abbrev pub live_entity : Entity → Live
live_entity entity = record { unit = entity.unit; owner = entity.kind; orphaned = false }

abbrev pub live_enrollment : Facts → List Write → EnrollmentPlace → Live
live_enrollment facts accepted at = record { unit = at.unit; owner = at.program; orphaned = is_none (entity_now facts accepted at.entity) }

abbrev pub live_event : Facts → List Write → EventPlace → Live
live_event facts accepted at = record {
  unit = at.unit;
  owner = at.program;
  orphaned = option_map_or (λ id. is_none (enrollment_now facts accepted id)) at.enrollment false;
}

-- its unit is none of the metadata; what it hangs on isn't there
unfoldable pub live_conditions : Records → Live → List Condition
live_conditions r live =
    (T3, is_none (find_of r kind.OrganisationUnit live.unit))
    ∷ (T4, live.orphaned)
    ∷ []

-- the first condition on what is there that holds
abbrev pub live_conflict : Facts → Records → Who → Kind → Option Live → Option Code
live_conflict facts r who owners None = None
live_conflict facts r who owners (Some live) = first_in (
    live_conditions r live
    ∷ right_conditions facts r who (find_of r kind.OrganisationUnit live.unit) owners (find_of r owners live.owner)
    ∷ [])

abbrev pub own_conditions : Option (List ℕ) → List Condition
own_conditions id = (T1, is_none id) ∷ []

-- the first condition that holds, of an object with this identifier that is to be taken away, and is there or isn't
unfoldable pub delete_conflict : Facts → Records → Who → ImportStrategy → Bool → Kind → Option (List ℕ) → Option Live → Option Code
delete_conflict facts r who chosen repeated owners id live =
    option_or (first_of (own_conditions id))
    (option_or (live_conflict facts r who owners live) (first_of (standing_conditions chosen (is_some live) repeated)))

-- ---- what goes with it

-- the events of an enrollment that are there
unfoldable pub events_left : Facts → List Write → List ℕ → List (List ℕ)
events_left facts accepted enrollment = filter (λ id. is_some (event_now facts accepted id)) (facts.events_of enrollment)

-- the enrollments of an entity that are there
unfoldable pub enrollments_left : Facts → List Write → List ℕ → List (List ℕ)
enrollments_left facts accepted entity = filter (λ id. is_some (enrollment_now facts accepted id)) (facts.enrollments_of entity)

-- an enrollment goes after its events
unfoldable pub enrollment_gone : Facts → List Write → List ℕ → List Write
enrollment_gone facts accepted id = map write.EventDeleted (events_left facts accepted id) ++ write.EnrollmentDeleted id ∷ []

-- put among others in the order of their bytes, each once
abbrev pub put_ids : List (List ℕ × List ℕ) → List (List ℕ) → List (List ℕ × List ℕ)
put_ids entries [] = entries
put_ids entries (id ∷ more) = put_ids (insert_entry (slice_cmp nat_cmp) entries id id) more

-- in the order of their bytes
unfoldable pub ordered : List (List ℕ) → List (List ℕ)
ordered ids = map (λ entry. entry.1) (put_ids [] ids)

-- an entity goes after its enrollments, and these after all their events, each in the order of their identifiers' bytes
unfoldable pub entity_gone : Facts → List Write → List ℕ → List Write
entity_gone facts accepted id =
    map write.EventDeleted (ordered (flat_map (events_left facts accepted) (enrollments_left facts accepted id)))
    ++ map write.EnrollmentDeleted (enrollments_left facts accepted id)
    ++ write.EntityDeleted id ∷ []

-- what an object comes to that is to be taken away, with these writes
abbrev pub judged_delete : Option Code → (List ℕ → List Write) → Option (List ℕ) → Judged
judged_delete conflict gone id = judged_by conflict (option_map_or (λ own. outcome.Deleted (gone own)) id outcome.Nothing)
