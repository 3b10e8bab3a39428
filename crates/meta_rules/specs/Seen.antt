-- What is kept of an element's workflows while data sets are read.
use Rattle.std.specs.Prelude.{◌≡◌, ℕ, ◌<◌, Bool, true, false, cond, ◌==◌, List, [], ◌∷◌, length, Option, None, Some, slice_index_or}
use Rattle.std.specs.List.{list_any}
use Rattle.dh_metadata.specs.declared.records.DataSet.{DataSet}
use Rattle.meta_rules.specs.declared.workflows.Seen.{Seen}
use Rattle.meta_rules.specs.declared.workflows.Seen.TheVariants.{Nothing, One, Several}
use Rattle.dh_metadata.specs.Workflows.{workflow_by, workflows_by}

abbrev pub met : Seen → ℕ → Seen
met Nothing workflow = One workflow
met (One other) workflow = cond (other == workflow) (One other) Several
met Several workflow = Several

-- after more workflows
abbrev pub all_met : Seen → List ℕ → Seen
all_met seen [] = seen
all_met seen (workflow ∷ workflows) = all_met (met seen workflow) workflows

abbrev pub one_seen : Seen → Option ℕ
one_seen Nothing = None
one_seen (One workflow) = Some workflow
one_seen Several = None

abbrev pub is_several : Seen → Bool
is_several Nothing = false
is_several (One workflow) = false
is_several Several = true

abbrev pub seen_at : List Seen → ℕ → Seen
seen_at seen place = slice_index_or seen place Nothing

abbrev pub several_at : List Seen → ℕ → Bool
several_at seen place = is_several (seen_at seen place)

-- the workflow was met by each of these elements, and by no other
pub record TakesEntries (old new : List Seen) (elements : List ℕ) (workflow : ℕ) : Type 0 where
  pub same_length : length new ≡ length old
  pub each : (e : ℕ) → e < length old → seen_at new e ≡ cond (list_any (λ other. other == e) elements) (met (seen_at old e) workflow) (seen_at old e)

pub record TakesSet (old new : List Seen) (set : DataSet) : Type 0 where
  pub same_length : length new ≡ length old
  pub each : (e : ℕ) → e < length old → seen_at new e ≡ all_met (seen_at old e) (workflow_by e set)

-- what the data sets tell of each element
pub record HaveSeen (sets : List DataSet) (count : ℕ) (seen : List Seen) : Type 0 where
  pub same_length : length seen ≡ count
  pub each : (e : ℕ) → e < count → seen_at seen e ≡ all_met Nothing (workflows_by sets e)
