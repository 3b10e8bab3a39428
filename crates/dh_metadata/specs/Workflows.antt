-- The approval workflows of data elements.
use Rattle.std.specs.Prelude.{◌≡◌, ℕ, ◌<◌, Bool, cond, ◌==◌, List, [], ◌∷◌, ◌++◌, length, Option, None, slice_get, slice_index_or}
use Rattle.std.specs.List.{list_any}
use Rattle.std.specs.Option.{option_to_list}
use Rattle.dh_metadata.specs.declared.records.DataSet.{DataSet}

-- the element is in the data set
abbrev pub has_element : ℕ → DataSet → Bool
has_element element set = list_any (λ other. other == element) set.data_set_elements

-- the workflow that a data set with the element names
abbrev pub workflow_by : ℕ → DataSet → List ℕ
workflow_by element set = cond (has_element element set) (option_to_list set.workflow) []

-- the workflows that the data sets with the element name
abbrev pub workflows_by : List DataSet → ℕ → List ℕ
workflows_by [] element = []
workflows_by (set ∷ sets) element = workflow_by element set ++ workflows_by sets element

-- the element's workflow; None if no data set with it names one
abbrev pub workflow_of : List DataSet → ℕ → Option ℕ
workflow_of sets element = slice_get (workflows_by sets element) 0

-- for each element its workflow
pub record AreWorkflows (sets : List DataSet) (count : ℕ) (list : List (Option ℕ)) : Type 0 where
  pub same_length : length list ≡ count
  pub each : (element : ℕ) → element < count → slice_index_or list element None ≡ workflow_of sets element
