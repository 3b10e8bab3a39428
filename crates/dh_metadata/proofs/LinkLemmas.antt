-- References of an object that is lent.
use Rattle.std.proofs.Common.{◌≡◌, ◌<◌, ◌++◌, ◌∷◌, [], ℕ, Bool, true, false, List, Option, None, Some, cond, length, get_or, refl, subst, IfSome, suc}
use Rattle.std.proofs.Common.{slice_get}
use Rattle.std.proofs.lemmas.Option.{slice_get_read}
use Rattle.std.specs.Option.{option_to_list}
use Rattle.dh_metadata.specs.declared.held.Records.{Records}
use Rattle.dh_metadata.specs.declared.records.DataSet.{DataSet}
use Rattle.dh_metadata.specs.Linked.{Each, IsBelow}
use Rattle.dh_metadata.specs.Workflows.{has_element, workflows_by}

-- what holds of each object of a list holds of the one at a place
pub linked_at : {A : Type 0} (Holds : A → Type 0) (objects : List A) (n : ℕ) (x : A) → Each Holds objects → n < length objects → x ≡ get_or objects n x
    → Holds x
linked_at Holds objects n x each within is = each n x (slice_get_read objects (length objects) n x refl within is)

-- the same where the objects are held and shown
pub linked_under : {A : Type 0} (field : Records → List A) (Holds : Records → A → Type 0) (inner outer : Records) (list : List A) (n : ℕ) (x : A)
    → inner ≡ outer → Each (Holds inner) (field inner) → list ≡ field inner → slice_get list n ≡ Some x → Holds outer x
linked_under field Holds inner outer list n x same each lent at =
    subst (λ r. Holds r x) same (each n x (subst (λ l. slice_get l n ≡ Some x) lent at))

first_below : (end : ℕ) (rest : List ℕ) (b : Bool) (workflow : Option ℕ) → IsBelow end workflow → IfSome (slice_get rest 0) (λ w. w < end)
    → IfSome (slice_get (cond b (option_to_list workflow) [] ++ rest) 0) (λ w. w < end)
first_below end rest true None below more = more
first_below end rest true (Some w) below more = below
first_below end rest false workflow below more = more

-- the first workflow that data sets with an element name is one of theirs
pub workflow_below : (end : ℕ) (sets : List DataSet) (element : ℕ) → ((n : ℕ) (set : DataSet) → slice_get sets n ≡ Some set → IsBelow end set.workflow)
    → IfSome (slice_get (workflows_by sets element) 0) (λ w. w < end)
workflow_below end [] element each = tt
workflow_below end (set ∷ sets) element each =
    first_below end (workflows_by sets element) (has_element element set) set.workflow (each 0 set refl)
    (workflow_below end sets element (λ n other at. each (suc n) other at))
