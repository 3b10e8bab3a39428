-- What a reader of a form answers.
use Rattle.std.specs.Prelude.{◌≡◌, ℕ, List, [], Option, None, Some, is_some, true, Result, Ok, Err, ⊤}
use Rattle.serde_json.specs.Data.{Data}
use Rattle.serde_json.specs.Find.{as_object}
use Rattle.dh_base.specs.Memory.{Answers}
use Rattle.json_read.specs.Forms.{after_step}
use Rattle.json_read.specs.declared.fault.FormFault.{FormFault}
use Rattle.json_read.specs.declared.fault.FormFault.TheVariants as fault

-- the path of a fault; running out of memory has none
abbrev pub path_of : FormFault → Option (List ℕ)
path_of (fault.At path) = Some path
path_of fault.Memory = None

-- the value that is meant, or the path of the first fault, or that memory ran out
abbrev pub Gives : {A : Type 0} → Result A (List ℕ) → Result A FormFault → Type 0
Gives meant result = Answers path_of meant result

-- a fault as it is seen from before a step
abbrev pub IsSeenFrom : List ℕ → FormFault → FormFault → Type 0
IsSeenFrom step (fault.At path) (fault.At longer) = longer ≡ after_step step path
IsSeenFrom step (fault.At path) fault.Memory = ⊤
IsSeenFrom step fault.Memory seen = seen ≡ fault.Memory

-- a fault at this path, or that memory ran out
abbrev pub IsAt : List ℕ → FormFault → Type 0
IsAt path (fault.At found) = found ≡ path
IsAt path fault.Memory = ⊤

-- the data is an object, or the fault is at the data itself
abbrev pub IsObject : {A : Type 0} → Data → Result A FormFault → Type 0
IsObject json (Ok _) = is_some (as_object json) ≡ true
IsObject json (Err (fault.At path)) = (as_object json ≡ None) × (path ≡ [])
IsObject json (Err fault.Memory) = ⊤
