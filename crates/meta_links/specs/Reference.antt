-- References from one object of a metadata file to another.
use Rattle.std.specs.Prelude.{ℕ, ◌+◌, Bool, List, [], ◌∷◌, ◌++◌, cond, is_some, Option, None, Some}
use Rattle.std.specs.Option.{unwrap_or}
use Rattle.std.specs.Fmt.{decimal}
use Rattle.dh_metadata.specs.Places.{place_of}
use Rattle.dh_metadata.specs.Keys.{key_of}
use Rattle.dh_metadata.specs.declared.kind.Kind.{Kind}
use Rattle.dh_metadata.specs.Ids.{ids_at}

-- a reference names an object of a kind by its identifier, and stands at a path of the file
pub record Reference : Type 0 where
  pub kind : Kind
  pub uid : List ℕ
  pub path : List ℕ

-- a path and one step more
abbrev pub step : List ℕ → List ℕ → List ℕ
step path name = path ++ 46 ∷ name

-- a field of the object of that kind at that place in its list
abbrev pub field_path : Kind → ℕ → List ℕ → List ℕ
field_path kind place name = step (step (key_of kind) (decimal place)) name

-- a field that is a reference
unfoldable pub one : List ℕ → Kind → List ℕ → List Reference
one path kind uid = record { kind = kind; uid = uid; path = path } ∷ []

-- a field that may be absent
unfoldable pub optional : List ℕ → Kind → Option (List ℕ) → List Reference
optional path kind None = []
optional path kind (Some uid) = one path kind uid

-- what each of some entries has, by its place and itself
abbrev pub each : {X : Type 0} → (ℕ → X → List Reference) → ℕ → List X → List Reference
each has place [] = []
each has place (x ∷ xs) = has place x ++ each has (place + 1) xs

-- a list of references
unfoldable pub several : List ℕ → Kind → List (List ℕ) → List Reference
several path kind uids = each (λ place uid. one (step path (decimal place)) kind uid) 0 uids

-- a list of objects with a reference as a field
unfoldable pub several_in : List ℕ → List ℕ → Kind → List (List ℕ) → List Reference
several_in path name kind uids = each (λ place uid. one (step (step path (decimal place)) name) kind uid) 0 uids

-- there is an object of its kind
abbrev pub is_known : List (List (List ℕ)) → Reference → Bool
is_known ids reference = is_some (place_of (ids_at ids reference.kind) reference.uid)

-- identifier and path of the first reference that names no object of its kind
unfoldable pub first_unknown : List (List (List ℕ)) → List Reference → Option (List ℕ × List ℕ)
first_unknown ids [] = None
first_unknown ids (reference ∷ references) =
    cond (is_known ids reference) (first_unknown ids references) (Some (reference.uid, reference.path))

-- the number of the object that a known reference names
unfoldable pub number_of : List (List (List ℕ)) → Kind → List ℕ → ℕ
number_of ids kind uid = unwrap_or (place_of (ids_at ids kind) uid) 0
