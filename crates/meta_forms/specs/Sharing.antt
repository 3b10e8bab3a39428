-- How the objects of a metadata file are shared.
use Rattle.std.specs.Prelude.{ℕ, true, List, [], ◌∷◌, ◌++◌, None, codes, Ok}
use Rattle.std.specs.Option.{option_map_or}
use Rattle.serde_json.specs.Data.{Data, Members, no_members, member}
use Rattle.serde_json.specs.Find.{get, as_object}
use Rattle.dh_sharing.specs.Access.{access_of}
use Rattle.dh_sharing.specs.declared.access.Access.{Access}
use Rattle.json_read.specs.Forms.{Formed, and_then, or_fault, at_step, object_of, identifier_of, field_of, field_or_of, optional_of}
use Rattle.dh_metadata.specs.declared.raw.RawSharing.{RawSharing}
use Rattle.meta_forms.specs.Fields.{name_of_table}

-- the access `rwrw----`
abbrev pub open_access : Access
open_access = record { read = true; write = true; data_read = true; data_write = true }

-- how an object is shared that doesn't say it
abbrev pub open_sharing : RawSharing
open_sharing = record { owner = None; public = open_access; users = []; groups = [] }

-- a member of `users` or `userGroups`: its key, whom it names, and which access it gives
unfoldable pub member_of : List ℕ → Data → Formed (List ℕ × List ℕ × Access)
member_of key = object_of (λ json.
    and_then (field_of (codes "id") identifier_of json) (λ id.
    and_then (field_of (codes "access") (name_of_table access_of) json) (λ access.
    Ok (key, id, access))))

-- the step to a member of the object under a key
abbrev pub step_of : List ℕ → List ℕ → List ℕ
step_of outer key = outer ++ 46 ∷ key

-- the members of the object under a key, by the byte order of their own keys
abbrev pub members_of : List ℕ → Members → Formed (List (List ℕ × List ℕ × Access))
members_of outer no_members = Ok []
members_of outer (member key json rest) =
    and_then (at_step (step_of outer key) (member_of key json)) (λ found. and_then (members_of outer rest) (λ more. Ok (found ∷ more)))

abbrev pub members_in : List ℕ → Data → Formed (List (List ℕ × List ℕ × Access))
members_in outer json = and_then (at_step outer (or_fault (as_object json))) (members_of outer)

abbrev pub members_at : List ℕ → Data → Formed (List (List ℕ × List ℕ × Access))
members_at outer json = option_map_or (members_in outer) (get outer json) (Ok [])

-- a sharing object: owner (none), public (`rwrw----`), users (none), userGroups (none)
unfoldable pub sharing_fields_of : Data → Formed RawSharing
sharing_fields_of json =
    and_then (optional_of (codes "owner") identifier_of json) (λ owner.
    and_then (field_or_of (codes "public") (name_of_table access_of) open_access json) (λ public.
    and_then (members_at (codes "users") json) (λ users.
    and_then (members_at (codes "userGroups") json) (λ groups.
    Ok (record { owner = owner; public = public; users = users; groups = groups })))))

abbrev pub sharing_form : Data → Formed RawSharing
sharing_form = object_of sharing_fields_of

-- how an object is shared
unfoldable pub sharing_of : Data → Formed RawSharing
sharing_of json = field_or_of (codes "sharing") sharing_form open_sharing json
