-- An index that is ready for what will be said: each key is entered, and each child is noted under its parent.
use Rattle.std.specs.Prelude.{◌≡◌, ℕ, Bool, true, List, [], ◌∷◌, Option, None, Some, ⊤}
use Rattle.std.specs.Option.{is_some}
use Rattle.std.specs.HashMap.{HashMap, get, Updates}
use Rattle.dh_changes.specs.Keys.{same_value_key, same_approval_key, same_reg_key}
use Rattle.dh_changes.specs.declared.keys.ValueKey.{ValueKey}
use Rattle.dh_changes.specs.declared.keys.ApprovalKey.{ApprovalKey}
use Rattle.dh_changes.specs.declared.keys.RegKey.{RegKey}
use Rattle.dh_changes.specs.declared.said.Said.{Said}
use Rattle.dh_changes.specs.declared.said.Said.TheVariants as said
use Rattle.dh_changes.specs.declared.index.Index.{Index}
use Rattle.dh_changes.specs.Said.{same_id}
use Rattle.dh_changes.specs.Maps.{is_noted}
use Rattle.dh_changes.specs.Hanging.{event_parent, enrollment_parent}
use Rattle.dh_changes.specs.Holds.{contents, event_held, enrollment_held}

-- the child is noted under its parent, if it has one
abbrev pub is_linked : {S : Type 0} → HashMap (List ℕ) (List (List ℕ)) S → Option (List ℕ) → List ℕ → Bool
is_linked children None child = true
is_linked children (Some parent) child = is_noted children parent child

-- what hangs on another is noted under it
pub record IsLinked (index : Index) : Type 0 where
  pub events : (id : List ℕ) → is_linked index.events_of (event_parent (event_held (contents index) id)) id ≡ true
  pub enrollments : (id : List ℕ) → is_linked index.enrollments_of (enrollment_parent (enrollment_held (contents index) id)) id ≡ true

-- the key is entered, and the child noted under its parent
abbrev pub IsReady : Index → Said → Type 0
IsReady index (said.Value key value) = is_some (get same_value_key index.values key) ≡ true
IsReady index (said.Event id event) = (is_some (get same_id index.events id) ≡ true) × (is_linked index.events_of (event_parent event) id ≡ true)
IsReady index (said.Enrollment id enrollment) =
    (is_some (get same_id index.enrollments id) ≡ true) × (is_linked index.enrollments_of (enrollment_parent enrollment) id ≡ true)
IsReady index (said.Entity id entity) = is_some (get same_id index.entities id) ≡ true
IsReady index (said.Approval key now) = is_some (get same_approval_key index.approvals key) ≡ true
IsReady index (said.Registration key day) = is_some (get same_reg_key index.registrations key) ≡ true

abbrev pub AllReady : Index → List Said → Type 0
AllReady index [] = ⊤
AllReady index (s ∷ more) = IsReady index s × AllReady index more

-- what is entered and noted stays so
pub record Keeps (old new : Index) : Type 0 where
  pub values : (key : ValueKey) → is_some (get same_value_key old.values key) ≡ true → is_some (get same_value_key new.values key) ≡ true
  pub events : (id : List ℕ) → is_some (get same_id old.events id) ≡ true → is_some (get same_id new.events id) ≡ true
  pub enrollments : (id : List ℕ) → is_some (get same_id old.enrollments id) ≡ true → is_some (get same_id new.enrollments id) ≡ true
  pub entities : (id : List ℕ) → is_some (get same_id old.entities id) ≡ true → is_some (get same_id new.entities id) ≡ true
  pub approvals : (key : ApprovalKey) → is_some (get same_approval_key old.approvals key) ≡ true → is_some (get same_approval_key new.approvals key) ≡ true
  pub registrations : (key : RegKey) → is_some (get same_reg_key old.registrations key) ≡ true → is_some (get same_reg_key new.registrations key) ≡ true
  pub events_of : (parent child : List ℕ) → is_noted old.events_of parent child ≡ true → is_noted new.events_of parent child ≡ true
  pub enrollments_of : (parent child : List ℕ) → is_noted old.enrollments_of parent child ≡ true → is_noted new.enrollments_of parent child ≡ true

-- the key holds what was said of it, and all else stays
abbrev pub Puts : Index → Said → Index → Type 0
Puts old (said.Value key value) new = Updates same_value_key old.values new.values key (Some value) × (new ≡ record old { values = new.values })
Puts old (said.Event id event) new = Updates same_id old.events new.events id (Some event) × (new ≡ record old { events = new.events })
Puts old (said.Enrollment id enrollment) new =
    Updates same_id old.enrollments new.enrollments id (Some enrollment) × (new ≡ record old { enrollments = new.enrollments })
Puts old (said.Entity id entity) new = Updates same_id old.entities new.entities id (Some entity) × (new ≡ record old { entities = new.entities })
Puts old (said.Approval key now) new = Updates same_approval_key old.approvals new.approvals key (Some now) × (new ≡ record old { approvals = new.approvals })
Puts old (said.Registration key day) new =
    Updates same_reg_key old.registrations new.registrations key (Some day) × (new ≡ record old { registrations = new.registrations })
