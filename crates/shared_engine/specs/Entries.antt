-- The history of a running system: who made which step of the machine, with its reply, and the keeper's count of faults after it.
use Rattle.std.specs.Prelude.{unwrap_or, ◌≡◌, ◌≤◌, ◌==◌, if◌then◌else◌, ◌∷◌, [], ℕ, Bool, true, false, List, Option, None, Some, Result, Ok, Err, ⊤}
use Rattle.dh_outside.specs.Faults.{Rose}
use Rattle.dh_metadata.specs.declared.held.Records.{Records}
use Rattle.change_log.specs.declared.limits.Limits.{Limits}
use Rattle.engine.specs.declared.machine.Report.{Report}
use Rattle.engine.specs.declared.machine.ChangeFault.{ChangeFault}
use Rattle.engine.specs.declared.machine.ChangeFault.TheVariants as change
use Rattle.engine.specs.declared.machine.Staged.{Staged}
use Rattle.engine.specs.declared.machine.CutFault.{CutFault}
use Rattle.engine.specs.Machine.{State, Act, IsReply, next, lacks_memory}
use Rattle.engine.specs.Machine.Act.{changed, begun, swapped, dropped, looked}

pub record Entry : Type 0 where
  pub caller : ℕ
  pub act : Act
  pub faults : ℕ

-- stands for the entry of a value that isn't made
abbrev pub no_entry : Entry
no_entry = record { caller = 0; act = dropped 0; faults = 0 }

abbrev pub caller_of : Entry → ℕ
caller_of entry = entry.caller

-- the published number that the reply of a swap names
abbrev pub number_named : Act → Option ℕ
number_named (swapped ticket (Ok published)) = Some published
number_named (swapped ticket (Err memory)) = None
number_named (changed asked reply) = None
number_named (begun kind reply) = None
number_named (dropped ticket) = None
number_named (looked asked reply) = None

abbrev pub named_of : Entry → Option ℕ
named_of entry = number_named entry.act

-- a call that found no memory has no entry
abbrev pub entries_if : Bool → Entry → List Entry
entries_if true entry = []
entries_if false entry = entry ∷ []

abbrev pub entries_of : ℕ → Act → ℕ → List Entry
entries_of caller act faults = entries_if (lacks_memory act) (record { caller = caller; act = act; faults = faults })

-- the same in the name of the caller who is taken in
abbrev pub entry_by : Option ℕ → Act → ℕ → Entry
entry_by taken act faults = record { caller = unwrap_or taken 0; act = act; faults = faults }

abbrev pub entries_by : Option ℕ → Act → ℕ → List Entry
entries_by taken act faults = entries_if (lacks_memory act) (entry_by taken act faults)

-- how the system stands: the machine, the keeper's count of faults, and whose update each ticket is
pub record Stand : Type 0 where
  pub machine : State
  pub faults : ℕ
  pub owner : ℕ → Option ℕ

abbrev pub owner_by : ℕ → Result Staged CutFault → (ℕ → Option ℕ) → ℕ → Option ℕ
owner_by caller (Ok update) owner ticket = if ticket == update.ticket then Some caller else owner ticket
owner_by caller (Err fault) owner ticket = owner ticket

-- who begins an update owns it
abbrev pub owner_after : ℕ → Act → (ℕ → Option ℕ) → ℕ → Option ℕ
owner_after caller (begun kind reply) owner = owner_by caller reply owner
owner_after caller (changed asked reply) owner = owner
owner_after caller (swapped ticket reply) owner = owner
owner_after caller (dropped ticket) owner = owner
owner_after caller (looked asked reply) owner = owner

abbrev pub after_entry : Records → Stand → Entry → Stand
after_entry meta stand entry = record {
  machine = next meta stand.machine entry.act;
  faults = entry.faults;
  owner = owner_after entry.caller entry.act stand.owner;
}

abbrev pub after_entries : Records → Stand → List Entry → Stand
after_entries meta stand [] = stand
after_entries meta stand (entry ∷ entries) = after_entries meta (after_entry meta stand entry) entries

-- a fault of the store is the keeper's, whose count rose
abbrev pub IsFaultOf : Result Report ChangeFault → ℕ → ℕ → Type 0
IsFaultOf (Ok report) old new = ⊤
IsFaultOf (Err change.StoreFault) old new = Rose old new
IsFaultOf (Err (change.Refused refused)) old new = ⊤
IsFaultOf (Err (change.LogFull limit)) old new = ⊤
IsFaultOf (Err change.Memory) old new = ⊤

abbrev pub IsFault : Act → ℕ → ℕ → Type 0
IsFault (changed asked reply) old new = IsFaultOf reply old new
IsFault (begun kind reply) old new = ⊤
IsFault (swapped ticket reply) old new = ⊤
IsFault (dropped ticket) old new = ⊤
IsFault (looked asked reply) old new = ⊤

-- who ends an update owns it
abbrev pub Owns : (ℕ → Option ℕ) → ℕ → Act → Type 0
Owns owner caller (swapped ticket reply) = owner ticket ≡ Some caller
Owns owner caller (dropped ticket) = owner ticket ≡ Some caller
Owns owner caller (changed asked reply) = ⊤
Owns owner caller (begun kind reply) = ⊤
Owns owner caller (looked asked reply) = ⊤

-- the machine may give this reply where the system stands so, the count of faults doesn't fall, and an update is ended by its owner
pub record IsRight (meta : Records) (limits : Limits) (stand : Stand) (entry : Entry) : Type 0 where
  pub reply : IsReply meta limits stand.machine entry.act
  pub count : stand.faults ≤ entry.faults
  pub fault : IsFault entry.act stand.faults entry.faults
  pub owns : Owns stand.owner entry.caller entry.act

abbrev pub IsLegalFrom : Records → Limits → Stand → List Entry → Type 0
IsLegalFrom meta limits stand [] = ⊤
IsLegalFrom meta limits stand (entry ∷ entries) =
    IsRight meta limits stand entry × IsLegalFrom meta limits (after_entry meta stand entry) entries
