-- What a server over the bytes of a metadata file may come to.
use Rattle.std.specs.Prelude.{◌≡◌, ◌≢◌, ◌⊎◌, ℕ, List, [], ◌∷◌, ◌++◌, Option, Ok, Err, codes}
use Rattle.std.specs.Fmt.{decimal}
use Rattle.std.specs.Io.KnownBytes.{Appends, Keeps}
use Rattle.dh_outside.specs.Faults.{Rose}
use Rattle.dh_metadata.specs.declared.held.Records.{Records}
use Rattle.meta_reader.specs.declared.fault.MetaFault.{MetaFault}
use Rattle.meta_reader.specs.Read.{IsMetadata}
use Rattle.net_doors.specs.Doors.{Shown}
use Rattle.net_doors.specs.declared.ending.Ending.{Ending}
use Rattle.net_doors.specs.declared.ending.Ending.TheVariants as ending
use Rattle.request_replies.specs.OverFile.{refusal_line}
use Rattle.request_session.specs.Session.{AppendsFront}
use Rattle.shared_engine.specs.Entries.{Entry}
use Rattle.shared_engine.specs.Histories.{Made}
use Rattle.shared_engine.specs.Views.{TokenView}
use Rattle.shared_server.specs.Links.{Serves}
use Rattle.shared_server.specs.declared.over_file.ServeEnd.{ServeEnd}
use Rattle.shared_server.specs.declared.over_file.ServeEnd.TheVariants as end

-- the line that tells how many links were served
unfoldable pub served_line : ℕ → List ℕ
served_line count = codes "served " ++ decimal count ++ 10 ∷ []

-- what writing how many links were served comes to
abbrev pub Tells : ℕ → Option (List ℕ) → Option (List ℕ) → ServeEnd → Type 0
Tells count written written' end.Refused = ⊥
Tells count written written' end.Unwritten = AppendsFront written written' (served_line count)
Tells count written written' (end.Served links) = (links ≡ count) × Appends written written' (served_line count)
Tells count written written' end.ListenFault = ⊥
Tells count written written' end.Memory = Keeps written written'

-- the same by how accepting ended
abbrev pub Finishes : Ending → ℕ → Option (List ℕ) → Option (List ℕ) → ServeEnd → Type 0
Finishes ending.Enough count written written' how = Tells count written written' how
Finishes ending.Closed count written written' how = Tells count written written' how
Finishes ending.ListenFault count written written' how = (how ≡ end.ListenFault) × Keeps written written'

-- what refusing the metadata comes to
abbrev pub Refuses : MetaFault → Option (List ℕ) → Option (List ℕ) → ServeEnd → Type 0
Refuses found written written' end.Refused = Appends written written' (refusal_line found)
Refuses found written written' end.Unwritten = AppendsFront written written' (refusal_line found)
Refuses found written written' (end.Served links) = ⊥
Refuses found written written' end.ListenFault = ⊥
Refuses found written written' end.Memory = Keeps written written'

-- links were served until as many were accepted as are wanted, or the listener was closed
pub record Completes {N : Type 0} (Untouched : N → Type 0) (Answered : Made → TokenView Entry → N → N → Type 0) (before after : Shown N) (meta : Records)
    (most count : ℕ) : Type 0 where
  pub how : Ending
  pub complete : how ≢ ending.ListenFault
  pub serves : Serves Untouched Answered before after meta most count how

-- so many links were served, however accepting ended, and this is told
abbrev pub ServesTold : {N : Type 0} → (N → Type 0) → (Made → TokenView Entry → N → N → Type 0) → Shown N → Shown N → ℕ → Records → Option (List ℕ)
    → Option (List ℕ) → ServeEnd → Type 0
ServesTold Untouched Answered before after most meta written written' how =
    (count : ℕ) × (ending : Ending) × Serves Untouched Answered before after meta most count ending × Finishes ending count written written' how

-- no link was accepted, and none given back
pub record IsIdle {N : Type 0} (before after : Shown N) : Type 0 where
  pub accepted : after.accepted ≡ before.accepted
  pub closed : after.closed ≡ before.closed
  pub back : after.back ≡ before.back

-- A server over metadata that served so many links writes how many. It fails to listen or to accept only where the listener counted a
-- fault: then no link was accepted, or all that were are answered and given back. If memory runs out the listener wasn't called, or all
-- links were served; then nothing is written.
abbrev pub ServesMeta : {N : Type 0} → (N → Type 0) → (Made → TokenView Entry → N → N → Type 0) → Shown N → Shown N → ℕ → Records → Option (List ℕ)
    → Option (List ℕ) → ServeEnd → Type 0
ServesMeta Untouched Answered before after most meta written written' end.Refused = ⊥
ServesMeta Untouched Answered before after most meta written written' end.Unwritten =
    (count : ℕ) × Completes Untouched Answered before after meta most count × AppendsFront written written' (served_line count)
ServesMeta Untouched Answered before after most meta written written' (end.Served count) =
    Completes Untouched Answered before after meta most count × Appends written written' (served_line count)
ServesMeta Untouched Answered before after most meta written written' end.ListenFault =
    Rose before.faults after.faults × Keeps written written'
    × (IsIdle before after ⊎ ((count : ℕ) × Serves Untouched Answered before after meta most count ending.ListenFault))
ServesMeta Untouched Answered before after most meta written written' end.Memory =
    Keeps written written' × ((after ≡ before) ⊎ ((count : ℕ) × Completes Untouched Answered before after meta most count))

-- the same over the bytes of a metadata file; if they are refused, the listener isn't called
abbrev pub ServesOver : {N : Type 0} → (N → Type 0) → (Made → TokenView Entry → N → N → Type 0) → Shown N → Shown N → ℕ → List ℕ → Option (List ℕ)
    → Option (List ℕ) → ServeEnd → Type 0
ServesOver Untouched Answered before after most bytes written written' how =
    ((found : MetaFault) × IsMetadata bytes (Err found) × Refuses found written written' how × (after ≡ before))
    ⊎ ((meta : Records) × IsMetadata bytes (Ok meta) × ServesMeta Untouched Answered before after most meta written written' how)
