-- What the engine shows of itself, and what always holds of it.
use Rattle.std.specs.Prelude.{is_some, [], map, ◌≡◌, ◌==◌, ◌≤◌, if◌then◌else◌, nat_lt, ℕ, ℤ, Bool, true, false, List, length, take, Option, None, Some}
use Rattle.std.specs.Prelude.{IfSome, Result}
use Rattle.std.specs.Prelude.{Ok, Err, option_map}
use Rattle.std.specs.Arc.{arc_value}
use Rattle.std.specs.List.{All}
use Rattle.std.specs.Global.{Vec}
use Rattle.dh_base.specs.declared.codes.Refusal.{Refusal}
use Rattle.dh_base.specs.declared.memory.Memory.{Memory}
use Rattle.dh_base.specs.declared.plain.CutKind.{CutKind}
use Rattle.dh_base.specs.declared.plain.CutKind.TheVariants.{Full, Latest}
use Rattle.dh_outside.specs.Faults.{Rose}
use Rattle.dh_changes.specs.declared.change.Change.{Change}
use Rattle.dh_metadata.specs.declared.held.Records.{Records}
use Rattle.change_log.specs.Forms.{WriteFits}
use Rattle.change_log.specs.LogBytes.{log_bytes}
use Rattle.change_log.specs.declared.limits.AppendFault.{AppendFault}
use Rattle.change_log.specs.declared.limits.AppendFault.TheVariants as append
use Rattle.change_log.specs.declared.limits.Limits.{Limits}
use Rattle.change_log.specs.Log.{LogSeen, IsWhole, writes_of}
use Rattle.engine.specs.declared.request.JudgeFault.{JudgeFault}
use Rattle.engine.specs.declared.request.JudgeFault.TheVariants as judge
use Rattle.engine.specs.Requests.{Asked}
use Rattle.engine.specs.declared.request.Judged.{Judged}
use Rattle.engine.specs.declared.updates.LatestUpdate.{LatestUpdate}
use Rattle.engine.specs.declared.updates.Shown.{Shown}
use Rattle.engine.specs.declared.machine.Staged.{Staged}
use Rattle.engine.specs.declared.machine.Report.{Report}
use Rattle.engine.specs.declared.machine.ChangeFault.{ChangeFault}
use Rattle.engine.specs.declared.machine.ChangeFault.TheVariants as change
use Rattle.engine.specs.declared.machine.Cut.{Cut}
use Rattle.engine.specs.declared.machine.CutFault.{CutFault}
use Rattle.engine.specs.declared.machine.CutFault.TheVariants as cut
use Rattle.engine.specs.declared.machine.View.{View}
use Rattle.engine.specs.declared.machine.LookFault.{LookFault}
use Rattle.engine.specs.Histories.{IsInOrder}
use Rattle.engine.specs.Machine.{State, StepBy, IsPutReply, judged_in, change_of, change_lacks, grown, IsCutReply, after_cut, cut_lacks, IsSwapReply}
use Rattle.engine.specs.Machine.{after_swap, swap_lacks, IsLookReply, look_lacks, changes_for, by_kind, kind_of, number_of}
use Rattle.table_build.specs.Listed.{listed_in}
use Rattle.table_build.specs.Slots.{AreSlots}
use Rattle.table_build.specs.declared.slots.Slot.{Slot}
use Rattle.table_sums.specs.YearParts.{YearPart, part_of}
use Rattle.dh_base.specs.declared.limits.TheConstants.{MOST_RECORDS}
use Rattle.table_latest.specs.Latest.{LatestPart}
use Rattle.engine.specs.Tables.{Served, tables_of, years_of}
use Rattle.engine.specs.Stands.{GoesOn, Stands}

-- the machine's state with the tables that it serves and the part of the latest update that is begun, its limits and metadata; of the
-- keeper, how many bytes are acknowledged, those that are kept, where they are known, and how many of its calls failed
pub record Seen : Type 0 where
  pub state : State
  pub tables : Served
  pub part : Option LatestPart
  pub limits : Limits
  pub meta : Records
  pub acknowledged : ℕ
  pub kept : Option (List ℕ)
  pub faults : ℕ

-- the keeper has the bytes of the log, the numbers are in order, and the tables stand for the published changes
pub record IsSound (seen : Seen) : Type 0 where
  pub acknowledged : seen.acknowledged ≡ length (log_bytes seen.state.log)
  pub kept : IfSome seen.kept (λ bytes. bytes ≡ log_bytes seen.state.log)
  pub order : IsInOrder seen.limits seen.state
  pub stands : Stands seen.meta seen.state.log seen.state.base_cut seen.state.published seen.tables

-- what a change does beside its step: it keeps metadata and limits; a keeper that shows its bytes goes on to; only a fault of the
-- store is the keeper's, whose count rose; any other fault leaves all
abbrev pub Brought : Seen → Result Report ChangeFault → Seen → Type 0
Brought old (Ok report) new =
    (new ≡ record old { state = new.state; acknowledged = new.acknowledged; kept = new.kept; faults = new.faults })
    × ((old.faults ≤ new.faults) × (is_some new.kept ≡ is_some old.kept))
Brought old (Err (change.Refused refused)) new = new ≡ old
Brought old (Err (change.LogFull limit)) new = new ≡ old
Brought old (Err change.StoreFault) new = (Rose old.faults new.faults × (old.faults ≤ new.faults)) × (new ≡ record old { faults = new.faults })
Brought old (Err change.Memory) new = new ≡ old

-- what a cut tells of the machine
abbrev pub update_in : Result Cut CutFault → Result Staged CutFault
update_in (Ok found) = Ok (record { ticket = found.ticket; number = found.number })
update_in (Err fault) = Err fault

-- what a look tells of the machine
abbrev pub published_in : Result View LookFault → Result ℕ LookFault
published_in (Ok view) = Ok view.published
published_in (Err fault) = Err fault

-- the years of which parts may be handed in: of a full update those in which the log leaves something
abbrev pub years_for : Records → State → CutKind → List ℤ
years_for meta state kind = by_kind kind (years_of meta state.log) []

-- a cut has the changes from which its tables are made, and their years
pub record IsCutOf (meta : Records) (state : State) (kind : CutKind) (found : Cut) : Type 0 where
  pub kind_is : found.kind ≡ kind
  pub years_are : found.years ≡ years_for meta state kind
  pub changes_are : map arc_value found.changes.items ≡ changes_for state kind
  pub few : length (writes_of (map arc_value found.changes.items)) ≤ MOST_RECORDS
  pub fits : All WriteFits (writes_of (map arc_value found.changes.items))

-- a part is that of its year, of what these changes leave
abbrev pub IsPartOf : Records → List Change → YearPart → Type 0
IsPartOf meta changes part = part ≡ part_of (tables_of meta changes) part.year

-- ---- what a swap makes of the tables

-- the latest part that stays over new yearly parts: where these stand for more changes than are published, none
abbrev pub over_from : ℕ → ℕ → Option LatestPart → Option LatestPart
over_from published number over = if nat_lt published number then None else over

-- a latest update leaves the yearly parts, and lays its part over them; where yearly parts of more changes were published meanwhile, the
-- tables stay
abbrev pub IsLaid : Bool → Option LatestPart → Served → Served → Type 0
IsLaid true part old new = new ≡ old
IsLaid false part old new = (new.base ≡ old.base) × (new.latest ≡ part)

abbrev pub LaysBy : CutKind → ℕ → ℕ → Option LatestPart → Served → Served → Type 0
LaysBy Full published number part old new = new.latest ≡ over_from published number old.latest
LaysBy Latest published number part old new = IsLaid (nat_lt number published) part old new

abbrev pub Lays : State → ℕ → Result ℕ Memory → Option LatestPart → Served → Served → Type 0
Lays state ticket (Ok published) part old new = LaysBy (kind_of state ticket) state.published (number_of state ticket) part old new
Lays state ticket (Err memory) part old new = new ≡ old

-- ---- the part of the latest update that is begun

abbrev pub IsMade : ℕ → ℕ → Option LatestPart → Type 0
IsMade from to None = ⊥
IsMade from to (Some part) = (part.from ≡ from) × (part.to ≡ to)

-- a latest update's cut makes it, of the changes after the base cut
abbrev pub BeginsPart : State → CutKind → Result Staged CutFault → Option LatestPart → Option LatestPart → Type 0
BeginsPart state kind (Err fault) old new = new ≡ old
BeginsPart state Full (Ok update) old new = new ≡ old
BeginsPart state Latest (Ok update) old new = IsMade state.base_cut update.number new

-- the end of the update ends it
abbrev pub part_without : State → ℕ → Option LatestPart → Option LatestPart
part_without state ticket part = by_kind (kind_of state ticket) part None

abbrev pub part_after : State → ℕ → Result ℕ Memory → Option LatestPart → Option LatestPart
part_after state ticket (Ok published) part = part_without state ticket part
part_after state ticket (Err memory) part = part

-- ---- of the parts

-- of a latest update that is begun what the machine tells of it, and its part

abbrev pub staged_latest : Option LatestUpdate → Option Staged
staged_latest latest = option_map (λ (update : LatestUpdate). update.staged) latest

abbrev pub part_in : LatestUpdate → LatestPart
part_in update = arc_value update.part

abbrev pub state_of : List Change → Shown → State
state_of log shown = record {
  log = log;
  published = shown.published;
  base_cut = shown.base_cut;
  ticket = shown.ticket;
  full = shown.full;
  latest = staged_latest shown.latest;
}

abbrev pub seen_of : LogSeen → Records → Shown → Seen
seen_of log meta shown = record {
  state = state_of log.changes shown;
  tables = arc_value shown.tables;
  part = option_map part_in shown.latest;
  limits = log.limits;
  meta = meta;
  acknowledged = log.acknowledged;
  kept = log.kept;
  faults = log.faults;
}

-- the slots that are kept are those of these changes
abbrev pub FitSlots : Records → List Change → Option (Vec Slot) → Type 0
FitSlots meta changes slots = IfSome slots (λ (kept : Vec Slot). AreSlots (listed_in meta (writes_of changes)) kept.items)

-- the parts that were handed in stand for the changes of the full update
abbrev pub HaveSlots : Records → List Change → Shown → Type 0
HaveSlots meta log shown = IfSome shown.full (λ (update : Staged). FitSlots meta (take update.number log) shown.slots)

-- the served tables stand for the published changes; a full update that is begun stands for no fewer changes than the yearly parts, so
-- that a base cut never falls; a latest one goes on from the yearly parts
pub record Shows (meta : Records) (log : List Change) (shown : Shown) : Type 0 where
  pub stands : Stands meta log shown.base_cut shown.published (arc_value shown.tables)
  pub slots : HaveSlots meta log shown
  pub full : IfSome shown.full (λ (update : Staged). shown.base_cut ≤ update.number)
  pub latest : IfSome shown.latest (λ (update : LatestUpdate). GoesOn meta log shown.base_cut update.staged.number (part_in update))

pub record AreParts (log : LogSeen) (meta : Records) (shown : Shown) : Type 0 where
  pub whole : IsWhole log
  pub order : IsInOrder log.limits (state_of log.changes shown)
  pub shows : Shows meta log.changes shown

-- what it does to the log to put a change last
abbrev pub Puts : LogSeen → Change → Judged → Result Report ChangeFault → LogSeen → Type 0
Puts old c found (Ok report) new =
    IsPutReply old.limits old.changes c found (Ok report)
    × ((new.changes ≡ grown old.changes c) × ((new.limits ≡ old.limits) × ((old.faults ≤ new.faults) × (is_some new.kept ≡ is_some old.kept))))
Puts old c found (Err (change.LogFull limit)) new = IsPutReply old.limits old.changes c found (Err (change.LogFull limit)) × (new ≡ old)
Puts old c found (Err change.StoreFault) new =
    IsPutReply old.limits old.changes c found (Err change.StoreFault)
    × (Rose old.faults new.faults × ((old.faults ≤ new.faults) × (new ≡ record old { faults = new.faults })))
Puts old c found (Err (change.Refused refused)) new = ⊥
Puts old c found (Err change.Memory) new = new ≡ old

-- why a change isn't made, by why it isn't appended
abbrev pub log_fault : AppendFault → ChangeFault
log_fault (append.LogFull limit) = change.LogFull limit
log_fault append.StoreFault = change.StoreFault
log_fault append.Memory = change.Memory

-- why a change isn't made, by why its request came to nothing
abbrev pub fault_by : JudgeFault → ChangeFault
fault_by (judge.Refused refused) = change.Refused refused
fault_by judge.Memory = change.Memory

-- what a request does to the log by what it comes to
abbrev pub BringsBy : Records → LogSeen → Asked → Result Judged Refusal → Result Report ChangeFault → LogSeen → Type 0
BringsBy meta old asked (Ok found) result new = Puts old (change_of meta asked found) found result new
BringsBy meta old asked (Err refused) result new = (result ≡ Err (change.Refused refused)) × (new ≡ old)

-- out of memory it leaves the log
abbrev pub BringsIf : Bool → Records → LogSeen → Asked → Result Judged Refusal → Result Report ChangeFault → LogSeen → Type 0
BringsIf true meta old asked found result new = new ≡ old
BringsIf false meta old asked found result new = BringsBy meta old asked found result new

abbrev pub Brings : Records → LogSeen → Asked → Result Report ChangeFault → LogSeen → Type 0
Brings meta old asked result new = BringsIf (change_lacks result) meta old asked (judged_in meta old.changes asked) result new

abbrev pub spent_of : ℕ → ℕ → Option CutFault
spent_of ticket limit = if ticket == limit then Some (cut.UpdatesSpent limit) else None

-- why no update of a kind may be begun
abbrev pub refused_by : Option Staged → ℕ → ℕ → Option CutFault
refused_by (Some update) ticket limit = Some (cut.Busy update.ticket)
refused_by None ticket limit = spent_of ticket limit

-- the steps in which the metadata have no part
abbrev pub Cuts : Limits → State → CutKind → Result Staged CutFault → State → Type 0
Cuts limits old kind reply new = StepBy (cut_lacks reply) (IsCutReply limits old kind reply) (after_cut old kind reply) old new

abbrev pub Swaps : State → ℕ → Result ℕ Memory → State → Type 0
Swaps old ticket reply new = StepBy (swap_lacks reply) (IsSwapReply old ticket reply) (after_swap old ticket reply) old new

abbrev pub Looks : State → ℕ → Result ℕ LookFault → Type 0
Looks state asked reply = StepBy (look_lacks reply) (IsLookReply state asked reply) state state state
