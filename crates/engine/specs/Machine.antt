-- The machine: a log of changes, tables that stand for the first changes of the log, and updates of the tables, of which one of each
-- kind may be begun. Each call is one step: in a state it gives a reply and goes on to a state. A call out of memory leaves the state.
use Rattle.std.specs.Prelude.{◌≡◌, ◌≢◌, ◌==◌, ◌<◌, ◌≤◌, ◌+◌, ◌++◌, ◌∷◌, ◌||◌, [], ℕ, Bool, true, false, IsTrue, nat_lt, if◌then◌else◌, max, drop, List}
use Rattle.std.specs.Prelude.{length, Option, None, Some, option_map, Result, Ok, Err}
use Rattle.dh_base.specs.declared.codes.Refusal.{Refusal}
use Rattle.dh_base.specs.declared.memory.Memory.{Memory}
use Rattle.dh_base.specs.declared.plain.CutKind.{CutKind}
use Rattle.dh_base.specs.declared.plain.CutKind.TheVariants.{Full, Latest}
use Rattle.dh_changes.specs.declared.change.Change.{Change}
use Rattle.dh_metadata.specs.declared.held.Records.{Records}
use Rattle.change_log.specs.declared.limits.Limits.{Limits}
use Rattle.change_log.specs.Log.{writes_of, passed}
use Rattle.engine.specs.Requests.{Asked, judged, maker_of}
use Rattle.engine.specs.declared.request.Judged.{Judged}
use Rattle.engine.specs.declared.machine.Report.{Report}
use Rattle.engine.specs.declared.machine.ChangeFault.{ChangeFault}
use Rattle.engine.specs.declared.machine.ChangeFault.TheVariants as change
use Rattle.engine.specs.declared.machine.Staged.{Staged}
use Rattle.engine.specs.declared.machine.CutFault.{CutFault}
use Rattle.engine.specs.declared.machine.CutFault.TheVariants as cut
use Rattle.engine.specs.declared.machine.LookFault.{LookFault}
use Rattle.engine.specs.declared.machine.LookFault.TheVariants as look

pub record State : Type 0 where
  pub log : List Change
  -- how many changes the tables stand for
  pub published : ℕ
  -- how many changes the yearly tables stand for
  pub base_cut : ℕ
  -- the last ticket that was given
  pub ticket : ℕ
  -- the updates that are begun, each with its ticket and with how many changes its tables will stand for
  pub full : Option Staged
  pub latest : Option Staged

abbrev pub start : State
start = record { log = []; published = 0; base_cut = 0; ticket = 0; full = None; latest = None }

-- ---- a change

-- what a request comes to over the log
abbrev pub judged_in : Records → List Change → Asked → Result Judged Refusal
judged_in meta log asked = judged meta (writes_of log) asked

-- the change that it makes where it isn't refused
abbrev pub change_of : Records → Asked → Judged → Change
change_of meta asked found = record { user = maker_of meta asked.who; moment = asked.moment; writes = found.writes }

-- there is something to be written
abbrev pub has_writes : Change → Bool
has_writes change = nat_lt 0 (length change.writes)

-- the log with a change last, if there is something to be written
abbrev pub grown : List Change → Change → List Change
grown log change = if has_writes change then log ++ change ∷ [] else log

-- the limit that the log would pass
abbrev pub stopped : Limits → List Change → Change → Option ℕ
stopped limits log change = if has_writes change then passed limits (log ++ change ∷ []) else None

unfoldable pub report_of : List Change → Change → Judged → Report
report_of log change found = record { body = found.body; status = found.status; number = length (grown log change) }

-- the replies where it isn't refused: between the report and a fault of the store the keeper decides
abbrev pub IsPutReply : Limits → List Change → Change → Judged → Result Report ChangeFault → Type 0
IsPutReply limits log c found (Ok report) = (stopped limits log c ≡ None) × (report ≡ report_of log c found)
IsPutReply limits log c found (Err (change.LogFull limit)) = stopped limits log c ≡ Some limit
IsPutReply limits log c found (Err change.StoreFault) = (stopped limits log c ≡ None) × IsTrue (has_writes c)
IsPutReply limits log c found (Err (change.Refused refused)) = ⊥
IsPutReply limits log c found (Err change.Memory) = ⊥

-- the replies by what the request comes to
abbrev pub IsReplyBy : Records → Limits → List Change → Asked → Result Judged Refusal → Result Report ChangeFault → Type 0
IsReplyBy meta limits log asked (Ok found) reply = IsPutReply limits log (change_of meta asked found) found reply
IsReplyBy meta limits log asked (Err refused) reply = reply ≡ Err (change.Refused refused)

abbrev pub log_by : Records → List Change → Asked → Result Judged Refusal → List Change
log_by meta log asked (Ok found) = grown log (change_of meta asked found)
log_by meta log asked (Err refused) = log

abbrev pub after_change : Records → State → Asked → Result Report ChangeFault → State
after_change meta state asked (Ok report) = record state { log = log_by meta state.log asked (judged_in meta state.log asked) }
after_change meta state asked (Err fault) = state

-- ---- an update: it is begun, and then swapped in or dropped

-- the first of two for a full update, the second for a latest one
abbrev pub by_kind : {X : Type 0} → CutKind → X → X → X
by_kind Full full latest = full
by_kind Latest full latest = latest

-- the update of a kind that is begun
abbrev pub staged_of : State → CutKind → Option Staged
staged_of state kind = by_kind kind state.full state.latest

abbrev pub with_staged : State → CutKind → Option Staged → State
with_staged state kind staged = record state { full = by_kind kind staged state.full; latest = by_kind kind state.latest staged }

abbrev pub IsCutReply : Limits → State → CutKind → Result Staged CutFault → Type 0
IsCutReply limits state kind (Ok update) =
    (staged_of state kind ≡ None) × ((state.ticket ≢ limits.updates) × (update ≡ record { ticket = state.ticket + 1; number = length state.log }))
IsCutReply limits state kind (Err (cut.Busy ticket)) = option_map (λ (update : Staged). update.ticket) (staged_of state kind) ≡ Some ticket
IsCutReply limits state kind (Err (cut.UpdatesSpent limit)) = (staged_of state kind ≡ None) × ((state.ticket ≡ limits.updates) × (limit ≡ limits.updates))
IsCutReply limits state kind (Err cut.Memory) = ⊥

abbrev pub after_cut : State → CutKind → Result Staged CutFault → State
after_cut state kind (Ok update) = with_staged (record state { ticket = update.ticket }) kind (Some update)
after_cut state kind (Err fault) = state

-- the changes from which the tables of an update are made: all, or those that the yearly tables don't stand for
abbrev pub changes_for : State → CutKind → List Change
changes_for state kind = drop (by_kind kind 0 state.base_cut) state.log

abbrev pub has_ticket : ℕ → Option Staged → Bool
has_ticket ticket None = false
has_ticket ticket (Some update) = update.ticket == ticket

abbrev pub kind_by : ℕ → Option Staged → CutKind
kind_by ticket full = if has_ticket ticket full then Full else Latest

-- an update with this ticket is begun
abbrev pub is_begun : State → ℕ → Bool
is_begun state ticket = has_ticket ticket state.full || has_ticket ticket state.latest

-- its kind
abbrev pub kind_of : State → ℕ → CutKind
kind_of state ticket = kind_by ticket state.full

abbrev pub number_in : Option Staged → ℕ
number_in None = 0
number_in (Some update) = update.number

-- and how many changes its tables will stand for
abbrev pub number_of : State → ℕ → ℕ
number_of state ticket = number_in (staged_of state (kind_of state ticket))

-- the greater of what is published and what the update stands for
abbrev pub IsSwapReply : State → ℕ → Result ℕ Memory → Type 0
IsSwapReply state ticket (Ok published) = IsTrue (is_begun state ticket) × (published ≡ max state.published (number_of state ticket))
IsSwapReply state ticket (Err memory) = ⊥

-- only a full update sets how many changes the yearly tables stand for
abbrev pub published_by : State → CutKind → ℕ → ℕ → State
published_by state kind number published = record state { published = published; base_cut = by_kind kind number state.base_cut }

abbrev pub after_swap : State → ℕ → Result ℕ Memory → State
after_swap state ticket (Ok published) = with_staged (published_by state (kind_of state ticket) (number_of state ticket) published) (kind_of state ticket) None
after_swap state ticket (Err memory) = state

abbrev pub after_drop : State → ℕ → State
after_drop state ticket = with_staged state (kind_of state ticket) None

-- ---- a look at the tables

abbrev pub IsLookReply : State → ℕ → Result ℕ LookFault → Type 0
IsLookReply state asked (Ok published) = (asked ≤ state.published) × (published ≡ state.published)
IsLookReply state asked (Err (look.NotYet published)) = (state.published < asked) × (published ≡ state.published)
IsLookReply state asked (Err look.Memory) = ⊥

-- ---- calls with their replies as plain data, and the step that each makes

pub data Act : Type 0 where
  changed : Asked → Result Report ChangeFault → Act
  begun : CutKind → Result Staged CutFault → Act
  swapped : ℕ → Result ℕ Memory → Act
  dropped : ℕ → Act
  looked : ℕ → Result ℕ LookFault → Act

-- the machine may give this reply
abbrev pub IsReply : Records → Limits → State → Act → Type 0
IsReply meta limits state (changed asked reply) = IsReplyBy meta limits state.log asked (judged_in meta state.log asked) reply
IsReply meta limits state (begun kind reply) = IsCutReply limits state kind reply
IsReply meta limits state (swapped ticket reply) = IsSwapReply state ticket reply
IsReply meta limits state (dropped ticket) = IsTrue (is_begun state ticket)
IsReply meta limits state (looked asked reply) = IsLookReply state asked reply

-- the state that the call leaves
abbrev pub next : Records → State → Act → State
next meta state (changed asked reply) = after_change meta state asked reply
next meta state (begun kind reply) = after_cut state kind reply
next meta state (swapped ticket reply) = after_swap state ticket reply
next meta state (dropped ticket) = after_drop state ticket
next meta state (looked asked reply) = state

-- the call answered that memory ran out
abbrev pub change_lacks : Result Report ChangeFault → Bool
change_lacks (Ok report) = false
change_lacks (Err (change.Refused refused)) = false
change_lacks (Err (change.LogFull limit)) = false
change_lacks (Err change.StoreFault) = false
change_lacks (Err change.Memory) = true

abbrev pub cut_lacks : Result Staged CutFault → Bool
cut_lacks (Ok update) = false
cut_lacks (Err (cut.Busy ticket)) = false
cut_lacks (Err (cut.UpdatesSpent limit)) = false
cut_lacks (Err cut.Memory) = true

abbrev pub swap_lacks : Result ℕ Memory → Bool
swap_lacks (Ok published) = false
swap_lacks (Err memory) = true

abbrev pub look_lacks : Result ℕ LookFault → Bool
look_lacks (Ok published) = false
look_lacks (Err (look.NotYet published)) = false
look_lacks (Err look.Memory) = true

abbrev pub lacks_memory : Act → Bool
lacks_memory (changed asked reply) = change_lacks reply
lacks_memory (begun kind reply) = cut_lacks reply
lacks_memory (swapped ticket reply) = swap_lacks reply
lacks_memory (dropped ticket) = false
lacks_memory (looked asked reply) = look_lacks reply

-- out of memory the state stays; else the reply is one that the machine may give, and the state is the next
abbrev pub StepBy : Bool → Type 0 → State → State → State → Type 0
StepBy true reply after old new = new ≡ old
StepBy false reply after old new = reply × (new ≡ after)

-- a call gave this reply and left this state
abbrev pub Step : Records → Limits → State → Act → State → Type 0
Step meta limits old act new = StepBy (lacks_memory act) (IsReply meta limits old act) (next meta old act) old new
