-- A machine whose log is kept in memory alone: its store has no fault, so what a change comes to is a function.
use Rattle.std.specs.Prelude.{◌≡◌, ℕ, ℤ, List, Option, None, Some, Result, Ok, Err}
use Rattle.std.specs.Fmt.{decimal}
use Rattle.dh_base.specs.declared.codes.Code.TheVariants.{F22}
use Rattle.dh_base.specs.declared.codes.Refusal.{Refusal}
use Rattle.dh_base.specs.declared.memory.Memory.{Memory}
use Rattle.dh_changes.specs.declared.change.Change.{Change}
use Rattle.dh_metadata.specs.declared.held.Records.{Records}
use Rattle.dh_changes.specs.declared.outcome.Who.TheVariants.{Loader}
use Rattle.change_log.specs.declared.limits.Limits.{Limits}
use Rattle.engine.specs.Requests.{Asked}
use Rattle.engine.specs.declared.request.ChangeRequest.{ChangeRequest}
use Rattle.engine.specs.declared.request.Judged.{Judged}
use Rattle.engine.specs.declared.machine.Report.{Report}
use Rattle.engine.specs.declared.machine.ChangeFault.{ChangeFault}
use Rattle.engine.specs.declared.machine.ChangeFault.TheVariants as change
use Rattle.engine.specs.Machine.{start, judged_in, change_of, stopped, report_of, log_by}
use Rattle.engine.specs.Seen.{Seen}
use Rattle.engine.specs.Tables.{no_tables}
use Rattle.dh_base.specs.declared.limits.TheConstants.{MOST_RECORDS, MOST_LOG_BYTES, MOST_UPDATES}

-- the largest limits that a log may have
abbrev pub largest : Limits
largest = record { writes = MOST_RECORDS; bytes = MOST_LOG_BYTES; updates = MOST_UPDATES }

-- the machine before the first call: no change is there, and no fault of the store
abbrev pub started : Records → Seen
started meta = record { state = start; tables = no_tables; part = None; limits = largest; meta = meta; acknowledged = 0; kept = None; faults = 0 }

-- what the loader asks for, at a moment
abbrev pub loading : ℤ → ChangeRequest → Asked
loading moment request = record { who = Loader; moment = moment; request = request }

-- a log that is full at this limit refuses the change
abbrev pub full_refusal : ℕ → Refusal
full_refusal limit = record { code = F22; detail = decimal limit }

-- by the limit that the log would pass
abbrev pub outcome_within : List Change → Change → Judged → Option ℕ → Result Report Refusal
outcome_within log change found (Some limit) = Err (full_refusal limit)
outcome_within log change found None = Ok (report_of log change found)

-- by what the request comes to
abbrev pub outcome_by : Records → Limits → List Change → Asked → Result Judged Refusal → Result Report Refusal
outcome_by meta limits log asked (Ok found) =
    outcome_within log (change_of meta asked found) found (stopped limits log (change_of meta asked found))
outcome_by meta limits log asked (Err refused) = Err refused

-- the report on a change, or its refusal
unfoldable pub outcome_of : Records → Limits → List Change → Asked → Result Report Refusal
outcome_of meta limits log asked = outcome_by meta limits log asked (judged_in meta log asked)

-- the refusal that a fault of a change is; a store in memory has no fault
abbrev pub IsRefusalBy : ChangeFault → Refusal → Type 0
IsRefusalBy (change.Refused refused) refusal = refusal ≡ refused
IsRefusalBy (change.LogFull limit) refusal = refusal ≡ full_refusal limit
IsRefusalBy change.StoreFault refusal = ⊥
IsRefusalBy change.Memory refusal = ⊥

-- loading: the log grows by the change exactly if it isn't refused
abbrev pub Loads : Seen → Asked → Result (Result Report Refusal) Memory → Seen → Type 0
Loads old asked (Ok (Ok report)) new =
    (outcome_of old.meta old.limits old.state.log asked ≡ Ok report)
    × ((new.state ≡ record old.state { log = log_by old.meta old.state.log asked (judged_in old.meta old.state.log asked) })
    × ((new.meta ≡ old.meta) × ((new.limits ≡ old.limits) × (new.faults ≡ 0))))
Loads old asked (Ok (Err refused)) new = (outcome_of old.meta old.limits old.state.log asked ≡ Err refused) × (new ≡ old)
Loads old asked (Err memory) new = new ≡ old
