-- What a request comes to if memory suffices and the store has no fault: one reply, and one state of the machine after it.
use Rattle.std.specs.Prelude.{◌+◌, ◌==◌, ℕ, ℤ, Bool, true, false, nat_le, cond, max, take, List, length, decimal, Option, None, Some, Result, Ok, Err}
use Rattle.dh_base.specs.declared.codes.Code.TheVariants.{F30, F32}
use Rattle.dh_base.specs.declared.codes.Refusal.{Refusal}
use Rattle.dh_base.specs.declared.plain.CutKind.{CutKind}
use Rattle.dh_periods.specs.Moment.{day_of}
use Rattle.http_wire.specs.declared.request.Request.{Request}
use Rattle.dh_metadata.specs.declared.held.Records.{Records}
use Rattle.change_log.specs.declared.limits.Limits.{Limits}
use Rattle.engine.specs.Requests.{Asked}
use Rattle.engine.specs.declared.request.ChangeRequest.TheVariants.{Values, Completion, Approval, Tracker}
use Rattle.query_lang.specs.Given.{refusal}
use Rattle.query_lang.specs.declared.plain.Query.{Query}
use Rattle.web_routes.specs.Calls.{routed}
use Rattle.web_routes.specs.declared.call.Call.{Call}
use Rattle.web_routes.specs.declared.call.Call.TheVariants as call
use Rattle.engine.specs.Machine.{State, judged_in, log_by, staged_of, after_cut, number_of, after_swap}
use Rattle.engine.specs.InMemory.{outcome_of}
use Rattle.engine.specs.MetaAfter.{meta_after}
use Rattle.engine.specs.declared.machine.Report.{Report}
use Rattle.engine.specs.declared.machine.Staged.{Staged}
use Rattle.request_replies.specs.Texts.{refusal_reply, report_reply, update_reply, not_yet_reply}
use Rattle.request_replies.specs.Queries.{answer_over}
use Rattle.request_replies.specs.Changes.{asking}
use Rattle.request_replies.specs.Checks.{check_over, place_of}
use Rattle.validation.specs.declared.place.Place.{Place}

-- a reply, and the state after it
pub record Response : Type 0 where
  pub text : List ℕ
  pub state : State

abbrev pub response : List ℕ → State → Response
response text state = record { text = text; state = state }

-- ---- a change: its report, and the log grows by it, or its refusal

abbrev pub response_by : Records → State → Asked → Bool → Result Report Refusal → Response
response_by meta state asked keep (Ok report) =
    response (report_reply keep report) (record state { log = log_by meta state.log asked (judged_in meta state.log asked) })
response_by meta state asked keep (Err refused) = response (refusal_reply None keep refused) state

abbrev pub change_response : Records → Limits → State → Asked → Bool → Response
change_response meta limits state asked keep = response_by meta state asked keep (outcome_of meta limits state.log asked)

-- ---- an update: it is begun and then swapped in, unless one of its kind is begun already or no ticket is left

-- the update that is begun
abbrev pub next_update : State → Staged
next_update state = record { ticket = state.ticket + 1; number = length state.log }

-- how many changes are published once the update with this ticket is swapped in
abbrev pub number_after : State → ℕ → ℕ
number_after state ticket = max state.published (number_of state ticket)

abbrev pub swap_response : State → CutKind → ℕ → Bool → Response
swap_response state kind ticket keep =
    response (update_reply (number_after state ticket) keep kind) (after_swap state ticket (Ok (number_after state ticket)))

-- by the update of the kind that is begun already, and whether all tickets are given
abbrev pub update_by : Limits → State → CutKind → Bool → Option Staged → Bool → Response
update_by limits state kind keep (Some update) spent = response (refusal_reply None keep (refusal F30 (decimal update.ticket))) state
update_by limits state kind keep None true = response (refusal_reply None keep (refusal F32 (decimal limits.updates))) state
update_by limits state kind keep None false =
    swap_response (after_cut state kind (Ok (next_update state))) kind (next_update state).ticket keep

abbrev pub update_response : Limits → State → CutKind → Bool → Response
update_response limits state kind keep = update_by limits state kind keep (staged_of state kind) (state.ticket == limits.updates)

-- ---- a query: the answer over the published tables, or that too few changes are published; the state stays

abbrev pub query_text : Records → State → ℕ → ℕ → Query → Bool → List ℕ
query_text meta state user asked query keep =
    cond (nat_le asked state.published) (answer_over meta state.log user query keep state.published) (not_yet_reply state.published keep)

-- ---- a check: the same

abbrev pub checked_text : Records → State → ℕ → ℕ → Place → Bool → List ℕ
checked_text meta state user asked place keep =
    cond (nat_le asked state.published) (check_over meta state.log user place keep state.published) (not_yet_reply state.published keep)

-- ---- a call, or the refusal of a request that is none

abbrev pub call_response : Records → Limits → State → ℤ → Bool → Call → Response
call_response meta limits state moment keep (call.Query user asked query) = response (query_text meta state user asked query keep) state
call_response meta limits state moment keep (call.Check user asked checked) =
    response (checked_text meta state user asked (place_of checked) keep) state
call_response meta limits state moment keep (call.Update kind) = update_response limits state kind keep
call_response meta limits state moment keep (call.Values user set) = change_response meta limits state (asking moment user (Values set)) keep
call_response meta limits state moment keep (call.Completion user list) = change_response meta limits state (asking moment user (Completion list)) keep
call_response meta limits state moment keep (call.Approval user act) = change_response meta limits state (asking moment user (Approval act)) keep
call_response meta limits state moment keep (call.Tracker user bundle) = change_response meta limits state (asking moment user (Tracker bundle)) keep

abbrev pub routed_response : Records → Limits → State → ℤ → Bool → Result Call Refusal → Response
routed_response meta limits state moment keep (Ok asked) = call_response meta limits state moment keep asked
routed_response meta limits state moment keep (Err refused) = response (refusal_reply None keep refused) state

-- what a request comes to at a moment, over metadata and within limits; it is read with the rights and the tree that the published
-- changes leave
unfoldable pub response_of : Records → Limits → State → ℤ → Request → Bool → Response
response_of meta limits state moment request keep =
    routed_response meta limits state moment keep (routed (meta_after meta (take state.published state.log)) (day_of moment) request)
