-- A reply that isn't the one for a lack of memory is the response to the request, if the store has no fault.
use Rattle.std.proofs.Common.{◌≡◌, ◌≢◌, ◌∙◌, ◌≤◌, ◌<◌, inl, inr, ℕ, ℤ, Bool, true, false, nat_le, cond, List, Option, None, Some, Result, Ok, Err}
use Rattle.std.proofs.Common.{sym, ap, subst, refl, arith}
use Rattle.std.specs.Prelude.{◌==◌, decimal, option_map}
use Rattle.std.proofs.lemmas.Bool.Decides.{nat_tests}
use Rattle.dh_base.specs.declared.codes.Code.TheVariants.{F30, F32}
use Rattle.dh_base.specs.declared.codes.Refusal.{Refusal}
use Rattle.dh_base.specs.declared.plain.CutKind.{CutKind}
use Rattle.dh_outside.specs.Faults.{Rose}
use Rattle.dh_periods.specs.Moment.{day_of}
use Rattle.http_wire.specs.declared.request.Request.{Request}
use Rattle.dh_metadata.specs.declared.held.Records.{Records}
use Rattle.change_log.specs.declared.limits.Limits.{Limits}
use Rattle.engine.specs.Requests.{Asked}
use Rattle.engine.specs.declared.request.ChangeRequest.TheVariants.{Values, Completion, Approval, Tracker}
use Rattle.query_lang.specs.Given.{refusal}
use Rattle.query_lang.specs.declared.plain.Query.{Query}
use Rattle.web_routes.specs.Calls.{routed}
use Rattle.web_routes.specs.declared.call.Call.{Call}
use Rattle.web_routes.specs.declared.call.Call.TheVariants as call
use Rattle.engine.specs.Machine.{State, Step, staged_of, after_cut, after_swap}
use Rattle.engine.specs.Machine.Act.{changed, begun, looked}
use Rattle.engine.specs.Seen.{Seen, Brought}
use Rattle.engine.specs.InMemory.{outcome_of, full_refusal}
use Rattle.engine.specs.MetaAfter.{published_meta}
use Rattle.engine.specs.declared.machine.Report.{Report}
use Rattle.engine.specs.declared.machine.Staged.{Staged}
use Rattle.engine.specs.declared.machine.ChangeFault.{ChangeFault}
use Rattle.engine.specs.declared.machine.ChangeFault.TheVariants as change
use Rattle.engine.specs.declared.machine.CutFault.{CutFault}
use Rattle.engine.specs.declared.machine.CutFault.TheVariants as cut
use Rattle.engine.specs.declared.machine.LookFault.{LookFault}
use Rattle.engine.specs.declared.machine.LookFault.TheVariants as look
use Rattle.engine.proofs.LoadLemmas.{loads_report, loads_refusal}
use Rattle.request_replies.specs.Texts.{IsTold, change_text, refusal_reply, update_reply, not_yet_reply}
use Rattle.request_replies.specs.Queries.{answer_over, look_text}
use Rattle.request_replies.specs.Checks.{check_over, check_text, place_of}
use Rattle.request_replies.specs.Changes.{ChangeReply, asking}
use Rattle.validation.specs.declared.place.Place.{Place}
use Rattle.request_replies.specs.Updates.{EndsBySwap, Ends, OwnUpdateReply}
use Rattle.request_replies.specs.Steps.{ReplyAt, RoutedReply}
use Rattle.request_replies.specs.Response.{Response, response_by, change_response, swap_response, update_by}
use Rattle.request_replies.specs.Response.{update_response, query_text, checked_text, routed_response, response_of}

-- this text and this state
abbrev pub Is : Response → List ℕ → State → Type 0
Is r text state = (text ≡ r.text) × (state ≡ r.state)

text-is : (a b : List ℕ) → Some a ≡ Some b → b ≡ a
text-is a b is = cc

-- ---- a change

rose-some : (a b : ℕ) → Rose a b → b ≡ 0 → ⊥
rose-some a b (inl less) none = omega (arith, less, none)
rose-some a b (inr most) none = omega (arith, most, none)

by-outcome : (meta : Records) (limits : Limits) (old : State) (asked : Asked) (keep : Bool) (outcome : Result Report Refusal) (text : List ℕ) (new : State)
    → outcome_of meta limits old.log asked ≡ outcome → Is (response_by meta old asked keep outcome) text new
    → Is (change_response meta limits old asked keep) text new
by-outcome meta limits old asked keep outcome text new found is =
    subst (λ (o : Result Report Refusal). Is (response_by meta old asked keep o) text new) (sym found) is

refused-change : (old new : Seen) (asked : Asked) (keep : Bool) (text : List ℕ) (refused : Refusal)
    → outcome_of old.meta old.limits old.state.log asked ≡ Err refused → new ≡ old → Some (refusal_reply None keep refused) ≡ Some text
    → Is (change_response old.meta old.limits old.state asked keep) text new.state
refused-change old new asked keep text refused found same tells =
    by-outcome old.meta old.limits old.state asked keep (Err refused) text new.state found
    (text-is (refusal_reply None keep refused) text tells, ap (λ (s : Seen). s.state) same)

change-is : (old new : Seen) (asked : Asked) (keep : Bool) (text : List ℕ) (found : Result Report ChangeFault) → new.faults ≡ 0
    → Step old.meta old.limits old.state (changed asked found) new.state → Brought old found new → IsTold (Some text) (change_text keep found)
    → Is (change_response old.meta old.limits old.state asked keep) text new.state
change-is old new asked keep text (Ok report) none step brought tells =
    let loads = loads_report old new asked report step brought none in
    by-outcome old.meta old.limits old.state asked keep (Ok report) text new.state loads.0 (text-is _ text tells, loads.1.0)
change-is old new asked keep text (Err (change.Refused refused)) none step brought tells =
    refused-change old new asked keep text refused (loads_refusal old new asked (change.Refused refused) refused step brought refl).0 brought tells
change-is old new asked keep text (Err (change.LogFull limit)) none step brought tells =
    refused-change old new asked keep text (full_refusal limit)
    (loads_refusal old new asked (change.LogFull limit) (full_refusal limit) step brought refl).0 brought tells
change-is old new asked keep text (Err change.StoreFault) none step brought tells = absurd (rose-some old.faults new.faults brought.0.0 none)
change-is old new asked keep text (Err change.Memory) none step brought tells = absurd (cc)

-- ---- an update

by-update : (limits : Limits) (state : State) (kind : CutKind) (keep : Bool) (staged : Option Staged) (spent : Bool) (text : List ℕ) (new : State)
    → staged_of state kind ≡ staged → (state.ticket == limits.updates) ≡ spent → Is (update_by limits state kind keep staged spent) text new
    → Is (update_response limits state kind keep) text new
by-update limits state kind keep staged spent text new staged_is spent_is is =
    subst (λ (s : Option Staged). Is (update_by limits state kind keep s (state.ticket == limits.updates)) text new) (sym staged_is)
    (subst (λ b. Is (update_by limits state kind keep staged b) text new) (sym spent_is) is)

swap-is : (meta : Records) (limits : Limits) (between new : State) (kind : CutKind) (ticket : ℕ) (keep : Bool) (text : List ℕ)
    → EndsBySwap meta limits kind ticket keep between text new → Is (swap_response between kind ticket keep) text new
swap-is meta limits between new kind ticket keep text ends = (
  ends.tells ∙ ap (λ n. update_reply n keep kind) ends.swaps.0.1,
  ends.swaps.1 ∙ ap (λ n. after_swap between ticket (Ok n)) ends.swaps.0.1,
)

not-equal : (m n : ℕ) → m ≢ n → (m == n) ≡ false
not-equal m n other = grind (arith, nat_tests)

equal : (m n : ℕ) → m ≡ n → (m == n) ≡ true
equal m n same = grind (arith, nat_tests)

begun-is : (meta : Records) (limits : Limits) (old between new : State) (kind : CutKind) (keep : Bool) (update : Staged) (text : List ℕ)
    → Step meta limits old (begun kind (Ok update)) between → EndsBySwap meta limits kind update.ticket keep between text new
    → Is (update_response limits old kind keep) text new
begun-is meta limits old between new kind keep update text step ends =
    by-update limits old kind keep None false text new step.0.0 (not-equal old.ticket limits.updates step.0.1.0)
    (subst (λ (u : Staged). Is (swap_response (after_cut old kind (Ok u)) kind u.ticket keep) text new) step.0.1.1
    (subst (λ (s : State). Is (swap_response s kind update.ticket keep) text new) step.1
    (swap-is meta limits between new kind update.ticket keep text ends)))

busy-is : (limits : Limits) (state : State) (kind : CutKind) (keep : Bool) (staged : Option Staged) (spent : Bool) (ticket : ℕ) (text : List ℕ)
    → option_map (λ (update : Staged). update.ticket) staged ≡ Some ticket → text ≡ refusal_reply None keep (refusal F30 (decimal ticket))
    → Is (update_by limits state kind keep staged spent) text state
busy-is limits state kind keep None spent ticket text is tells = absurd (cc)
busy-is limits state kind keep (Some update) spent ticket text is tells =
    (tells ∙ ap (λ n. refusal_reply None keep (refusal F30 (decimal n))) (let same : ticket ≡ update.ticket = cc in same), refl)

ends-is : (meta : Records) (limits : Limits) (old between new : State) (kind : CutKind) (keep : Bool) (found : Result Staged CutFault) (text : List ℕ)
    → Step meta limits old (begun kind found) between → Ends meta limits kind keep found between (Some text) new
    → Is (update_response limits old kind keep) text new
ends-is meta limits old between new kind keep (Ok update) text step ends = begun-is meta limits old between new kind keep update text step ends.1
ends-is meta limits old between new kind keep (Err (cut.Busy ticket)) text step ends =
    subst (λ (s : State). Is (update_response limits old kind keep) text s) (sym (ends.0 ∙ step.1))
    (busy-is limits old kind keep (staged_of old kind) (old.ticket == limits.updates) ticket text step.0 (text-is _ text ends.1))
ends-is meta limits old between new kind keep (Err (cut.UpdatesSpent limit)) text step ends =
    by-update limits old kind keep None true text new step.0.0 (equal old.ticket limits.updates step.0.1.0)
    (text-is _ text ends.1 ∙ ap (λ n. refusal_reply None keep (refusal F32 (decimal n))) step.0.1.1, ends.0 ∙ step.1)
ends-is meta limits old between new kind keep (Err cut.Memory) text step ends = absurd (let none = ends.1 in cc)

update-is : (old new : Seen) (kind : CutKind) (keep : Bool) (text : List ℕ) → OwnUpdateReply old kind keep (Some text) new
    → Is (update_response old.limits old.state kind keep) text new.state
update-is old new kind keep text u =
    ends-is old.meta old.limits old.state u.between new.state kind keep u.replies.found text u.replies.begins u.replies.ends

-- ---- a query

within : (m n : ℕ) → m ≤ n → nat_le m n ≡ true
within m n less = grind (arith, nat_tests)

beyond : (m n : ℕ) → n < m → nat_le m n ≡ false
beyond m n more = grind (arith, nat_tests)

look-is : (machine : Seen) (user asked : ℕ) (query : Query) (keep : Bool) (text : List ℕ) (found : Result ℕ LookFault)
    → Step machine.meta machine.limits machine.state (looked asked found) machine.state
    → IsTold (Some text) (look_text machine.meta machine.state.log user query keep found)
    → text ≡ query_text machine.meta machine.state user asked query keep
look-is machine user asked query keep text (Ok published) step tells =
    let here = answer_over machine.meta machine.state.log user query keep machine.state.published in
    let later = not_yet_reply machine.state.published keep in
    text-is (answer_over machine.meta machine.state.log user query keep published) text tells
    ∙ ap (answer_over machine.meta machine.state.log user query keep) step.0.1
    ∙ sym (ap (λ b. cond b here later) (within asked machine.state.published step.0.0))
look-is machine user asked query keep text (Err (look.NotYet published)) step tells =
    let here = answer_over machine.meta machine.state.log user query keep machine.state.published in
    let later = not_yet_reply machine.state.published keep in
    text-is (not_yet_reply published keep) text tells ∙ ap (λ n. not_yet_reply n keep) step.0.1
    ∙ sym (ap (λ b. cond b here later) (beyond asked machine.state.published step.0.0))
look-is machine user asked query keep text (Err look.Memory) step tells = absurd (cc)

-- ---- a check

checked-is : (machine : Seen) (user asked : ℕ) (place : Place) (keep : Bool) (text : List ℕ) (found : Result ℕ LookFault)
    → Step machine.meta machine.limits machine.state (looked asked found) machine.state
    → IsTold (Some text) (check_text machine.meta machine.state.log user place keep found)
    → text ≡ checked_text machine.meta machine.state user asked place keep
checked-is machine user asked place keep text (Ok published) step tells =
    let here = check_over machine.meta machine.state.log user place keep machine.state.published in
    let later = not_yet_reply machine.state.published keep in
    text-is (check_over machine.meta machine.state.log user place keep published) text tells
    ∙ ap (check_over machine.meta machine.state.log user place keep) step.0.1
    ∙ sym (ap (λ b. cond b here later) (within asked machine.state.published step.0.0))
checked-is machine user asked place keep text (Err (look.NotYet published)) step tells =
    let here = check_over machine.meta machine.state.log user place keep machine.state.published in
    let later = not_yet_reply machine.state.published keep in
    text-is (not_yet_reply published keep) text tells ∙ ap (λ n. not_yet_reply n keep) step.0.1
    ∙ sym (ap (λ b. cond b here later) (beyond asked machine.state.published step.0.0))
checked-is machine user asked place keep text (Err look.Memory) step tells = absurd (cc)

-- ---- a request

asked-is : (old new : Seen) (asked : Asked) (keep : Bool) (text : List ℕ) → new.faults ≡ 0 → ChangeReply old asked keep (Some text) new
    → Is (change_response old.meta old.limits old.state asked keep) text new.state
asked-is old new asked keep text none reply = change-is old new asked keep text reply.found none reply.steps reply.brought reply.tells

routed-is : (old new : Seen) (moment : ℤ) (keep : Bool) (text : List ℕ) (meant : Result Call Refusal) → new.faults ≡ 0
    → RoutedReply old moment meant keep (Some text) new → Is (routed_response old.meta old.limits old.state moment keep meant) text new.state
routed-is old new moment keep text (Err refused) none reply =
    (text-is (refusal_reply None keep refused) text reply.0, ap (λ (s : Seen). s.state) reply.1)
routed-is old new moment keep text (Ok (call.Query user asked query)) none reply =
    (look-is old user asked query keep text reply.0.found reply.0.looks reply.0.tells, ap (λ (s : Seen). s.state) reply.1)
routed-is old new moment keep text (Ok (call.Check user asked checked)) none reply =
    (checked-is old user asked (place_of checked) keep text reply.0.found reply.0.looks reply.0.tells, ap (λ (s : Seen). s.state) reply.1)
routed-is old new moment keep text (Ok (call.Update kind)) none reply = update-is old new kind keep text reply
routed-is old new moment keep text (Ok (call.Values user set)) none reply = asked-is old new (asking moment user (Values set)) keep text none reply
routed-is old new moment keep text (Ok (call.Completion user list)) none reply = asked-is old new (asking moment user (Completion list)) keep text none reply
routed-is old new moment keep text (Ok (call.Approval user act)) none reply = asked-is old new (asking moment user (Approval act)) keep text none reply
routed-is old new moment keep text (Ok (call.Tracker user bundle)) none reply = asked-is old new (asking moment user (Tracker bundle)) keep text none reply

-- one request has one response
pub reply_is : (old new : Seen) (moment : ℤ) (request : Request) (keep : Bool) (text : List ℕ) → new.faults ≡ 0
    → ReplyAt old moment request keep (Some text) new → Is (response_of old.meta old.limits old.state moment request keep) text new.state
unfolding response_of
reply_is old new moment request keep text none reply =
    routed-is old new moment keep text (routed (published_meta old) (day_of moment) request) none reply
