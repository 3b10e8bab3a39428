-- What holds after every reply.
use Rattle.std.proofs.Common.{◌≡◌, ◌∙◌, ℕ, ℤ, Bool, true, List, Option, None, Some, Result, Ok, Err, IfOk, ap, arith, refl}
use Rattle.std.specs.Prelude.{if◌then◌else◌}
use Rattle.std.proofs.lemmas.Bool.Decides.{nat_tests}
use Rattle.dh_base.specs.declared.codes.Refusal.{Refusal}
use Rattle.dh_base.specs.declared.plain.CutKind.{CutKind}
use Rattle.dh_base.specs.declared.plain.CutKind.TheVariants.{Full, Latest}
use Rattle.http_wire.specs.declared.request.Request.{Request}
use Rattle.dh_metadata.specs.declared.held.Records.{Records}
use Rattle.change_log.specs.declared.limits.Limits.{Limits}
use Rattle.dh_periods.specs.Moment.{day_of}
use Rattle.web_routes.specs.Calls.{routed}
use Rattle.web_routes.specs.declared.call.Call.{Call}
use Rattle.web_routes.specs.declared.call.Call.TheVariants as call
use Rattle.engine.specs.Requests.{Asked}
use Rattle.engine.specs.Machine.{State, Step, by_kind, staged_of, has_ticket, kind_by, kind_of}
use Rattle.engine.specs.Machine.Act.{changed, begun}
use Rattle.engine.specs.Seen.{Seen, Brought}
use Rattle.engine.specs.MetaAfter.{published_meta}
use Rattle.engine.specs.declared.machine.Staged.{Staged}
use Rattle.engine.specs.declared.machine.Report.{Report}
use Rattle.engine.specs.declared.machine.ChangeFault.{ChangeFault}
use Rattle.engine.specs.declared.machine.ChangeFault.TheVariants as change
use Rattle.engine.specs.declared.machine.CutFault.{CutFault}
use Rattle.engine.specs.declared.machine.CutFault.TheVariants as cut
use Rattle.request_replies.specs.Texts.{report_reply}
use Rattle.request_replies.specs.Updates.{OwnUpdateReply, Ends}
use Rattle.request_replies.specs.Steps.{ReplyAt, RoutedReply, Keeps}

-- no update is begun
abbrev IsFree : State → Type 0
IsFree state = (state.full ≡ None) × (state.latest ≡ None)

same-keeps : (old new : Seen) (made : Option (List ℕ)) → new ≡ old → Keeps old made new
same-keeps old new made is = record {
  meta = ap (λ (s : Seen). s.meta) is;
  limits = ap (λ (s : Seen). s.limits) is;
  faults = let e = ap (λ (s : Seen). s.faults) is in omega arith;
  free = λ f l. (ap (λ (s : Seen). s.state.full) is ∙ f, ap (λ (s : Seen). s.state.latest) is ∙ l);
  log = λ _. ap (λ (s : Seen). s.state.log) is;
  published = λ _. ap (λ (s : Seen). s.state.published) is;
}

change-keeps : (old new : Seen) (asked : Asked) (keep : Bool) (made : Option (List ℕ)) (found : Result Report ChangeFault)
    → Step old.meta old.limits old.state (changed asked found) new.state → Brought old found new → IfOk found (λ report. made ≡ Some (report_reply keep report))
    → Keeps old made new
change-keeps old new asked keep made (Ok report) step brought sure = record {
  meta = ap (λ (s : Seen). s.meta) brought.0;
  limits = ap (λ (s : Seen). s.limits) brought.0;
  faults = brought.1.0;
  free = λ f l. (ap (λ (s : State). s.full) step.1 ∙ f, ap (λ (s : State). s.latest) step.1 ∙ l);
  log = λ none. absurd (cc);
  published = λ _. ap (λ (s : State). s.published) step.1;
}
change-keeps old new asked keep made (Err (change.Refused refused)) step brought sure = same-keeps old new made brought
change-keeps old new asked keep made (Err (change.LogFull limit)) step brought sure = same-keeps old new made brought
change-keeps old new asked keep made (Err change.StoreFault) step brought sure = record {
  meta = ap (λ (s : Seen). s.meta) brought.1;
  limits = ap (λ (s : Seen). s.limits) brought.1;
  faults = brought.0.1;
  free = λ f l. (ap (λ (s : Seen). s.state.full) brought.1 ∙ f, ap (λ (s : Seen). s.state.latest) brought.1 ∙ l);
  log = λ _. ap (λ (s : State). s.log) step.1;
  published = λ _. ap (λ (s : Seen). s.state.published) brought.1;
}
change-keeps old new asked keep made (Err change.Memory) step brought sure = same-keeps old new made brought

refused-cut : (meta : Records) (limits : Limits) (old between : State) (kind : CutKind) (fault : CutFault)
    → Step meta limits old (begun kind (Err fault)) between → between ≡ old
refused-cut meta limits old between kind (cut.Busy ticket) step = step.1
refused-cut meta limits old between kind (cut.UpdatesSpent limit) step = step.1
refused-cut meta limits old between kind cut.Memory step = step

-- the one update that is begun is ended
ended-by : (kind : CutKind) (full latest : Option Staged) → by_kind kind latest full ≡ None
    → (by_kind kind None full ≡ None) × (by_kind kind latest None ≡ None)
ended-by Full full latest is = (refl, is)
ended-by Latest full latest is = (is, refl)

other-is : (meta : Records) (limits : Limits) (old between : State) (kind : CutKind) (update : Staged) → Step meta limits old (begun kind (Ok update)) between
    → IsFree old
    → by_kind kind between.latest between.full ≡ None
other-is meta limits old between Full update step free = ap (λ (s : State). s.latest) step.1 ∙ free.1
other-is meta limits old between Latest update step free = ap (λ (s : State). s.full) step.1 ∙ free.0

same-ticket : (update : Staged) → has_ticket update.ticket (Some update) ≡ true
same-ticket update = grind (arith, nat_tests)

own-kind : (state : State) (kind : CutKind) (update : Staged) → staged_of state kind ≡ Some update → by_kind kind state.latest state.full ≡ None
    → kind_of state update.ticket ≡ kind
own-kind state Full update is none = ap (kind_by update.ticket) is ∙ ap (λ b. if b then Full else Latest) (same-ticket update)
own-kind state Latest update is none = ap (kind_by update.ticket) none

ended-free : (state new : State) (kind : CutKind) (update : Staged) → staged_of state kind ≡ Some update → by_kind kind state.latest state.full ≡ None
    → new.full ≡ by_kind (kind_of state update.ticket) None state.full → new.latest ≡ by_kind (kind_of state update.ticket) state.latest None → IsFree new
ended-free state new kind update is none full latest =
    let k = own-kind state kind update is none in let ended = ended-by kind state.full state.latest none in (
      full ∙ ap (λ x. by_kind x None state.full) k ∙ ended.0,
      latest ∙ ap (λ x. by_kind x state.latest None) k ∙ ended.1,
    )

ends-free : (meta : Records) (limits : Limits) (old between new : State) (kind : CutKind) (keep : Bool) (found : Result Staged CutFault)
    (made : Option (List ℕ))
    → Step meta limits old (begun kind found) between → Ends meta limits kind keep found between made new → IsFree old → IsFree new
ends-free meta limits old between new kind keep (Ok update) (Some text) step ends free =
    ended-free between new kind update ends.0 (other-is meta limits old between kind update step free) (ap (λ (s : State). s.full) ends.1.swaps.1)
    (ap (λ (s : State). s.latest) ends.1.swaps.1)
ends-free meta limits old between new kind keep (Ok update) None step ends free =
    ended-free between new kind update ends.0 (other-is meta limits old between kind update step free) (ap (λ (s : State). s.full) ends.1.1)
    (ap (λ (s : State). s.latest) ends.1.1)
ends-free meta limits old between new kind keep (Err fault) made step ends free =
    let is = ends.0 ∙ refused-cut meta limits old between kind fault step in
    (ap (λ (s : State). s.full) is ∙ free.0, ap (λ (s : State). s.latest) is ∙ free.1)

ends-stays : (meta : Records) (limits : Limits) (old between new : State) (kind : CutKind) (keep : Bool) (found : Result Staged CutFault)
    → Step meta limits old (begun kind found) between → Ends meta limits kind keep found between None new
    → (new.log ≡ old.log) × (new.published ≡ old.published)
ends-stays meta limits old between new kind keep (Ok update) step ends = (
  ap (λ (s : State). s.log) ends.1.1 ∙ ap (λ (s : State). s.log) step.1,
  ap (λ (s : State). s.published) ends.1.1 ∙ ap (λ (s : State). s.published) step.1,
)
ends-stays meta limits old between new kind keep (Err fault) step ends =
    let same = ends.0 ∙ refused-cut meta limits old between kind fault step in
    (ap (λ (s : State). s.log) same, ap (λ (s : State). s.published) same)

update-stays : (old new : Seen) (kind : CutKind) (keep : Bool) (made : Option (List ℕ)) → OwnUpdateReply old kind keep made new → made ≡ None
    → (new.state.log ≡ old.state.log) × (new.state.published ≡ old.state.published)
update-stays old new kind keep None u none =
    ends-stays old.meta old.limits old.state u.between new.state kind keep u.replies.found u.replies.begins u.replies.ends
update-stays old new kind keep (Some text) u none = absurd (cc)

update-keeps : (old new : Seen) (kind : CutKind) (keep : Bool) (made : Option (List ℕ)) → OwnUpdateReply old kind keep made new → Keeps old made new
update-keeps old new kind keep made u = record {
  meta = ap (λ (s : Seen). s.meta) u.same;
  limits = ap (λ (s : Seen). s.limits) u.same;
  faults = let e = ap (λ (s : Seen). s.faults) u.same in omega arith;
  free = λ f l. ends-free old.meta old.limits old.state u.between new.state kind keep u.replies.found made u.replies.begins u.replies.ends (f, l);
  log = λ none. (update-stays old new kind keep made u none).0;
  published = λ none. (update-stays old new kind keep made u none).1;
}

routed-keeps : (old new : Seen) (moment : ℤ) (meant : Result Call Refusal) (keep : Bool) (made : Option (List ℕ)) → RoutedReply old moment meant keep made new
    → Keeps old made new
routed-keeps old new moment (Err refused) keep made reply = same-keeps old new made reply.1
routed-keeps old new moment (Ok (call.Query user asked query)) keep made reply = same-keeps old new made reply.1
routed-keeps old new moment (Ok (call.Check user asked checked)) keep made reply = same-keeps old new made reply.1
routed-keeps old new moment (Ok (call.Update kind)) keep made reply = update-keeps old new kind keep made reply
routed-keeps old new moment (Ok (call.Values user set)) keep made reply = change-keeps old new _ keep made reply.found reply.steps reply.brought reply.sure
routed-keeps old new moment (Ok (call.Completion user list)) keep made reply = change-keeps old new _ keep made reply.found reply.steps reply.brought reply.sure
routed-keeps old new moment (Ok (call.Approval user act)) keep made reply = change-keeps old new _ keep made reply.found reply.steps reply.brought reply.sure
routed-keeps old new moment (Ok (call.Tracker user bundle)) keep made reply = change-keeps old new _ keep made reply.found reply.steps reply.brought reply.sure

pub reply-keeps : (old new : Seen) (moment : ℤ) (request : Request) (keep : Bool) (made : Option (List ℕ)) → ReplyAt old moment request keep made new
    → Keeps old made new
reply-keeps old new moment request keep made reply = routed-keeps old new moment (routed (published_meta old) (day_of moment) request) keep made reply
