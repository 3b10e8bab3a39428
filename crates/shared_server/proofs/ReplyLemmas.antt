-- Replies to calls, and to what a request is read as.
use Rattle.std.proofs.Common.{◌≡◌, ◌<◌, inl, inr, ℕ, ℤ, Bool, List, [], length, Option, None, Some, Result, Ok, IfOk, take, sym, subst, ap, refl}
use Rattle.dh_base.specs.Memory.{IsCause}
use Rattle.dh_base.specs.declared.codes.Refusal.{Refusal}
use Rattle.dh_base.specs.declared.plain.CutKind.{CutKind}
use Rattle.dh_changes.specs.declared.change.Change.{Change}
use Rattle.dh_metadata.specs.declared.held.Records.{Records}
use Rattle.shared_engine.specs.Views.{TokenView}
use Rattle.web_routes.specs.declared.call.Call.{Call}
use Rattle.web_routes.specs.Calls.{routed}
use Rattle.dh_periods.specs.Moment.{day_of}
use Rattle.http_wire.specs.declared.request.Request.{Request}
use Rattle.engine.specs.Requests.{Asked}
use Rattle.request_session.specs.Replies.{text_in}
use Rattle.request_session.specs.declared.reply.Reply.{Reply}
use Rattle.engine.specs.Machine.Act.{changed}
use Rattle.engine.specs.MetaAfter.{meta_after}
use Rattle.engine.specs.declared.machine.Report.{Report}
use Rattle.engine.specs.declared.machine.ChangeFault.{ChangeFault}
use Rattle.engine.specs.declared.machine.CutFault.{CutFault}
use Rattle.engine.proofs.AfterLemmas.{user_before}
use Rattle.shared_engine.specs.Calls.{IsCall, IsUpdate}
use Rattle.shared_engine.specs.Entries.{Entry, entries_of}
use Rattle.shared_engine.specs.Histories.{Made}
use Rattle.request_replies.specs.Texts.{told, IsTold, Refuses, change_text, report_reply, update_reply}
use Rattle.shared_server.specs.Replies.{ChangeReply, UpdateReply, log_known, published_known, update_told}
use Rattle.shared_server.specs.Steps.{CallReply, RoutedReply, MeantReply, ReplyAt}

-- ---- changes and updates

pub change_replied : (made : Made) (before now : TokenView Entry) (asked : Asked) (keep : Bool) (found : Result Report ChangeFault) (text : Option (List ℕ))
    → ((faults : ℕ) × IsCall made before now (entries_of before.caller (changed asked found) faults))
    → IsTold text (change_text keep found) → IfOk found (λ report. text ≡ Some (report_reply keep report))
    → ChangeReply made asked keep before text now
change_replied made before now asked keep found text call tells sure =
    record { found = found; faults = call.0; call = call.1; tells = tells; sure = sure }

pub update_replied : (made : Made) (before now : TokenView Entry) (kind : CutKind) (keep : Bool) (found : Result ℕ CutFault) (text : Option (List ℕ))
    → ((entries : List Entry) × IsCall made before now entries × IsUpdate before.caller kind found entries)
    → IsTold text (update_told keep kind found) → IfOk found (λ published. text ≡ Some (update_reply published keep kind))
    → UpdateReply made kind keep before text now
update_replied made before now kind keep found text call tells sure =
    record { found = found; entries = call.0; call = call.1; updates = call.2; tells = tells; sure = sure }

pub update_sure : (kind : CutKind) (keep : Bool) (published : ℕ) (reply : Reply) → text_in reply ≡ update_reply published keep kind
    → told (Ok reply) ≡ Some (update_reply published keep kind)
update_sure kind keep published reply is = ap Some is

-- ---- calls

-- a user of the metadata after the changes is one of the metadata
pub user_made : (made : Made) (after : Records) (user : ℕ) → ((log : List Change) → after ≡ meta_after made.meta log) → user < length after.users
    → user < length made.meta.users
user_made made after user is below =
    user_before made.meta [] user (subst (λ (r : Records). user < length r.users) (is []) below)

-- a call's reply is that of the call which it is, at the moment
pub call_replied : (made : Made) (moment at : ℤ) (asked meant : Call) (keep : Bool) (before now : TokenView Entry) (text : Option (List ℕ)) → asked ≡ meant
    → at ≡ moment → CallReply made at meant keep before text now → CallReply made moment asked keep before text now
call_replied made moment at asked meant keep before now text is when replied =
    subst (λ (k : Call). CallReply made moment k keep before text now) (sym is)
    (subst (λ (m : ℤ). CallReply made m meant keep before text now) when replied)

-- ---- what a request is read as

pub of_call : (made : Made) (moment : ℤ) (meant : Result Call Refusal) (asked : Call) (keep : Bool) (before now : TokenView Entry) (text : Option (List ℕ))
    → meant ≡ Ok asked → CallReply made moment asked keep before text now → MeantReply made moment meant keep before text now
of_call made moment meant asked keep before now text is reply =
    inr (subst (λ (m : Result Call Refusal). RoutedReply made moment m keep before text now) (sym is) reply)

-- a request that is no call is refused for its cause
pub of_fault : (made : Made) (moment : ℤ) (meant : Result Call Refusal) (cause : Option Refusal) (keep : Bool) (pass : TokenView Entry)
    (text : Option (List ℕ)) → IsCause meant cause → Refuses keep cause text → MeantReply made moment meant keep pass text pass
of_fault made moment meant None keep pass text is none = inl (none, refl)
of_fault made moment meant (Some refused) keep pass text is refuses =
    inr (subst (λ (m : Result Call Refusal). RoutedReply made moment m keep pass text pass) (sym is) (refuses, refl))

-- the same at a moment, where it is read over the metadata as the published changes leave them
pub at_known : (made : Made) (moment : ℤ) (request : Request) (keep : Bool) (before now : TokenView Entry) (text : Option (List ℕ)) (meta : Records)
    → ((log : List Change) → meta ≡ meta_after made.meta log) → MeantReply made moment (routed meta (day_of moment) request) keep before text now
    → ReplyAt made moment request keep before text now
at_known made moment request keep before now text meta is reply =
    subst (λ (r : Records). MeantReply made moment (routed r (day_of moment) request) keep before text now)
    (is (take (published_known made before) (log_known made before))) reply
