-- The reply to a request over an engine that others use too, and what it does to its caller's pass.
use Rattle.std.specs.Prelude.{◌≡◌, ℕ, ℤ, Bool, List, Option, None, Some, Result, Ok, Err}
use Rattle.dh_base.specs.declared.codes.Refusal.{Refusal}
use Rattle.dh_periods.specs.Moment.{day_of}
use Rattle.shared_engine.specs.Views.{TokenView}
use Rattle.http_wire.specs.declared.request.Request.{Request}
use Rattle.web_routes.specs.Calls.{routed}
use Rattle.web_routes.specs.declared.call.Call.{Call}
use Rattle.web_routes.specs.declared.call.Call.TheVariants as call
use Rattle.engine.specs.declared.request.ChangeRequest.TheVariants.{Values, Completion, Approval, Tracker}
use Rattle.shared_engine.specs.Entries.{Entry}
use Rattle.shared_engine.specs.Histories.{Made}
use Rattle.request_replies.specs.Texts.{text_of, IsTold, refusal_reply}
use Rattle.request_replies.specs.Queries.{look_text}
use Rattle.request_replies.specs.Checks.{check_text, place_of}
use Rattle.request_replies.specs.Changes.{asking}
use Rattle.shared_server.specs.Replies.{meta_known, LookReply, ChangeReply, UpdateReply, Attempt}

-- the reply to a call at a moment
abbrev pub CallReply : Made → ℤ → Call → Bool → TokenView Entry → Option (List ℕ) → TokenView Entry → Type 0
CallReply made moment (call.Query user asked query) keep before text now =
    LookReply made asked (λ log found. look_text made.meta log user query keep found) before text now
CallReply made moment (call.Check user asked checked) keep before text now =
    LookReply made asked (λ log found. check_text made.meta log user (place_of checked) keep found) before text now
CallReply made moment (call.Update kind) keep before text now = Attempt (UpdateReply made kind keep) before text now
CallReply made moment (call.Values user set) keep before text now = ChangeReply made (asking moment user (Values set)) keep before text now
CallReply made moment (call.Completion user list) keep before text now = ChangeReply made (asking moment user (Completion list)) keep before text now
CallReply made moment (call.Approval user act) keep before text now = ChangeReply made (asking moment user (Approval act)) keep before text now
CallReply made moment (call.Tracker user bundle) keep before text now = ChangeReply made (asking moment user (Tracker bundle)) keep before text now

-- a request that is no call is told its refusal, and adds nothing
abbrev pub RoutedReply : Made → ℤ → Result Call Refusal → Bool → TokenView Entry → Option (List ℕ) → TokenView Entry → Type 0
RoutedReply made moment (Ok asked) keep before text now = CallReply made moment asked keep before text now
RoutedReply made moment (Err refused) keep before text now = IsTold text (Some (refusal_reply None keep refused)) × (now ≡ before)

-- the reply to what a request is read as
abbrev pub MeantReply : Made → ℤ → Result Call Refusal → Bool → TokenView Entry → Option (List ℕ) → TokenView Entry → Type 0
MeantReply made moment meant keep before text now = Attempt (RoutedReply made moment meant keep) before text now

-- the reply to a request at a moment; it is read with the rights and the tree that the published changes leave
abbrev pub ReplyAt : Made → ℤ → Request → Bool → TokenView Entry → Option (List ℕ) → TokenView Entry → Type 0
ReplyAt made moment request keep before text now = MeantReply made moment (routed (meta_known made before) (day_of moment) request) keep before text now

-- the text is the reply at a moment that the clock shows, or stands for it out of memory
pub record SharedReply (made : Made) (shows : ℤ → Type 0) (before : TokenView Entry) (request : Request) (keep : Bool) (text : List ℕ)
    (now : TokenView Entry) : Type 0 where
  pub moment : ℤ
  pub shown : shows moment
  pub told : Option (List ℕ)
  pub replies : ReplyAt made moment request keep before told now
  pub text_is : text ≡ text_of keep told
