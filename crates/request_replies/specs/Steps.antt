-- The reply to a request, and what it does to the machine.
use Rattle.std.specs.Prelude.{◌≡◌, ◌≤◌, ℕ, ℤ, Bool, List, Option, None, Some, Result, Ok, Err}
use Rattle.dh_base.specs.declared.codes.Refusal.{Refusal}
use Rattle.http_wire.specs.declared.request.Request.{Request}
use Rattle.dh_periods.specs.Moment.{day_of}
use Rattle.web_routes.specs.Calls.{routed}
use Rattle.web_routes.specs.declared.call.Call.{Call}
use Rattle.web_routes.specs.declared.call.Call.TheVariants as call
use Rattle.change_log.specs.Log.{NeverFails}
use Rattle.engine.specs.Seen.{Seen, IsSound}
use Rattle.engine.specs.MetaAfter.{published_meta}
use Rattle.engine.specs.declared.request.ChangeRequest.TheVariants.{Values, Completion, Approval, Tracker}
use Rattle.request_replies.specs.Texts.{text_of, IsTold, refusal_reply}
use Rattle.request_replies.specs.Queries.{QueryReply}
use Rattle.request_replies.specs.Checks.{CheckReply, place_of}
use Rattle.request_replies.specs.Changes.{ChangeReply, asking}
use Rattle.request_replies.specs.Updates.{OwnUpdateReply}

-- the reply to a call at a moment
abbrev pub CallReply : Seen → ℤ → Call → Bool → Option (List ℕ) → Seen → Type 0
CallReply old moment (call.Query user asked query) keep text new = QueryReply old user asked query keep text × (new ≡ old)
CallReply old moment (call.Check user asked checked) keep text new = CheckReply old user asked (place_of checked) keep text × (new ≡ old)
CallReply old moment (call.Update kind) keep text new = OwnUpdateReply old kind keep text new
CallReply old moment (call.Values user set) keep text new = ChangeReply old (asking moment user (Values set)) keep text new
CallReply old moment (call.Completion user list) keep text new = ChangeReply old (asking moment user (Completion list)) keep text new
CallReply old moment (call.Approval user act) keep text new = ChangeReply old (asking moment user (Approval act)) keep text new
CallReply old moment (call.Tracker user bundle) keep text new = ChangeReply old (asking moment user (Tracker bundle)) keep text new

-- a request that is no call is told its refusal
abbrev pub RoutedReply : Seen → ℤ → Result Call Refusal → Bool → Option (List ℕ) → Seen → Type 0
RoutedReply old moment (Ok asked) keep text new = CallReply old moment asked keep text new
RoutedReply old moment (Err refused) keep text new = IsTold text (Some (refusal_reply None keep refused)) × (new ≡ old)

-- the reply to a request at a moment; it is read with the rights and the tree that the published changes leave
abbrev pub ReplyAt : Seen → ℤ → Request → Bool → Option (List ℕ) → Seen → Type 0
ReplyAt old moment request keep text new = RoutedReply old moment (routed (published_meta old) (day_of moment) request) keep text new

-- the text is the reply at a moment that the clock shows, or stands for it out of memory
pub record ReplyStep (shows : ℤ → Type 0) (old : Seen) (request : Request) (keep : Bool) (text : List ℕ) (new : Seen) : Type 0 where
  pub moment : ℤ
  pub shown : shows moment
  pub made : Option (List ℕ)
  pub replies : ReplyAt old moment request keep made new
  pub text_is : text ≡ text_of keep made

-- A step of a machine that answers by a clock, over keepers that count their faults: its reply is one that it may give, and the clock
-- stays; it stays sound; and with keepers that never fail the count of faults stays at 0.
pub record MachineStep {K C : Type 0} (count : K → ℕ) (shows : C → ℤ
    → Type 0) (before after : C) (old : Seen) (request : Request) (keep : Bool) (text : List ℕ) (new : Seen) : Type 0 where
  pub replies : ReplyStep (shows before) old request keep text new
  pub clock : after ≡ before
  pub sound : IsSound old → IsSound new
  pub sure : NeverFails count → old.faults ≡ 0 → new.faults ≡ 0

-- What holds after every reply: metadata and limits stay, the keeper's count of faults doesn't fall, no update is left begun, and out of
-- memory the log stays, and so do the tables that are published.
pub record Keeps (old : Seen) (made : Option (List ℕ)) (new : Seen) : Type 0 where
  pub meta : new.meta ≡ old.meta
  pub limits : new.limits ≡ old.limits
  pub faults : old.faults ≤ new.faults
  pub free : old.state.full ≡ None → old.state.latest ≡ None → (new.state.full ≡ None) × (new.state.latest ≡ None)
  pub log : made ≡ None → new.state.log ≡ old.state.log
  pub published : made ≡ None → new.state.published ≡ old.state.published
