-- A query's reply depends on what its user sees of the published changes.
use Rattle.std.proofs.Common.{◌≡◌, ◌∙◌, ◌≤◌, ℕ, ℤ, Bool, List, Option, None, Some, Result, Ok, Err, IfOk, IfSome, sym, ap, subst, refl, arith}
use Rattle.dh_base.specs.Codes.{status_of}
use Rattle.dh_base.specs.declared.codes.Code.TheVariants.{F18}
use Rattle.dh_base.specs.declared.codes.Refusal.{Refusal}
use Rattle.dh_base.specs.declared.memory.Memory.{Memory}
use Rattle.http_wire.specs.declared.request.Request.{Request}
use Rattle.dh_periods.specs.Moment.{day_of}
use Rattle.query_answer.specs.Answer.{answer_of}
use Rattle.query_answer.proofs.UnseenLemmas.{answer_of-same}
use Rattle.query_lang.specs.Given.{refusal}
use Rattle.query_lang.specs.declared.plain.Query.{Query}
use Rattle.request_session.specs.Bodies.{error_text}
use Rattle.web_routes.specs.Calls.{routed}
use Rattle.web_routes.specs.declared.call.Call.{Call}
use Rattle.web_routes.specs.declared.call.Call.TheVariants as call
use Rattle.engine.specs.Machine.{Step}
use Rattle.engine.specs.Machine.Act.{looked}
use Rattle.engine.specs.Seen.{Seen}
use Rattle.engine.specs.MetaAfter.{published_meta}
use Rattle.engine.specs.declared.machine.LookFault.{LookFault}
use Rattle.engine.specs.declared.machine.LookFault.TheVariants as look
use Rattle.request_session.specs.Replies.{text_in}
use Rattle.request_session.specs.declared.reply.Reply.{Reply}
use Rattle.request_replies.specs.Texts.{told, IsTold, answer_reply, refusal_reply}
use Rattle.request_replies.specs.Queries.{answer_by, answer_over, look_text, QueryReply}
use Rattle.request_replies.specs.Steps.{ReplyAt, RoutedReply, ReplyStep}
use Rattle.request_replies.specs.Unseen.{published_seen, AsksWithin, DifferInNumber, UnseenStays, UnseenReply, UnseenStep}
use Rattle.request_replies.proofs.CheckLemmas.{unseen_check, some_check}

-- as many changes are published as are asked for, so the look shows the published tables
some-text : (a b : List ℕ) → Some a ≡ Some b → b ≡ a
some-text a b is = cc

shows : (machine : Seen) (user asked : ℕ) (query : Query) (keep : Bool) (text : List ℕ) (found : Result ℕ LookFault) → asked ≤ machine.state.published
    → Step machine.meta machine.limits machine.state (looked asked found) machine.state
    → IsTold (Some text) (look_text machine.meta machine.state.log user query keep found)
    → text ≡ answer_over machine.meta machine.state.log user query keep machine.state.published
shows machine user asked query keep text (Ok published) there step tells =
    some-text (answer_over machine.meta machine.state.log user query keep published) text tells
    ∙ ap (answer_over machine.meta machine.state.log user query keep) step.0.1
shows machine user asked query keep text (Err (look.NotYet published)) there step tells = absurd (let less = step.0.0 in omega arith)
shows machine user asked query keep text (Err look.Memory) there step tells = absurd (cc)

of-query : (machine new : Seen) (moment : ℤ) (user asked : ℕ) (query : Query) (keep : Bool) (text : List ℕ) (meant : Result Call Refusal)
    → meant ≡ Ok (call.Query user asked query)
    → RoutedReply machine moment meant keep (Some text) new → QueryReply machine user asked query keep (Some text)
of-query machine new moment user asked query keep text meant is reply =
    (subst (λ (m : Result Call Refusal). RoutedReply machine moment m keep (Some text) new) is reply).0

-- the reply is the answer over what the user sees
answered : (machine new : Seen) (moment : ℤ) (request : Request) (user asked : ℕ) (query : Query) (keep : Bool) (text : List ℕ)
    → AsksWithin machine moment request user asked query
    → ReplyAt machine moment request keep (Some text) new
    → text ≡ answer_reply machine.state.published keep (answer_of (published_meta machine) query (published_seen machine user))
unfolding answer_over answer_by
answered machine new moment request user asked query keep text asks reply =
    let q = of-query machine new moment user asked query keep text (routed (published_meta machine) (day_of moment) request) asks.routed_is reply in
    shows machine user asked query keep text q.found asks.there q.looks q.tells

differ : (one other : ℕ) (keep : Bool) (answer : Result (List ℕ) (List ℕ))
    → DifferInNumber one other keep (answer_reply one keep answer) (answer_reply other keep answer)
unfolding answer_reply refusal_reply
differ one other keep (Ok body) = record { status = 200; body = body; first = refl; second = refl }
differ one other keep (Err id) = record { status = status_of F18; body = error_text (refusal F18 id); first = refl; second = refl }

-- every reply of a machine that looks alike has its status and body
pub unseen-stays : (one one' : Seen) (moment : ℤ) (request : Request) (keep : Bool) (text : List ℕ) → ReplyAt one moment request keep (Some text) one'
    → UnseenStays one moment request keep text
unseen-stays one one' moment request keep text reply = λ user asked query asks other other' moment' text' alike reply'.
    let routed_is : routed (published_meta other) (day_of moment') request ≡ Ok (call.Query user asked query) =
    ap (λ r. routed r (day_of moment') request) alike.meta ∙ ap (λ d. routed (published_meta one) d request) alike.day ∙ asks.routed_is in
    let asks' : AsksWithin other moment' request user asked query = record { routed_is = routed_is; there = alike.there } in
    let first = answered one one' moment request user asked query keep text asks reply in
    let second = answered other other' moment' request user asked query keep text' asks' reply' in
    let same : answer_of (published_meta other) query (published_seen other user) ≡ answer_of (published_meta one) query (published_seen one user) =
    ap (λ r. answer_of r query (published_seen other user)) alike.meta
    ∙ sym (answer_of-same (published_meta one) query (published_seen one user) (published_seen other user) alike.same) in
    let both = differ one.state.published other.state.published keep (answer_of (published_meta one) query (published_seen one user)) in
    record {
      status = both.status;
      body = both.body;
      first = first ∙ both.first;
      second = second ∙ ap (answer_reply other.state.published keep) same ∙ both.second;
    }

-- what is told at a moment that the clock shows
pub unseen_told : {C : Type 0} (shows : C → ℤ → Type 0) (clock : C) (old new : Seen) (moment : ℤ) (request : Request) (keep : Bool) (r : Result Reply Memory)
    → shows clock moment → ReplyAt old moment request keep (told r) new → IfOk r (λ reply. UnseenReply (shows clock) old request keep (text_in reply) new)
unseen_told shows clock old new moment request keep (Ok reply) shown is =
    record {
      moment = moment;
      shown = shown;
      replies = is;
      unseen = unseen-stays old new moment request keep (text_in reply) is;
      unseen_check = unseen_check old new moment request keep (text_in reply) is;
    }
unseen_told shows clock old new moment request keep (Err e) shown is = tt

some-stays : (one one' : Seen) (moment : ℤ) (request : Request) (keep : Bool) (made : Option (List ℕ)) → ReplyAt one moment request keep made one'
    → IfSome made (UnseenStays one moment request keep)
some-stays one one' moment request keep None reply = tt
some-stays one one' moment request keep (Some text) reply = unseen-stays one one' moment request keep text reply

-- of every step
pub unseen_step : (shows : ℤ → Type 0) (old new : Seen) (request : Request) (keep : Bool) (text : List ℕ) → ReplyStep shows old request keep text new
    → UnseenStep shows old request keep text new
unseen_step shows old new request keep text step = record {
  step = step;
  unseen = some-stays old new step.moment request keep step.made step.replies;
  unseen_check = some_check old new step.moment request keep step.made step.replies;
}
