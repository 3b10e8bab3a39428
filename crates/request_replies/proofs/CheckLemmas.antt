-- A check's reply depends on what its user sees of the published changes.
use Rattle.std.proofs.Common.{◌≡◌, ◌∙◌, ◌≤◌, ℕ, ℤ, Bool, List, Option, None, Some, Result, Ok, Err, IfSome, sym, ap, subst, refl, arith}
use Rattle.serde_json.specs.Written.{compact_text}
use Rattle.dh_base.specs.Codes.{status_of}
use Rattle.dh_base.specs.declared.codes.Code.TheVariants.{F18}
use Rattle.dh_base.specs.declared.codes.Refusal.{Refusal}
use Rattle.http_wire.specs.declared.request.Request.{Request}
use Rattle.dh_periods.specs.Moment.{day_of}
use Rattle.dh_metadata.specs.declared.held.Records.{Records}
use Rattle.query_lang.specs.Given.{refusal}
use Rattle.validation.specs.declared.outcome.Violation.{Violation}
use Rattle.validation.specs.declared.place.Place.{Place}
use Rattle.validation.specs.Body.{body_of}
use Rattle.validation.specs.Check.{check_of}
use Rattle.validation.proofs.UnseenLemmas.{check_of-same}
use Rattle.request_session.specs.Bodies.{error_text}
use Rattle.web_routes.specs.Calls.{routed}
use Rattle.web_routes.specs.declared.call.Call.{Call}
use Rattle.web_routes.specs.declared.call.Call.TheVariants as call
use Rattle.web_routes.specs.declared.checked.Checked.{Checked}
use Rattle.engine.specs.Machine.{Step}
use Rattle.engine.specs.Machine.Act.{looked}
use Rattle.engine.specs.Seen.{Seen}
use Rattle.engine.specs.MetaAfter.{published_meta}
use Rattle.engine.specs.declared.machine.LookFault.{LookFault}
use Rattle.engine.specs.declared.machine.LookFault.TheVariants as look
use Rattle.request_replies.specs.Texts.{IsTold, refusal_reply}
use Rattle.request_replies.specs.Checks.{place_of, check_reply, check_by, check_over, check_text, CheckReply}
use Rattle.request_replies.specs.Steps.{ReplyAt, RoutedReply}
use Rattle.request_replies.specs.Unseen.{published_seen, ChecksWithin, DifferInNumber, UnseenCheckStays}

some-text : (a b : List ℕ) → Some a ≡ Some b → b ≡ a
some-text a b is = cc

-- as many changes are published as are asked for, so the look shows the published tables
shows : (machine : Seen) (user asked : ℕ) (place : Place) (keep : Bool) (text : List ℕ) (found : Result ℕ LookFault) → asked ≤ machine.state.published
    → Step machine.meta machine.limits machine.state (looked asked found) machine.state
    → IsTold (Some text) (check_text machine.meta machine.state.log user place keep found)
    → text ≡ check_over machine.meta machine.state.log user place keep machine.state.published
shows machine user asked place keep text (Ok published) there step tells =
    some-text (check_over machine.meta machine.state.log user place keep published) text tells
    ∙ ap (check_over machine.meta machine.state.log user place keep) step.0.1
shows machine user asked place keep text (Err (look.NotYet published)) there step tells = absurd (let less = step.0.0 in omega arith)
shows machine user asked place keep text (Err look.Memory) there step tells = absurd (cc)

of-check : (machine new : Seen) (moment : ℤ) (user asked : ℕ) (checked : Checked) (keep : Bool) (text : List ℕ) (meant : Result Call Refusal)
    → meant ≡ Ok (call.Check user asked checked)
    → RoutedReply machine moment meant keep (Some text) new → CheckReply machine user asked (place_of checked) keep (Some text)
of-check machine new moment user asked checked keep text meant is reply =
    (subst (λ (m : Result Call Refusal). RoutedReply machine moment m keep (Some text) new) is reply).0

-- the reply is that of the check over what the user sees
answered : (machine new : Seen) (moment : ℤ) (request : Request) (user asked : ℕ) (checked : Checked) (keep : Bool) (text : List ℕ)
    → ChecksWithin machine moment request user asked checked
    → ReplyAt machine moment request keep (Some text) new
    → text ≡ check_reply (published_meta machine) machine.state.published keep
    (check_of (published_meta machine) user (published_seen machine user) (place_of checked))
unfolding check_over check_by
answered machine new moment request user asked checked keep text asks reply =
    let q = of-check machine new moment user asked checked keep text (routed (published_meta machine) (day_of moment) request) asks.routed_is reply in
    shows machine user asked (place_of checked) keep text q.found asks.there q.looks q.tells

differ : (r : Records) (one other : ℕ) (keep : Bool) (found : Result (List Violation) (List ℕ))
    → DifferInNumber one other keep (check_reply r one keep found) (check_reply r other keep found)
unfolding check_reply refusal_reply
differ r one other keep (Ok violations) = record { status = 200; body = compact_text (body_of r violations); first = refl; second = refl }
differ r one other keep (Err id) = record { status = status_of F18; body = error_text (refusal F18 id); first = refl; second = refl }

-- every reply of a machine that looks alike has its status and body
pub unseen_check : (one one' : Seen) (moment : ℤ) (request : Request) (keep : Bool) (text : List ℕ) → ReplyAt one moment request keep (Some text) one'
    → UnseenCheckStays one moment request keep text
unseen_check one one' moment request keep text reply = λ user asked checked asks other other' moment' text' alike reply'.
    let routed_is : routed (published_meta other) (day_of moment') request ≡ Ok (call.Check user asked checked) =
    ap (λ r. routed r (day_of moment') request) alike.meta ∙ ap (λ d. routed (published_meta one) d request) alike.day ∙ asks.routed_is in
    let asks' : ChecksWithin other moment' request user asked checked = record { routed_is = routed_is; there = alike.there } in
    let first = answered one one' moment request user asked checked keep text asks reply in
    let second = answered other other' moment' request user asked checked keep text' asks' reply' in
    let same : check_of (published_meta one) user (published_seen other user) (place_of checked)
    ≡ check_of (published_meta one) user (published_seen one user) (place_of checked) =
    sym (check_of-same (published_meta one) user (published_seen one user) (published_seen other user) (place_of checked) alike.same) in
    let both = differ (published_meta one) one.state.published other.state.published keep
    (check_of (published_meta one) user (published_seen one user) (place_of checked)) in
    record {
      status = both.status;
      body = both.body;
      first = first ∙ both.first;
      second =
          second
          ∙ ap (λ r. check_reply r other.state.published keep (check_of r user (published_seen other user) (place_of checked))) alike.meta
          ∙ ap (check_reply (published_meta one) other.state.published keep) same
          ∙ both.second;
    }

pub some_check : (one one' : Seen) (moment : ℤ) (request : Request) (keep : Bool) (made : Option (List ℕ)) → ReplyAt one moment request keep made one'
    → IfSome made (UnseenCheckStays one moment request keep)
some_check one one' moment request keep None reply = tt
some_check one one' moment request keep (Some text) reply = unseen_check one one' moment request keep text reply
