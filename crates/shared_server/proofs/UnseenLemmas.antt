-- The reply to a query or a check depends on what its user sees of the changes that are published in the history of its look.
use Rattle.std.proofs.Common.{◌≡◌, ◌∙◌, ◌≤◌, ◌<◌, ◌++◌, ◌∷◌, [], ℕ, ℤ, Bool, List, None, Some, Result, Ok, Err, IfOk, sym, ap, subst, refl, arith, ⊎_elim}
use Rattle.dh_base.specs.Codes.{status_of}
use Rattle.dh_base.specs.declared.codes.Code.TheVariants.{F18}
use Rattle.dh_base.specs.declared.codes.Refusal.{Refusal}
use Rattle.dh_metadata.specs.declared.held.Records.{Records}
use Rattle.dh_periods.specs.Moment.{day_of}
use Rattle.query_lang.specs.Given.{refusal}
use Rattle.query_lang.specs.declared.plain.Query.{Query}
use Rattle.query_answer.specs.Answer.{answer_of}
use Rattle.query_answer.proofs.UnseenLemmas.{answer_of-same}
use Rattle.validation.specs.declared.outcome.Violation.{Violation}
use Rattle.validation.specs.declared.place.Place.{Place}
use Rattle.validation.specs.Check.{check_of}
use Rattle.validation.proofs.UnseenLemmas.{check_of-same}
use Rattle.web_routes.specs.Calls.{routed}
use Rattle.web_routes.specs.declared.call.Call.{Call}
use Rattle.web_routes.specs.declared.call.Call.TheVariants as call
use Rattle.web_routes.specs.declared.checked.Checked.{Checked}
use Rattle.engine.specs.Machine.Act.{looked}
use Rattle.engine.specs.declared.machine.LookFault.{LookFault}
use Rattle.engine.specs.declared.machine.LookFault.TheVariants as look
use Rattle.request_session.specs.Bodies.{error_text}
use Rattle.shared_engine.specs.Calls.{IsCall}
use Rattle.shared_engine.specs.Entries.{Entry, Stand, entries_of}
use Rattle.shared_engine.specs.Histories.{Made, begin, stand_of, IsLegal}
use Rattle.shared_engine.specs.Unseen.{published_meta, published_seen}
use Rattle.shared_engine.specs.Views.{TokenView}
use Rattle.shared_engine.proofs.Growth.{after_both, legal_rest}
use Rattle.request_replies.specs.Texts.{IsTold, answer_reply, refusal_reply}
use Rattle.request_replies.specs.Queries.{answer_by, answer_over, look_text}
use Rattle.request_replies.specs.Checks.{place_of, check_reply, check_by, check_over, check_text}
use Rattle.request_replies.specs.Unseen.{DifferInNumber}
use Rattle.shared_server.specs.Replies.{log_known, meta_known, published_known}
use Rattle.shared_server.specs.Steps.{CallReply, RoutedReply, MeantReply}
use Rattle.shared_server.specs.Unseen.{IsReply, Stays, UnseenStays}

-- ---- a look

some-text : (a b : List ℕ) → Some a ≡ Some b → b ≡ a
some-text a b is = cc

-- a look that is refused finds fewer changes published than are asked for
too-few : (made : Made) (before now : TokenView Entry) (asked published faults : ℕ)
    → IsCall made before now (entries_of before.caller (looked asked (Err (look.NotYet published))) faults) → published_known made now < asked
too-few made before now asked published faults call =
    let entry : Entry = record { caller = before.caller; act = looked asked (Err (look.NotYet published)); faults = faults } in
    let earlier : List Entry = call.last.0 in
    let ends : now.list ≡ earlier ++ entry ∷ [] = call.last.1 in
    let right = (legal_rest made.meta made.limits (begin made.opening) earlier (entry ∷ [])
    (subst (λ (l : List Entry). IsLegal made l) ends call.legal)).0 in
    let after : published_known made now ≡ (stand_of made earlier).machine.published =
    ap (λ (l : List Entry). (stand_of made l).machine.published) ends
    ∙ ap (λ (s : Stand). s.machine.published) (after_both made.meta (begin made.opening) earlier (entry ∷ [])) in
    let less : (stand_of made earlier).machine.published < asked = right.reply.0 in
    omega (arith, after, less)

-- the reply to what a request is read as, if it was told
replied : (made : Made) (moment : ℤ) (meant : Result Call Refusal) (asked : Call) (keep : Bool) (before now : TokenView Entry) (text : List ℕ) → meant ≡ Ok asked
    → MeantReply made moment meant keep before (Some text) now → CallReply made moment asked keep before (Some text) now
replied made moment meant asked keep before now text is reply =
    ⊎_elim
    (λ none. absurd (let no : Some text ≡ None = none.0 in cc))
    (λ (some : RoutedReply made moment meant keep before (Some text) now).
    subst (λ (m : Result Call Refusal). RoutedReply made moment m keep before (Some text) now) is some)
    reply

-- ---- a query

query-found : (made : Made) (before now : TokenView Entry) (user asked : ℕ) (query : Query) (keep : Bool) (text : List ℕ) (found : Result ℕ LookFault)
    (faults : ℕ) → asked ≤ published_known made now → IsCall made before now (entries_of before.caller (looked asked found) faults)
    → IfOk found (λ published. published ≡ now.told) → IsTold (Some text) (look_text made.meta (log_known made now) user query keep found)
    → text ≡ answer_over made.meta (log_known made now) user query keep (published_known made now)
query-found made before now user asked query keep text (Ok published) faults there call number tells =
    some-text (answer_over made.meta (log_known made now) user query keep published) text tells
    ∙ ap (answer_over made.meta (log_known made now) user query keep) (number ∙ call.told)
query-found made before now user asked query keep text (Err (look.NotYet published)) faults there call number tells =
    absurd (let less = too-few made before now asked published faults call in omega (arith, less, there))
query-found made before now user asked query keep text (Err look.Memory) faults there call number tells = absurd (cc)

query-told : (made : Made) (user asked : ℕ) (query : Query) (keep : Bool) (text : List ℕ) (now : TokenView Entry) → asked ≤ published_known made now
    → IsReply made (call.Query user asked query) keep text now
    → text ≡ answer_reply (published_known made now) keep (answer_of (published_meta made now.list) query (published_seen made now.list user))
unfolding answer_over answer_by
query-told made user asked query keep text now there is =
    let reply = replied made is.moment (routed (meta_known made is.before) (day_of is.moment) is.request) (call.Query user asked query) keep is.before now text
    is.read is.replies in
    query-found made is.before now user asked query keep text reply.found reply.faults there reply.call reply.number reply.tells

query-differ : (one other : ℕ) (keep : Bool) (answer : Result (List ℕ) (List ℕ))
    → DifferInNumber one other keep (answer_reply one keep answer) (answer_reply other keep answer)
unfolding answer_reply refusal_reply
query-differ one other keep (Ok body) = record { status = 200; body = body; first = refl; second = refl }
query-differ one other keep (Err id) = record { status = status_of F18; body = error_text (refusal F18 id); first = refl; second = refl }

query-stays : (made : Made) (user asked : ℕ) (query : Query) → Stays made user asked (call.Query user asked query)
query-stays made user asked query other keep text text' now now' one two alike =
    let first = query-told made user asked query keep text now alike.there one in
    let second = query-told other user asked query keep text' now' alike.there' two in
    let same : answer_of (published_meta other now'.list) query (published_seen other now'.list user) ≡ answer_of (published_meta made now.list) query (published_seen made now.list user) =
    ap (λ r. answer_of r query (published_seen other now'.list user)) alike.alike.meta
    ∙ sym (answer_of-same (published_meta made now.list) query (published_seen made now.list user) (published_seen other now'.list user) alike.alike.same) in
    let both = query-differ (published_known made now) (published_known other now') keep
    (answer_of (published_meta made now.list) query (published_seen made now.list user)) in record {
      status = both.status;
      body = both.body;
      first = first ∙ both.first;
      second = second ∙ ap (answer_reply (published_known other now') keep) same ∙ both.second;
    }

-- ---- a check

check-found : (made : Made) (before now : TokenView Entry) (user asked : ℕ) (place : Place) (keep : Bool) (text : List ℕ) (found : Result ℕ LookFault)
    (faults : ℕ) → asked ≤ published_known made now → IsCall made before now (entries_of before.caller (looked asked found) faults)
    → IfOk found (λ published. published ≡ now.told) → IsTold (Some text) (check_text made.meta (log_known made now) user place keep found)
    → text ≡ check_over made.meta (log_known made now) user place keep (published_known made now)
check-found made before now user asked place keep text (Ok published) faults there call number tells =
    some-text (check_over made.meta (log_known made now) user place keep published) text tells
    ∙ ap (check_over made.meta (log_known made now) user place keep) (number ∙ call.told)
check-found made before now user asked place keep text (Err (look.NotYet published)) faults there call number tells =
    absurd (let less = too-few made before now asked published faults call in omega (arith, less, there))
check-found made before now user asked place keep text (Err look.Memory) faults there call number tells = absurd (cc)

check-told : (made : Made) (user asked : ℕ) (checked : Checked) (keep : Bool) (text : List ℕ) (now : TokenView Entry) → asked ≤ published_known made now
    → IsReply made (call.Check user asked checked) keep text now
    → text ≡ check_reply (published_meta made now.list) (published_known made now) keep
    (check_of (published_meta made now.list) user (published_seen made now.list user) (place_of checked))
unfolding check_over check_by
check-told made user asked checked keep text now there is =
    let reply = replied made is.moment (routed (meta_known made is.before) (day_of is.moment) is.request) (call.Check user asked checked) keep is.before now text
    is.read is.replies in
    check-found made is.before now user asked (place_of checked) keep text reply.found reply.faults there reply.call reply.number reply.tells

check-differ : (meta : Records) (one other : ℕ) (keep : Bool) (found : Result (List Violation) (List ℕ))
    → DifferInNumber one other keep (check_reply meta one keep found) (check_reply meta other keep found)
unfolding check_reply refusal_reply
check-differ meta one other keep (Ok violations) = record { status = 200; body = _; first = refl; second = refl }
check-differ meta one other keep (Err id) = record { status = status_of F18; body = error_text (refusal F18 id); first = refl; second = refl }

check-stays : (made : Made) (user asked : ℕ) (checked : Checked) → Stays made user asked (call.Check user asked checked)
check-stays made user asked checked other keep text text' now now' one two alike =
    let first = check-told made user asked checked keep text now alike.there one in
    let second = check-told other user asked checked keep text' now' alike.there' two in
    let same : check_of (published_meta made now.list) user (published_seen other now'.list user) (place_of checked)
    ≡ check_of (published_meta made now.list) user (published_seen made now.list user) (place_of checked) =
    sym (check_of-same (published_meta made now.list) user (published_seen made now.list user) (published_seen other now'.list user) (place_of checked) alike.alike.same) in
    let both = check-differ (published_meta made now.list) (published_known made now) (published_known other now') keep
    (check_of (published_meta made now.list) user (published_seen made now.list user) (place_of checked)) in record {
      status = both.status;
      body = both.body;
      first = first ∙ both.first;
      second =
          second
          ∙ ap (λ r. check_reply r (published_known other now') keep (check_of r user (published_seen other now'.list user) (place_of checked))) alike.alike.meta
          ∙ ap (check_reply (published_meta made now.list) (published_known other now') keep) same
          ∙ both.second;
    }

-- what a user doesn't see changes no reply
pub unseen : (made : Made) → UnseenStays made
unseen made = record { queries = query-stays made; checks = check-stays made }
