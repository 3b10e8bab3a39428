-- What a user doesn't see of the published changes leaves the replies to the user's queries and checks, and so does the order of what the
-- user sees.
use Rattle.std.specs.Prelude.{◌≡◌, ◌≤◌, ℕ, ℤ, Bool, List, Some, Ok}
use Rattle.dh_periods.specs.Moment.{day_of}
use Rattle.http_wire.specs.declared.request.Request.{Request}
use Rattle.query_lang.specs.declared.plain.Query.{Query}
use Rattle.web_routes.specs.Calls.{routed}
use Rattle.web_routes.specs.declared.call.Call.{Call}
use Rattle.web_routes.specs.declared.call.Call.TheVariants as call
use Rattle.web_routes.specs.declared.checked.Checked.{Checked}
use Rattle.shared_engine.specs.Entries.{Entry}
use Rattle.shared_engine.specs.Histories.{Made}
use Rattle.shared_engine.specs.Unseen.{LookAlike}
use Rattle.shared_engine.specs.Views.{TokenView}
use Rattle.request_replies.specs.Unseen.{DifferInNumber}
use Rattle.shared_server.specs.Replies.{meta_known, published_known}
use Rattle.shared_server.specs.Steps.{ReplyAt}

-- A reply to this call: a request is read as it, by what its caller knew before, and is answered by this text; after it the caller knows this.
pub record IsReply (made : Made) (asked : Call) (keep : Bool) (text : List ℕ) (now : TokenView Entry) : Type 0 where
  pub moment : ℤ
  pub request : Request
  pub before : TokenView Entry
  pub read : routed (meta_known made before) (day_of moment) request ≡ Ok asked
  pub replies : ReplyAt made moment request keep before (Some text) now

-- what two callers know looks alike to a user, and in each as many changes are published as are asked for
pub record Agree (made other : Made) (now now' : TokenView Entry) (user asked : ℕ) : Type 0 where
  pub there : asked ≤ published_known made now
  pub there' : asked ≤ published_known other now'
  pub alike : LookAlike made other now.list now'.list user

-- two replies to this call, of one system or of two, have the same status and body, if what is known after them looks alike to the user
abbrev pub Stays : Made → ℕ → ℕ → Call → Type 0
Stays made user asked call =
    (other : Made) (keep : Bool) (text text' : List ℕ) (now now' : TokenView Entry) → IsReply made call keep text now → IsReply other call keep text' now'
    → Agree made other now now' user asked → DifferInNumber (published_known made now) (published_known other now') keep text text'

-- this is so of each query of a user, and of each check
pub record UnseenStays (made : Made) : Type 0 where
  pub queries : (user asked : ℕ) (query : Query) → Stays made user asked (call.Query user asked query)
  pub checks : (user asked : ℕ) (checked : Checked) → Stays made user asked (call.Check user asked checked)
