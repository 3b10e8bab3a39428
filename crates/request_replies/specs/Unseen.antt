-- What a user doesn't see of the published changes leaves the user's replies, and so does the order of what the user sees.
use Rattle.std.specs.Prelude.{◌≡◌, ◌≤◌, ℕ, ℤ, Bool, List, take, None, Some, IfSome, Ok}
use Rattle.http_wire.specs.declared.request.Request.{Request}
use Rattle.dh_periods.specs.Moment.{day_of}
use Rattle.query_lang.specs.declared.plain.Query.{Query}
use Rattle.cell_values.specs.Seen.{SeenRecords, SameSeen, seen_of}
use Rattle.web_routes.specs.Calls.{routed}
use Rattle.web_routes.specs.declared.call.Call.TheVariants as call
use Rattle.web_routes.specs.declared.checked.Checked.{Checked}
use Rattle.request_session.specs.Replies.{reply_text}
use Rattle.engine.specs.Seen.{Seen}
use Rattle.engine.specs.Tables.{tables_of}
use Rattle.engine.specs.MetaAfter.{published_meta}
use Rattle.request_replies.specs.Steps.{ReplyAt, ReplyStep}

-- what a user sees of the tables that are published
abbrev pub published_seen : Seen → ℕ → SeenRecords
published_seen machine user = seen_of (published_meta machine) user (tables_of machine.meta (take machine.state.published machine.state.log))

-- at this moment the request is a user's query, and as many changes are published as it asks for
pub record AsksWithin (machine : Seen) (moment : ℤ) (request : Request) (user asked : ℕ) (query : Query) : Type 0 where
  pub routed_is : routed (published_meta machine) (day_of moment) request ≡ Ok (call.Query user asked query)
  pub there : asked ≤ machine.state.published

-- the same of a user's check
pub record ChecksWithin (machine : Seen) (moment : ℤ) (request : Request) (user asked : ℕ) (checked : Checked) : Type 0 where
  pub routed_is : routed (published_meta machine) (day_of moment) request ≡ Ok (call.Check user asked checked)
  pub there : asked ≤ machine.state.published

-- another machine at a moment of the same day: what each has published leaves the same metadata with the same rights and tree; it too has
-- published as many changes as are asked for, and the user sees the same of what each has published, in whatever order it stands
pub record LookAlike (one other : Seen) (moment moment' : ℤ) (user asked : ℕ) : Type 0 where
  pub meta : published_meta other ≡ published_meta one
  pub day : day_of moment' ≡ day_of moment
  pub there : asked ≤ other.state.published
  pub same : SameSeen (published_seen one user) (published_seen other user)

-- the same status and body: the replies differ in no more than the number of changes that their heads say are published
pub record DifferInNumber (published published' : ℕ) (keep : Bool) (text text' : List ℕ) : Type 0 where
  pub status : ℕ
  pub body : List ℕ
  pub first : text ≡ reply_text status (Some published) None keep body
  pub second : text' ≡ reply_text status (Some published') None keep body

-- Where the request is a user's query, every reply that a machine which looks alike may give to it has the status and the body of
-- this text.
abbrev pub UnseenStays : Seen → ℤ → Request → Bool → List ℕ → Type 0
UnseenStays one moment request keep text =
    (user asked : ℕ) (query : Query) → AsksWithin one moment request user asked query
    → (other other' : Seen) (moment' : ℤ) (text' : List ℕ) → LookAlike one other moment moment' user asked
    → ReplyAt other moment' request keep (Some text') other'
    → DifferInNumber one.state.published other.state.published keep text text'

-- the same where the request is a user's check
abbrev pub UnseenCheckStays : Seen → ℤ → Request → Bool → List ℕ → Type 0
UnseenCheckStays one moment request keep text =
    (user asked : ℕ) (checked : Checked) → ChecksWithin one moment request user asked checked
    → (other other' : Seen) (moment' : ℤ) (text' : List ℕ) → LookAlike one other moment moment' user asked
    → ReplyAt other moment' request keep (Some text') other'
    → DifferInNumber one.state.published other.state.published keep text text'

-- the text is the reply at a moment that the clock shows, and nothing that the user doesn't see changes it
pub record UnseenReply (shows : ℤ → Type 0) (old : Seen) (request : Request) (keep : Bool) (text : List ℕ) (new : Seen) : Type 0 where
  pub moment : ℤ
  pub shown : shows moment
  pub replies : ReplyAt old moment request keep (Some text) new
  pub unseen : UnseenStays old moment request keep text
  pub unseen_check : UnseenCheckStays old moment request keep text

-- A step of the machine; if its reply isn't that for a lack of memory, nothing that the user doesn't see changes it.
pub record UnseenStep (shows : ℤ → Type 0) (old : Seen) (request : Request) (keep : Bool) (text : List ℕ) (new : Seen) : Type 0 where
  pub step : ReplyStep shows old request keep text new
  pub unseen : IfSome step.made (UnseenStays old step.moment request keep)
  pub unseen_check : IfSome step.made (UnseenCheckStays old step.moment request keep)
