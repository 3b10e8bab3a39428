-- A connection over an engine that others use too.
use Rattle.std.specs.Prelude.{◌≡◌, ℕ, ℤ, Bool, List}
use Rattle.shared_engine.specs.Views.{TokenView}
use Rattle.http_wire.specs.declared.request.Request.{Request}
use Rattle.shared_engine.specs.Entries.{Entry}
use Rattle.shared_engine.specs.Histories.{Made}
use Rattle.shared_server.specs.Steps.{SharedReply}

-- the most requests that a connection answers
abbrev pub most_requests : ℕ
most_requests = 1000000

-- a step of what answers by a clock for the caller of a pass that is lent: the clock stays, and so does what is lent
pub record LentStep {C : Type 0} (made : Made) (shows : C → ℤ → Type 0) (before now : TokenView Entry) (name name' : ℕ) (clock clock' : C) (request : Request)
    (keep : Bool) (text : List ℕ) : Type 0 where
  pub replies : SharedReply made (shows clock) before request keep text now
  pub clock_is : clock' ≡ clock
  pub lent : name' ≡ name
