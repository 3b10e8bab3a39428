-- A change: one step of the machine, and its report.
use Rattle.std.specs.Prelude.{◌≡◌, ℕ, ℤ, Bool, List, Option, Some, IfOk, Result}
use Rattle.dh_changes.specs.declared.outcome.Who.TheVariants.{User}
use Rattle.engine.specs.Requests.{Asked}
use Rattle.engine.specs.declared.request.ChangeRequest.{ChangeRequest}
use Rattle.engine.specs.Machine.{Step}
use Rattle.engine.specs.Machine.Act.{changed}
use Rattle.engine.specs.Seen.{Seen, Brought}
use Rattle.engine.specs.declared.machine.Report.{Report}
use Rattle.engine.specs.declared.machine.ChangeFault.{ChangeFault}
use Rattle.request_replies.specs.Texts.{IsTold, change_text, report_reply}

pub record ChangeReply (old : Seen) (asked : Asked) (keep : Bool) (text : Option (List ℕ)) (new : Seen) : Type 0 where
  pub found : Result Report ChangeFault
  pub steps : Step old.meta old.limits old.state (changed asked found) new.state
  pub brought : Brought old found new
  pub tells : IsTold text (change_text keep found)
  -- a change that was made has its report: out of memory never stands in its place
  pub sure : IfOk found (λ report. text ≡ Some (report_reply keep report))

-- a user asks for it at a moment
abbrev pub asking : ℤ → ℕ → ChangeRequest → Asked
asking moment user request = record { who = User user; moment = moment; request = request }
