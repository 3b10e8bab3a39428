-- An update is two steps: it is cut, and then swapped in, or dropped out of memory; the published tables then stay. Other calls may come
-- between the two.
use Rattle.std.specs.Prelude.{◌≡◌, ℕ, Bool, List, Option, None, Some, Result, Ok, Err}
use Rattle.dh_base.specs.declared.plain.CutKind.{CutKind}
use Rattle.dh_metadata.specs.declared.held.Records.{Records}
use Rattle.change_log.specs.declared.limits.Limits.{Limits}
use Rattle.engine.specs.Machine.{State, Step, staged_of}
use Rattle.engine.specs.Machine.Act.{begun, swapped, dropped}
use Rattle.engine.specs.Seen.{Seen}
use Rattle.engine.specs.declared.machine.Staged.{Staged}
use Rattle.engine.specs.declared.machine.CutFault.{CutFault}
use Rattle.request_replies.specs.Texts.{IsTold, cut_text, update_reply}

-- the update is swapped in; the reply has the number that is then published
pub record EndsBySwap (meta : Records) (limits : Limits) (kind : CutKind) (ticket : ℕ) (keep : Bool) (later : State) (text : List ℕ) (new : State) : Type 0
  where
    pub published : ℕ
    pub swaps : Step meta limits later (swapped ticket (Ok published)) new
    pub tells : text ≡ update_reply published keep kind

-- how an update ends, from a state in which it is begun
abbrev pub EndsUpdate : Records → Limits → CutKind → ℕ → Bool → State → Option (List ℕ) → State → Type 0
EndsUpdate meta limits kind ticket keep later (Some text) new = EndsBySwap meta limits kind ticket keep later text new
EndsUpdate meta limits kind ticket keep later None new = Step meta limits later (dropped ticket) new

-- by what the cut answered; an update that isn't begun ends where it stands
abbrev pub Ends : Records → Limits → CutKind → Bool → Result Staged CutFault → State → Option (List ℕ) → State → Type 0
Ends meta limits kind keep (Ok update) later text new = (staged_of later kind ≡ Some update) × EndsUpdate meta limits kind update.ticket keep later text new
Ends meta limits kind keep (Err fault) later text new = (new ≡ later) × IsTold text (cut_text keep fault)

-- the cut goes from one state to the next, and the end from a later state, in which the update is still begun, to a last one
pub record UpdateReply (meta : Records) (limits : Limits) (kind : CutKind) (keep : Bool) (old between later : State) (text : Option (List ℕ)) (new : State) :
    Type 0 where
  pub found : Result Staged CutFault
  pub begins : Step meta limits old (begun kind found) between
  pub ends : Ends meta limits kind keep found later text new

-- a single caller ends its update in the state that the cut left
pub record OwnUpdateReply (old : Seen) (kind : CutKind) (keep : Bool) (text : Option (List ℕ)) (new : Seen) : Type 0 where
  pub between : State
  pub replies : UpdateReply old.meta old.limits kind keep old.state between between text new.state
  pub same : new ≡ record old { state = new.state; tables = new.tables; part = new.part }
