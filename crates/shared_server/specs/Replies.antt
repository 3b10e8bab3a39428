-- Replies over an engine that others use too: the entries that a call adds to the history, and the text by what these answered.
use Rattle.std.specs.Prelude.{◌≡◌, ◌⊎◌, ℕ, Bool, take, List, Option, None, Some, IfOk, Result, Ok, Err}
use Rattle.dh_base.specs.declared.plain.CutKind.{CutKind}
use Rattle.dh_changes.specs.declared.change.Change.{Change}
use Rattle.dh_metadata.specs.declared.held.Records.{Records}
use Rattle.shared_engine.specs.Views.{TokenView}
use Rattle.engine.specs.Requests.{Asked}
use Rattle.engine.specs.Machine.Act.{changed, looked}
use Rattle.engine.specs.MetaAfter.{meta_after}
use Rattle.engine.specs.declared.machine.Report.{Report}
use Rattle.engine.specs.declared.machine.ChangeFault.{ChangeFault}
use Rattle.engine.specs.declared.machine.CutFault.{CutFault}
use Rattle.engine.specs.declared.machine.LookFault.{LookFault}
use Rattle.shared_engine.specs.Calls.{IsCall, IsUpdate}
use Rattle.shared_engine.specs.Entries.{Entry, entries_of}
use Rattle.shared_engine.specs.Histories.{Made, stand_of}
use Rattle.request_replies.specs.Texts.{IsTold, change_text, cut_text, report_reply, update_reply}

-- the log after the history that a caller knows of
abbrev pub log_known : Made → TokenView Entry → List Change
log_known made pass = (stand_of made pass.list).machine.log

-- how many of its changes are published
abbrev pub published_known : Made → TokenView Entry → ℕ
published_known made pass = (stand_of made pass.list).machine.published

-- rights and the tree as the published changes leave them
abbrev pub meta_known : Made → TokenView Entry → Records
meta_known made pass = meta_after made.meta (take (published_known made pass) (log_known made pass))

-- A look at the tables adds its entry. What is told of it is over the log that stands there, which a look leaves; the number of changes
-- that it answers is the one that its caller is told.
pub record LookReply (made : Made) (asked : ℕ) (meant : List Change → Result ℕ LookFault → Option (List ℕ)) (before : TokenView Entry)
    (text : Option (List ℕ)) (now : TokenView Entry) : Type 0 where
  pub found : Result ℕ LookFault
  pub faults : ℕ
  pub call : IsCall made before now (entries_of before.caller (looked asked found) faults)
  pub number : IfOk found (λ published. published ≡ now.told)
  pub tells : IsTold text (meant (log_known made now) found)

-- A change adds its entry, whose reply is told. One that was made has its report: out of memory never stands in its place.
pub record ChangeReply (made : Made) (asked : Asked) (keep : Bool) (before : TokenView Entry) (text : Option (List ℕ)) (now : TokenView Entry) : Type 0
  where
    pub found : Result Report ChangeFault
    pub faults : ℕ
    pub call : IsCall made before now (entries_of before.caller (changed asked found) faults)
    pub tells : IsTold text (change_text keep found)
    pub sure : IfOk found (λ report. text ≡ Some (report_reply keep report))

-- what is told of an update
abbrev pub update_told : Bool → CutKind → Result ℕ CutFault → Option (List ℕ)
update_told keep kind (Ok published) = Some (update_reply published keep kind)
update_told keep kind (Err fault) = cut_text keep fault

-- an update as one call: its cut, and its swap or drop, unless the cut is refused
abbrev pub UpdateCall : Made → TokenView Entry → CutKind → Result ℕ CutFault → TokenView Entry → Type 0
UpdateCall made before kind found now = (entries : List Entry) × IsCall made before now entries × IsUpdate before.caller kind found entries

-- An update adds its cut, and its swap or drop, unless the cut is refused. One that was made has its reply.
pub record UpdateReply (made : Made) (kind : CutKind) (keep : Bool) (before : TokenView Entry) (text : Option (List ℕ)) (now : TokenView Entry) : Type 0
  where
    pub found : Result ℕ CutFault
    pub entries : List Entry
    pub call : IsCall made before now entries
    pub updates : IsUpdate before.caller kind found entries
    pub tells : IsTold text (update_told keep kind found)
    pub sure : IfOk found (λ published. text ≡ Some (update_reply published keep kind))

-- out of memory before the call nothing is told and nothing added
abbrev pub Attempt : (TokenView Entry → Option (List ℕ) → TokenView Entry → Type 0) → TokenView Entry → Option (List ℕ) → TokenView Entry → Type 0
Attempt Reply before text now = ((text ≡ None) × (now ≡ before)) ⊎ Reply before text now
