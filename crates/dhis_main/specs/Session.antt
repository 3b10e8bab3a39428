-- What a run of `session` may do.
use Rattle.std.specs.Prelude.{◌≡◌, ◌⊎◌, ℕ, ℤ, List, IfSome, ⊤}
use Rattle.std.specs.Io.KnownBytes.{Keeps}
use Rattle.dh_outside.specs.Faults.{Rose}
use Rattle.request_session.specs.declared.ended.Ended.{Ended}
use Rattle.request_session.specs.declared.ended.Ended.TheVariants as ended
use Rattle.request_replies.specs.OverFile.{SessionOver, SessionOverAll}
use Rattle.request_replies.specs.SessionText.{WritesOne}
use Rattle.request_replies.specs.declared.over_file.SessionEnd.{SessionEnd}
use Rattle.request_replies.specs.declared.over_file.SessionEnd.TheVariants as end
use Rattle.dhis_main.specs.Shown.{Shown}
use Rattle.dhis_main.specs.declared.status.Outcome.TheVariants as outcome
use Rattle.dhis_main.specs.declared.status.Status.{Status}
use Rattle.dhis_main.specs.declared.status.Status.TheVariants as status

-- how a session ended, as the program's status
abbrev pub status_of : Ended → Status
status_of ended.Closed = status.Done outcome.Ok
status_of ended.Limit = status.Done outcome.RequestLimit
status_of ended.Truncated = status.Done outcome.Truncated
status_of (ended.Refused code) = status.Done outcome.WireRefused
status_of ended.ReadFault = status.ReadFault
status_of ended.WriteFault = status.WriteFault
status_of ended.Memory = status.Memory

-- the same of a session over a metadata file
abbrev pub status_over : SessionEnd → Status
status_over end.Refused = status.Done outcome.MetaRefused
status_over end.Unwritten = status.WriteFault
status_over (end.Ended how) = status_of how
status_over end.Memory = status.Memory

-- a session over the metadata file of that name came to that status; its bytes are those that the folder tells
pub record Came (shows : ℤ → Type 0) (name : List ℕ) (shown : Shown) (came : Status) : Type 0 where
  pub bytes : List ℕ
  pub told : IfSome (shown.files.file name) (λ all. bytes ≡ all)
  pub how : SessionEnd
  pub over : SessionOver shows bytes shown.input.before shown.input.after shown.output.before shown.output.after how
  pub status_is : came ≡ status_over how

-- nothing was read of the input, and nothing was written
abbrev pub IsIdle : Shown → Type 0
IsIdle shown = (shown.input.after ≡ shown.input.before) × Keeps shown.output.before shown.output.after

-- A run that is done is a session over the metadata file. Reading failed only where the folder counted a fault, and then
-- nothing was done, or where the input counted one within the session. Writing failed only where the output counted a
-- fault. If memory runs out the session ended so, or nothing was done.
abbrev pub SessionRuns : (ℤ → Type 0) → List ℕ → Shown → Status → Type 0
SessionRuns shows name shown (status.Done outcome) = Came shows name shown (status.Done outcome)
SessionRuns shows name shown status.ReadFault =
    (Rose shown.files.faults shown.files.faults_after × IsIdle shown)
    ⊎ (Rose shown.input.faults shown.input.faults_after × Came shows name shown status.ReadFault)
SessionRuns shows name shown status.WriteFault =
    Rose shown.output.faults shown.output.faults_after × Came shows name shown status.WriteFault
SessionRuns shows name shown status.Memory = IsIdle shown ⊎ Came shows name shown status.Memory
SessionRuns shows name shown status.ListenFault = ⊥

-- over a file and an input that are told whole, a run that is done is the session over them; and it wrote the one text of both at the
-- moments of its requests, or what goes along it up to a reply which says that memory ran out
abbrev pub SessionAnswers : (ℤ → Type 0) → List ℕ → Shown → Status → Type 0
SessionAnswers shows name shown (status.Done outcome) = IfSome (shown.files.file name) (λ bytes. IfSome shown.input.before (λ all.
    ((how : SessionEnd) × SessionOverAll shows bytes all shown.output.before shown.output.after how × (status.Done outcome ≡ status_over how))
    × WritesOne shows bytes all shown.output.before shown.output.after))
SessionAnswers shows name shown status.ReadFault = ⊤
SessionAnswers shows name shown status.WriteFault = ⊤
SessionAnswers shows name shown status.Memory = ⊤
SessionAnswers shows name shown status.ListenFault = ⊤
