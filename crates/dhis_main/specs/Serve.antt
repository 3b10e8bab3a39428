-- What a run of `serve` may do.
use Rattle.std.specs.Prelude.{◌≡◌, ◌≤◌, ◌+◌, ◌++◌, ◌⊎◌, ℕ, List, Option, Ok, IfSome, length, true}
use Rattle.std.specs.List.{AllZip}
use Rattle.std.specs.Option.{option_map}
use Rattle.std.specs.Io.KnownBytes.{Appends, Keeps}
use Rattle.dh_outside.specs.Faults.{Rose}
use Rattle.dh_metadata.specs.declared.held.Records.{Records}
use Rattle.meta_reader.specs.Read.{IsMetadata}
use Rattle.net_doors.specs.Doors as doors
use Rattle.net_doors.specs.declared.ending.Ending.TheVariants as ending
use Rattle.request_replies.specs.OverFile.{IsRefused}
use Rattle.request_session.specs.Session.{AppendsFront}
use Rattle.shared_engine.specs.Entries.{Entry}
use Rattle.shared_engine.specs.Histories.{Made, IsLegal}
use Rattle.shared_engine.specs.Views.{TokenView}
use Rattle.shared_server.specs.Links.{Answers, IsHistoryOf, IsMadeFor, Serves}
use Rattle.shared_server.specs.Unseen.{UnseenStays}
use Rattle.shared_server.specs.OverFile.{served_line, IsIdle}
use Rattle.shared_server.specs.declared.over_file.ServeEnd.{ServeEnd}
use Rattle.shared_server.specs.declared.over_file.ServeEnd.TheVariants as end
use Rattle.dhis_main.specs.Shown.{Side, Folder}
use Rattle.dhis_main.specs.declared.status.Outcome.TheVariants as outcome
use Rattle.dhis_main.specs.declared.status.Status.{Status}
use Rattle.dhis_main.specs.declared.status.Status.TheVariants as status

-- The listener accepted so many links more: as many as are wanted, or it is closed. Where it tells the links given back, so many were given
-- back, in order; each of them had come with nothing read or written, and was answered, over one system made for the metadata. This has one
-- legal history, which is that of the links' callers and of nobody else. What a user doesn't see of the published changes changes no reply to
-- the user's queries and checks.
pub record ServesAll {N : Type 0} (Untouched : N → Type 0) (Answered : Made → TokenView Entry → N → N → Type 0) (before after : doors.Shown N)
    (meta : Records) (most count : ℕ) : Type 0 where
  pub accepted : after.accepted ≡ before.accepted + count
  pub few : count ≤ most
  pub ends : (count ≡ most) ⊎ (after.closed ≡ true)
  pub made : Made
  pub made_for : IsMadeFor meta made
  pub whole : List Entry
  pub legal : IsLegal made whole
  pub back : List N
  pub many : length back ≡ count
  pub told : after.back ≡ option_map (λ links. links ++ back) before.back
  pub callers : List (TokenView Entry)
  pub answered : AllZip (Answers Untouched (Answered made)) back callers
  pub theirs : IsHistoryOf callers whole
  pub unseen : UnseenStays made

-- how a server ended, as the program's status
abbrev pub status_by : ServeEnd → Status
status_by end.Refused = status.Done outcome.MetaRefused
status_by end.Unwritten = status.WriteFault
status_by (end.Served count) = status.Done outcome.Ok
status_by end.ListenFault = status.ListenFault
status_by end.Memory = status.Memory

-- the bytes of a file are those that are told of it, and this holds of them
abbrev pub OverFile : Option (List ℕ) → (List ℕ → Type 0) → Type 0
OverFile told Holds = (bytes : List ℕ) × IfSome told (λ all. bytes ≡ all) × Holds bytes

-- the bytes are metadata of which this holds
abbrev pub OverMetadata : (Records → Type 0) → List ℕ → Type 0
OverMetadata Holds bytes = (meta : Records) × IsMetadata bytes (Ok meta) × Holds meta

-- A run that is done served all its links and wrote how many, or wrote why the metadata are refused; then the listener wasn't called, and
-- neither was it where reading the file failed. Listening or accepting failed only where the listener counted a fault; then nothing was
-- written, and no link was accepted or all that were are answered. Writing failed only where the output counted a fault. If memory ran
-- out the listener wasn't called, or all links were served, and nothing was written.
abbrev pub ServeRuns : {N : Type 0} → (N → Type 0) → (Made → TokenView Entry → N → N → Type 0) → ℕ → List ℕ → Folder → Side → doors.Shown N → doors.Shown N
    → Status → Type 0
ServeRuns Untouched Answered most name files output before after (status.Done outcome.Ok) =
    OverFile (files.file name) (OverMetadata (λ meta. (count : ℕ) × ServesAll Untouched Answered before after meta most count
    × Appends output.before output.after (served_line count)))
ServeRuns Untouched Answered most name files output before after (status.Done outcome.MetaRefused) =
    OverFile (files.file name) (λ bytes. IsRefused bytes (Appends output.before output.after)) × (after ≡ before)
ServeRuns Untouched Answered most name files output before after (status.Done outcome.Usage) = ⊥
ServeRuns Untouched Answered most name files output before after (status.Done outcome.QueryRefused) = ⊥
ServeRuns Untouched Answered most name files output before after (status.Done outcome.DataRefused) = ⊥
ServeRuns Untouched Answered most name files output before after (status.Done outcome.RequestLimit) = ⊥
ServeRuns Untouched Answered most name files output before after (status.Done outcome.Truncated) = ⊥
ServeRuns Untouched Answered most name files output before after (status.Done outcome.WireRefused) = ⊥
ServeRuns Untouched Answered most name files output before after status.ReadFault =
    Rose files.faults files.faults_after × Keeps output.before output.after × (after ≡ before)
ServeRuns Untouched Answered most name files output before after status.WriteFault =
    Rose output.faults output.faults_after
    × ((OverFile (files.file name) (λ bytes. IsRefused bytes (AppendsFront output.before output.after)) × (after ≡ before))
    ⊎ OverFile (files.file name) (OverMetadata (λ meta. (count : ℕ) × ServesAll Untouched Answered before after meta most count
    × AppendsFront output.before output.after (served_line count))))
ServeRuns Untouched Answered most name files output before after status.Memory =
    Keeps output.before output.after
    × ((after ≡ before) ⊎ OverFile (files.file name) (OverMetadata (λ meta. (count : ℕ) × ServesAll Untouched Answered before after meta most count)))
ServeRuns Untouched Answered most name files output before after status.ListenFault =
    Rose before.faults after.faults × Keeps output.before output.after
    × OverFile (files.file name) (OverMetadata (λ meta. IsIdle before after
    ⊎ ((count : ℕ) × Serves Untouched Answered before after meta most count ending.ListenFault)))
