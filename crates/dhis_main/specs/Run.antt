-- What a run of a command may do.
use Rattle.std.specs.Prelude.{◌≡◌, ℕ, ℤ, Bool, true, false, List, Option, None, Some, IfSome, Result, Ok, Err, ⊤}
use Rattle.std.specs.Io.KnownBytes.{Appends, Keeps}
use Rattle.dh_base.specs.declared.memory.Memory.{Memory}
use Rattle.dh_outside.specs.Faults.{Rose}
use Rattle.net_doors.specs.Doors as doors
use Rattle.shared_engine.specs.Entries.{Entry}
use Rattle.shared_engine.specs.Histories.{Made}
use Rattle.shared_engine.specs.Views.{TokenView}
use Rattle.dhis_main.specs.Words.{command_of, serving_of}
use Rattle.dhis_main.specs.Shown.{Side, Shown, WritesFront}
use Rattle.dhis_main.specs.Outcome.{word_at, help_reply, version_reply, usage_reply, IsQueryReplyNow, IsReportNow, IsCommandReply}
use Rattle.dhis_main.specs.Session.{SessionRuns, SessionAnswers}
use Rattle.dhis_main.specs.Serve.{ServeRuns}
use Rattle.dhis_main.specs.declared.words.Command.{Command}
use Rattle.dhis_main.specs.declared.words.Command.TheVariants as command
use Rattle.dhis_main.specs.declared.status.Outcome.{Outcome}
use Rattle.dhis_main.specs.declared.status.Outcome.TheVariants as outcome
use Rattle.dhis_main.specs.declared.status.Status.{Status}
use Rattle.dhis_main.specs.declared.status.Status.TheVariants as status
use Rattle.dhis_main.specs.declared.reply.Reply.{Reply}
use Rattle.dhis_main.specs.declared.reply.Fault.{Fault}
use Rattle.dhis_main.specs.declared.reply.Fault.TheVariants as fault

-- the words are not in the grammar
abbrev pub is_bad : Command → Bool
is_bad command.Help = false
is_bad command.Version = false
is_bad command.Query = false
is_bad command.Session = false
is_bad (command.Generate count) = false
is_bad (command.Bad place) = true
is_bad (command.Serve workers connections) = false

abbrev pub is_usage : Outcome → Bool
is_usage outcome.Ok = false
is_usage outcome.Usage = true
is_usage outcome.MetaRefused = false
is_usage outcome.QueryRefused = false
is_usage outcome.DataRefused = false
is_usage outcome.RequestLimit = false
is_usage outcome.Truncated = false
is_usage outcome.WireRefused = false

-- ---- commands that write one reply

-- A reply that is so was made and written. Writing failed only where the output counted a fault, and then a prefix of the
-- text was written. If memory runs out nothing was written.
abbrev pub ReplyRuns : (Reply → Type 0) → Side → Status → Type 0
ReplyRuns Is output (status.Done outcome) = (reply : Reply) × Is reply × (outcome ≡ reply.outcome) × Appends output.before output.after reply.text
ReplyRuns Is output status.ReadFault = ⊥
ReplyRuns Is output status.WriteFault =
    Rose output.faults output.faults_after × ((reply : Reply) × Is reply × WritesFront output reply.text)
ReplyRuns Is output status.Memory = Keeps output.before output.after
ReplyRuns Is output status.ListenFault = ⊥

-- the command reads nothing of the input
abbrev pub UnreadRuns : (Reply → Type 0) → Shown → Status → Type 0
UnreadRuns Is shown result = (shown.input.after ≡ shown.input.before) × ReplyRuns Is shown.output result

-- the reply is that to a query over some bytes: over the input's, where these are told
pub record IsReplyToInput (user query : List ℕ) (shows : ℤ → Type 0) (told : Option (List ℕ)) (reply : Reply) : Type 0 where
  pub bytes : List ℕ
  pub is : IsQueryReplyNow user query shows bytes reply
  pub told_bytes : IfSome told (λ all. IsQueryReplyNow user query shows all reply)

-- what making a reply to a query answers
abbrev pub RepliesToInput : List ℕ → List ℕ → (ℤ → Type 0) → Option (List ℕ) → ℕ → ℕ → Result Reply Fault → Type 0
RepliesToInput user query shows told old new (Ok reply) = IsReplyToInput user query shows told reply
RepliesToInput user query shows told old new (Err fault.Read) = Rose old new
RepliesToInput user query shows told old new (Err fault.Memory) = ⊤

-- a query reads the input; reading failed only where the input counted a fault, and then nothing was written
abbrev pub QueryRuns : List ℕ → List ℕ → (ℤ → Type 0) → Shown → Status → Type 0
QueryRuns user query shows shown (status.Done outcome) = ReplyRuns (IsReplyToInput user query shows shown.input.before) shown.output (status.Done outcome)
QueryRuns user query shows shown status.ReadFault =
    Rose shown.input.faults shown.input.faults_after × Keeps shown.output.before shown.output.after
QueryRuns user query shows shown status.WriteFault = ReplyRuns (IsReplyToInput user query shows shown.input.before) shown.output status.WriteFault
QueryRuns user query shows shown status.Memory = ReplyRuns (IsReplyToInput user query shows shown.input.before) shown.output status.Memory
QueryRuns user query shows shown status.ListenFault = ⊥

-- ---- all commands but servers

abbrev pub RunsAs : Command → List (List ℕ) → (ℤ → Type 0) → Shown → Status → Type 0
RunsAs command.Help words shows shown result = UnreadRuns (λ reply. reply ≡ help_reply) shown result
RunsAs command.Version words shows shown result = UnreadRuns (λ reply. reply ≡ version_reply) shown result
RunsAs command.Query words shows shown result = QueryRuns (word_at words 1) (word_at words 2) shows shown result
RunsAs command.Session words shows shown result = SessionRuns shows (word_at words 1) shown result
RunsAs (command.Generate count) words shows shown result = UnreadRuns (IsReportNow count shows) shown result
RunsAs (command.Bad place) words shows shown result = UnreadRuns (λ reply. reply ≡ usage_reply place) shown result
RunsAs (command.Serve workers connections) words shows shown result = ⊥

-- what a run of these words may do
abbrev pub Runs : List (List ℕ) → (ℤ → Type 0) → Shown → Status → Type 0
Runs words shows shown result = RunsAs (command_of words) words shows shown result

-- over told bytes, a run that is done has the outcome and the text of the reply over them
abbrev pub ReplyAnswers : (List ℕ → Reply → Type 0) → Shown → Status → Type 0
ReplyAnswers Is shown (status.Done outcome) = IfSome shown.input.before (λ bytes.
    (reply : Reply) × Is bytes reply × (outcome ≡ reply.outcome) × Appends shown.output.before shown.output.after reply.text)
ReplyAnswers Is shown status.ReadFault = ⊤
ReplyAnswers Is shown status.WriteFault = ⊤
ReplyAnswers Is shown status.Memory = ⊤
ReplyAnswers Is shown status.ListenFault = ⊤

abbrev pub AnswersAs : Command → List (List ℕ) → (ℤ → Type 0) → Shown → Status → Type 0
AnswersAs command.Help words shows shown result = ReplyAnswers (IsCommandReply command.Help words shows) shown result
AnswersAs command.Version words shows shown result = ReplyAnswers (IsCommandReply command.Version words shows) shown result
AnswersAs command.Query words shows shown result = ReplyAnswers (IsCommandReply command.Query words shows) shown result
AnswersAs command.Session words shows shown result = SessionAnswers shows (word_at words 1) shown result
AnswersAs (command.Generate count) words shows shown result = ReplyAnswers (IsCommandReply (command.Generate count) words shows) shown result
AnswersAs (command.Bad place) words shows shown result = ReplyAnswers (IsCommandReply (command.Bad place) words shows) shown result
AnswersAs (command.Serve workers connections) words shows shown result = ⊥

-- over bytes that are told, a run that is done is the reply to the words over them, at a moment of the clock, or the session
abbrev pub AnswersTold : List (List ℕ) → (ℤ → Type 0) → Shown → Status → Type 0
AnswersTold words shows shown result = AnswersAs (command_of words) words shows shown result

-- a done run refuses the words exactly where they are not in the grammar
abbrev pub RefusesWords : Command → Status → Type 0
RefusesWords command (status.Done outcome) = is_usage outcome ≡ is_bad command
RefusesWords command status.ReadFault = is_bad command ≡ false
RefusesWords command status.WriteFault = ⊤
RefusesWords command status.Memory = ⊤
RefusesWords command status.ListenFault = is_bad command ≡ false

-- ---- all commands

-- what a run may do beside a listener, which only a server calls
abbrev pub RunsBy : {N : Type 0} → (N → Type 0) → (Made → TokenView Entry → N → N → Type 0) → Option (ℕ × ℕ) → List (List ℕ) → (ℤ → Type 0) → Shown
    → doors.Shown N → doors.Shown N → Status → Type 0
RunsBy Untouched Answered (Some numbers) words shows shown before after result =
    (shown.input.after ≡ shown.input.before)
    × ServeRuns Untouched Answered numbers.1 (word_at words 1) shown.files shown.output before after result
RunsBy Untouched Answered None words shows shown before after result = Runs words shows shown result × (after ≡ before)

abbrev pub RunsBeside : {N : Type 0} → (N → Type 0) → (Made → TokenView Entry → N → N → Type 0) → List (List ℕ) → (ℤ → Type 0) → Shown → doors.Shown N
    → doors.Shown N → Status → Type 0
RunsBeside Untouched Answered words shows shown before after result =
    RunsBy Untouched Answered (serving_of (command_of words)) words shows shown before after result

-- over bytes that are told, a run of another command that is done is the reply to the words over them
abbrev pub AnswersBy : Option (ℕ × ℕ) → List (List ℕ) → (ℤ → Type 0) → Shown → Status → Type 0
AnswersBy (Some numbers) words shows shown result = ⊤
AnswersBy None words shows shown result = AnswersTold words shows shown result

abbrev pub AnswersBeside : List (List ℕ) → (ℤ → Type 0) → Shown → Status → Type 0
AnswersBeside words shows shown result = AnswersBy (serving_of (command_of words)) words shows shown result

-- ---- writing a reply

-- what sending a reply answers
abbrev pub Sends : Reply → Side → Status → Type 0
Sends reply output (status.Done outcome) = (outcome ≡ reply.outcome) × Appends output.before output.after reply.text
Sends reply output status.ReadFault = ⊥
Sends reply output status.WriteFault = Rose output.faults output.faults_after × WritesFront output reply.text
Sends reply output status.Memory = ⊥
Sends reply output status.ListenFault = ⊥

-- what sending a reply answers where it may not have been made
abbrev pub Delivers : Result Reply Memory → Side → Status → Type 0
Delivers (Ok reply) output result = Sends reply output result
Delivers (Err wanting) output result = (result ≡ status.Memory) × Keeps output.before output.after
