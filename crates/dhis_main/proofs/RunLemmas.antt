-- Replies over the input, and those that need none.
use Rattle.std.proofs.Common.{◌≡◌, ◌∙◌, ℕ, ℤ, ◌<◌, ◌+◌, Bool, true, false, List, [], ◌∷◌, length, take, ◌≤◌, length-append, Bor, map, get_or, zero, suc}
use Rattle.std.proofs.Common.{Option, Some, None, IfSome, Result, Ok, Err, IfOk, refl, sym, ap, arith, subst}
use Rattle.std.proofs.KnownBytes.{Consumes-whole}
use Rattle.std.specs.Io.KnownBytes.{Consumes, IsAtEnd, Appends}
use Rattle.dh_base.specs.declared.memory.Memory.{Memory}
use Rattle.dh_outside.specs.Talk.{Talk, Says}
use Rattle.meta_reader.specs.File.{most_bytes}
use Rattle.offline_replies.specs.declared.bundle.reply.Ending.{Ending}
use Rattle.offline_replies.specs.declared.bundle.reply.Ending.TheVariants as ending
use Rattle.request_session.specs.declared.ended.Ended.{Ended}
use Rattle.request_session.specs.declared.ended.Ended.TheVariants as ended
use Rattle.request_replies.specs.declared.over_file.SessionEnd.{SessionEnd}
use Rattle.request_replies.specs.declared.over_file.SessionEnd.TheVariants as end
use Rattle.dhis_main.specs.Words.{command_of}
use Rattle.dhis_main.specs.Outcome.{word_at, help_reply, version_reply, usage_reply, outcome_of, IsQueryReplyNow, IsReport, IsReportNow}
use Rattle.dhis_main.specs.Shown.{Side, Shown}
use Rattle.dhis_main.specs.Session.{status_of, status_over, SessionRuns}
use Rattle.dhis_main.specs.Run.{IsReplyToInput, ReplyRuns, UnreadRuns, QueryRuns, RunsAs, Runs, ReplyAnswers, AnswersAs, AnswersTold, RefusesWords, Delivers}
use Rattle.dhis_main.specs.Run.{is_usage, is_bad}
use Rattle.dhis_main.specs.declared.status.Status.{Status}
use Rattle.dhis_main.specs.declared.status.Status.TheVariants as status
use Rattle.dhis_main.specs.declared.words.Command.{Command}
use Rattle.dhis_main.specs.declared.words.Command.TheVariants as command
use Rattle.dhis_main.specs.declared.reply.Reply.{Reply}
use Rattle.dhis_main.proofs.HeldLemmas.{session_answers}

-- ---- a reply that was made is written

-- a prefix that was written, without what is told of the order
pub prefix_written : (old new : Option (List ℕ)) (talk talk' : Option Talk) (text : List ℕ)
    → ((count : ℕ) × (count ≤ length text) × Appends old new (take count text) × Says talk talk' (take count text))
    → (count : ℕ) × (count ≤ length text) × Appends old new (take count text)
prefix_written old new talk talk' text front = (front.0, front.1, front.2)

pub delivered : (Is : Reply → Type 0) (made : Result Reply Memory) (output : Side) (result : Status) → IfOk made Is → Delivers made output result
    → ReplyRuns Is output result
delivered Is (Ok reply) output (status.Done outcome) is sent = (reply, is, sent.0, sent.1)
delivered Is (Ok reply) output status.ReadFault is sent = absurd sent
delivered Is (Ok reply) output status.WriteFault is sent = (sent.0, (reply, is, sent.1))
delivered Is (Ok reply) output status.Memory is sent = absurd sent
delivered Is (Ok reply) output status.ListenFault is sent = absurd sent
delivered Is (Err wanting) output result is sent = subst (ReplyRuns Is output) (sym sent.0) sent.1

-- the whole of what was told, where it was read to its end
pub told-whole : (told after : Option (List ℕ)) (bytes : List ℕ) (P : List ℕ → Type 0) → Consumes told after bytes → IsAtEnd after → P bytes → IfSome told P
told-whole told after bytes P consumed ended holds = Consumes-whole told after bytes P consumed ended holds

-- what was told is longer than what was taken of it
pub told-longer : (told after : Option (List ℕ)) (taken : List ℕ) (most : ℕ) (P : List ℕ → Type 0) → most_bytes ≡ most → Consumes told after taken
    → length taken ≡ most + 1
    → ((bytes : List ℕ) → most_bytes < length bytes → P bytes) → IfSome told P
told-longer None after taken most P at consumed long holds = tt
told-longer (Some all) None taken most P at consumed long holds = absurd consumed
told-longer (Some all) (Some rest) taken most P at consumed long holds =
    let all_longer : most_bytes < length all = omega (arith, ap length consumed, length-append taken rest) in
    holds all all_longer

-- a word of the command line, by its place
pub word_at-listed : (words : List (Bor (List ℕ))) (place : ℕ) (none : Bor (List ℕ)) → none.now ≡ []
    → word_at (map (λ word. word.now) words) place ≡ (get_or words place none).now
word_at-listed [] place none is = sym is
word_at-listed (word ∷ words) zero none is = refl
word_at-listed (word ∷ words) (suc place) none is = word_at-listed words place none is

-- ---- a command with its words

-- the query is that of the second and the third word
pub query_runs : (c : Command) (words : List (List ℕ)) (user query : List ℕ) (shows : ℤ → Type 0) (shown : Shown) (result : Status)
    → c ≡ command.Query → word_at words 1 ≡ user → word_at words 2 ≡ query → QueryRuns user query shows shown result → RunsAs c words shows shown result
query_runs c words user query shows shown result at second third run =
    subst (λ k. RunsAs k words shows shown result) (sym at)
    (subst (λ u. QueryRuns u (word_at words 2) shows shown result) (sym second)
    (subst (λ q. QueryRuns user q shows shown result) (sym third) run))

-- the file of a session is the second word
pub session_runs : (c : Command) (words : List (List ℕ)) (name : List ℕ) (shows : ℤ → Type 0) (shown : Shown) (result : Status)
    → c ≡ command.Session → word_at words 1 ≡ name → SessionRuns shows name shown result → RunsAs c words shows shown result
session_runs c words name shows shown result at second run =
    subst (λ k. RunsAs k words shows shown result) (sym at) (subst (λ n. SessionRuns shows n shown result) (sym second) run)

-- a command that reads nothing writes its reply
pub help_runs : (c : Command) (words : List (List ℕ)) (shows : ℤ → Type 0) (shown : Shown) (made : Result Reply Memory) (result : Status) → c ≡ command.Help
    → shown.input.after ≡ shown.input.before → IfOk made (λ reply. reply ≡ help_reply) → Delivers made shown.output result → RunsAs c words shows shown result
help_runs c words shows shown made result at unread is sent =
    subst (λ k. RunsAs k words shows shown result) (sym at) (unread, delivered (λ reply. reply ≡ help_reply) made shown.output result is sent)

pub version_runs : (c : Command) (words : List (List ℕ)) (shows : ℤ → Type 0) (shown : Shown) (made : Result Reply Memory) (result : Status)
    → c ≡ command.Version → shown.input.after ≡ shown.input.before → IfOk made (λ reply. reply ≡ version_reply) → Delivers made shown.output result
    → RunsAs c words shows shown result
version_runs c words shows shown made result at unread is sent =
    subst (λ k. RunsAs k words shows shown result) (sym at) (unread, delivered (λ reply. reply ≡ version_reply) made shown.output result is sent)

pub usage_runs : (c : Command) (place : ℕ) (words : List (List ℕ)) (shows : ℤ → Type 0) (shown : Shown) (made : Result Reply Memory) (result : Status)
    → c ≡ command.Bad place → shown.input.after ≡ shown.input.before → IfOk made (λ reply. reply ≡ usage_reply place) → Delivers made shown.output result
    → RunsAs c words shows shown result
usage_runs c place words shows shown made result at unread is sent =
    subst (λ k. RunsAs k words shows shown result) (sym at) (unread, delivered (λ reply. reply ≡ usage_reply place) made shown.output result is sent)

report-now : (count : ℕ) (moment : ℤ) (shows : ℤ → Type 0) (made : Result Reply Memory) → shows moment → IfOk made (IsReport count moment)
    → IfOk made (IsReportNow count shows)
report-now count moment shows (Ok reply) at is = (moment, at, is)
report-now count moment shows (Err wanting) at is = tt

pub report_runs : (c : Command) (count : ℕ) (moment : ℤ) (words : List (List ℕ)) (shows : ℤ → Type 0) (shown : Shown) (made : Result Reply Memory)
    (result : Status)
    → c ≡ command.Generate count → shown.input.after ≡ shown.input.before → shows moment → IfOk made (IsReport count moment)
    → Delivers made shown.output result → RunsAs c words shows shown result
report_runs c count moment words shows shown made result at unread now is sent =
    subst (λ k. RunsAs k words shows shown result) (sym at)
    (unread, delivered (IsReportNow count shows) made shown.output result (report-now count moment shows made now is) sent)

-- ---- what a run is over told bytes

fixed : (told : Option (List ℕ)) (Is : Reply → Type 0) (reply : Reply) → Is reply → IfSome told (λ bytes. Is reply)
fixed None Is reply is = tt
fixed (Some all) Is reply is = is

over-input : (user query : List ℕ) (shows : ℤ → Type 0) (told : Option (List ℕ)) (reply : Reply) → IsReplyToInput user query shows told reply
    → IfSome told (λ bytes. IsQueryReplyNow user query shows bytes reply)
over-input user query shows told reply is = is.told_bytes

with-written : (told : Option (List ℕ)) (P : List ℕ → Reply → Type 0) (Q R : Reply → Type 0) (reply : Reply) → IfSome told (λ bytes. P bytes reply) → Q reply
    → R reply
    → IfSome told (λ bytes. (r : Reply) × P bytes r × Q r × R r)
with-written None P Q R reply is done written = tt
with-written (Some all) P Q R reply is done written = (reply, is, done, written)

reply-answers : (Is : Reply → Type 0) (Over : List ℕ → Reply → Type 0) (shown : Shown) (result : Status)
    → ((reply : Reply) → Is reply → IfSome shown.input.before (λ bytes. Over bytes reply)) → ReplyRuns Is shown.output result → ReplyAnswers Over shown result
reply-answers Is Over shown (status.Done outcome) over run =
    with-written shown.input.before Over (λ r. outcome ≡ r.outcome) (λ r. Appends shown.output.before shown.output.after r.text) run.0 (over run.0 run.1) run.2
    run.3
reply-answers Is Over shown status.ReadFault over run = tt
reply-answers Is Over shown status.WriteFault over run = tt
reply-answers Is Over shown status.Memory over run = tt
reply-answers Is Over shown status.ListenFault over run = tt

unread-answers : (Is : Reply → Type 0) (shown : Shown) (result : Status) → UnreadRuns Is shown result → ReplyAnswers (λ bytes. Is) shown result
unread-answers Is shown result run = reply-answers Is (λ bytes. Is) shown result (fixed shown.input.before Is) run.1

query-answers : (user query : List ℕ) (shows : ℤ → Type 0) (shown : Shown) (result : Status) → QueryRuns user query shows shown result
    → ReplyAnswers (IsQueryReplyNow user query shows) shown result
query-answers user query shows shown (status.Done outcome) run =
    reply-answers (IsReplyToInput user query shows shown.input.before) (IsQueryReplyNow user query shows) shown (status.Done outcome)
    (over-input user query shows shown.input.before) run
query-answers user query shows shown status.ReadFault run = tt
query-answers user query shows shown status.WriteFault run = tt
query-answers user query shows shown status.Memory run = tt
query-answers user query shows shown status.ListenFault run = tt

answers-as : (c : Command) (words : List (List ℕ)) (shows : ℤ → Type 0) (shown : Shown) (result : Status) → RunsAs c words shows shown result
    → AnswersAs c words shows shown result
answers-as command.Help words shows shown result run = unread-answers (λ reply. reply ≡ help_reply) shown result run
answers-as command.Version words shows shown result run = unread-answers (λ reply. reply ≡ version_reply) shown result run
answers-as command.Query words shows shown result run = query-answers (word_at words 1) (word_at words 2) shows shown result run
answers-as command.Session words shows shown result run = session_answers shows (word_at words 1) shown result run
answers-as (command.Generate count) words shows shown result run = unread-answers (IsReportNow count shows) shown result run
answers-as (command.Bad place) words shows shown result run = unread-answers (λ reply. reply ≡ usage_reply place) shown result run
answers-as (command.Serve workers connections) words shows shown result run = absurd run

-- a done run over told bytes has the outcome and the text of the reply to the words over them
pub answers_told : (words : List (List ℕ)) (shows : ℤ → Type 0) (shown : Shown) (result : Status) → Runs words shows shown result
    → AnswersTold words shows shown result
answers_told words shows shown result run = answers-as (command_of words) words shows shown result run

-- ---- which runs refuse the words

-- the reply says whether the words are refused
reply-usage : (Is : Reply → Type 0) (bad : Bool) (c : Command) (output : Side) (result : Status) → is_bad c ≡ bad
    → ((reply : Reply) → Is reply → is_usage reply.outcome ≡ bad)
    → ReplyRuns Is output result → RefusesWords c result
reply-usage Is bad c output (status.Done outcome) is says run = ap is_usage run.2 ∙ says run.0 run.1 ∙ sym is
reply-usage Is bad c output status.ReadFault is says run = absurd run
reply-usage Is bad c output status.WriteFault is says run = tt
reply-usage Is bad c output status.Memory is says run = tt
reply-usage Is bad c output status.ListenFault is says run = absurd run

ending-no-usage : (how : Ending) → is_usage (outcome_of how) ≡ false
ending-no-usage ending.Ok = refl
ending-no-usage ending.MetaRefused = refl
ending-no-usage ending.QueryRefused = refl
ending-no-usage ending.DataRefused = refl

query-usage : (user query : List ℕ) (shows : ℤ → Type 0) (told : Option (List ℕ)) (reply : Reply) → IsReplyToInput user query shows told reply
    → is_usage reply.outcome ≡ false
query-usage user query shows told reply is = let made = is.is.2 in
    ap (λ (r : Reply). is_usage r.outcome) made.2 ∙ ending-no-usage made.0.ending

report-usage : (count : ℕ) (shows : ℤ → Type 0) (reply : Reply) → IsReportNow count shows reply → is_usage reply.outcome ≡ false
report-usage count shows reply is = ap (λ (r : Reply). is_usage r.outcome) is.2.2

abbrev usage-in : Status → Bool
usage-in (status.Done outcome) = is_usage outcome
usage-in status.ReadFault = false
usage-in status.WriteFault = false
usage-in status.Memory = false
usage-in status.ListenFault = false

ended-no-usage : (how : Ended) → usage-in (status_of how) ≡ false
ended-no-usage ended.Closed = refl
ended-no-usage ended.Limit = refl
ended-no-usage ended.Truncated = refl
ended-no-usage (ended.Refused code) = refl
ended-no-usage ended.ReadFault = refl
ended-no-usage ended.WriteFault = refl
ended-no-usage ended.Memory = refl

end-no-usage : (how : SessionEnd) → usage-in (status_over how) ≡ false
end-no-usage end.Refused = refl
end-no-usage end.Unwritten = refl
end-no-usage (end.Ended how) = ended-no-usage how
end-no-usage end.Memory = refl

session-usage : (shows : ℤ → Type 0) (name : List ℕ) (shown : Shown) (result : Status) → SessionRuns shows name shown result
    → RefusesWords command.Session result
session-usage shows name shown (status.Done outcome) came = ap usage-in came.status_is ∙ end-no-usage came.how
session-usage shows name shown status.ReadFault came = refl
session-usage shows name shown status.WriteFault came = tt
session-usage shows name shown status.Memory came = tt
session-usage shows name shown status.ListenFault came = refl

queried-usage : (user query : List ℕ) (shows : ℤ → Type 0) (shown : Shown) (result : Status) → QueryRuns user query shows shown result
    → RefusesWords command.Query result
queried-usage user query shows shown (status.Done outcome) run =
    reply-usage (IsReplyToInput user query shows shown.input.before) false command.Query shown.output (status.Done outcome) refl
    (query-usage user query shows shown.input.before) run
queried-usage user query shows shown status.ReadFault run = refl
queried-usage user query shows shown status.WriteFault run = tt
queried-usage user query shows shown status.Memory run = tt
queried-usage user query shows shown status.ListenFault run = refl

help-usage : (reply : Reply) → reply ≡ help_reply → is_usage reply.outcome ≡ false
unfolding help_reply
help-usage reply is = ap (λ (r : Reply). is_usage r.outcome) is

version-usage : (reply : Reply) → reply ≡ version_reply → is_usage reply.outcome ≡ false
unfolding version_reply
version-usage reply is = ap (λ (r : Reply). is_usage r.outcome) is

bad-usage : (place : ℕ) (reply : Reply) → reply ≡ usage_reply place → is_usage reply.outcome ≡ true
unfolding usage_reply
bad-usage place reply is = ap (λ (r : Reply). is_usage r.outcome) is

refuses-as : (c : Command) (words : List (List ℕ)) (shows : ℤ → Type 0) (shown : Shown) (result : Status) → RunsAs c words shows shown result
    → RefusesWords c result
refuses-as command.Help words shows shown result run = reply-usage (λ reply. reply ≡ help_reply) false command.Help shown.output result refl help-usage run.1
refuses-as command.Version words shows shown result run =
    reply-usage (λ reply. reply ≡ version_reply) false command.Version shown.output result refl version-usage run.1
refuses-as command.Query words shows shown result run = queried-usage (word_at words 1) (word_at words 2) shows shown result run
refuses-as command.Session words shows shown result run = session-usage shows (word_at words 1) shown result run
refuses-as (command.Generate count) words shows shown result run =
    reply-usage (IsReportNow count shows) false (command.Generate count) shown.output result refl (report-usage count shows) run.1
refuses-as (command.Bad place) words shows shown result run =
    reply-usage (λ reply. reply ≡ usage_reply place) true (command.Bad place) shown.output result refl (bad-usage place) run.1
refuses-as (command.Serve workers connections) words shows shown result run = absurd run

-- the outcome is a refusal of the words exactly where these are not in the grammar
pub refuses_words : (words : List (List ℕ)) (shows : ℤ → Type 0) (shown : Shown) (result : Status) → Runs words shows shown result
    → RefusesWords (command_of words) result
refuses_words words shows shown result run = refuses-as (command_of words) words shows shown result run
