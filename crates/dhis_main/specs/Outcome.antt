-- What the program answers: its outcome, and the text that it writes.
use Rattle.std.specs.Prelude.{◌≡◌, ℕ, ℤ, List, [], ◌∷◌, ◌++◌, zero, suc, codes}
use Rattle.std.specs.Fmt.{decimal}
use Rattle.offline_replies.specs.Bytes.{asked, IsReplyTo}
use Rattle.offline_replies.specs.declared.bundle.reply.Ending.{Ending}
use Rattle.offline_replies.specs.declared.bundle.reply.Ending.TheVariants as ending
use Rattle.offline_replies.specs.declared.bundle.reply.Reply as bundle
use Rattle.offline_replies.specs.Generated.{IsGenerated}
use Rattle.dhis_main.specs.declared.words.Command.{Command}
use Rattle.dhis_main.specs.declared.words.Command.TheVariants as command
use Rattle.dhis_main.specs.declared.status.Outcome.{Outcome}
use Rattle.dhis_main.specs.declared.status.Outcome.TheVariants as outcome
use Rattle.dhis_main.specs.declared.reply.Reply.{Reply}

-- a text with a line feed after it
abbrev pub line : List ℕ → List ℕ
line text = text ++ 10 ∷ []

-- the word at a place, counted from 0
abbrev pub word_at : List (List ℕ) → ℕ → List ℕ
word_at [] place = []
word_at (word ∷ words) zero = word
word_at (word ∷ words) (suc place) = word_at words place

unfoldable pub usage_reply : ℕ → Reply
usage_reply place = record { outcome = outcome.Usage; text = line (codes "dhis: usage: bad word " ++ decimal place) }

-- how each command is written
unfoldable pub usage_lines : List ℕ
usage_lines =
    line (codes "usage: dhis query USER QUERY < BUNDLE")
    ++ line (codes "       dhis session META < REQUESTS")
    ++ line (codes "       dhis serve META ADDR WORKERS CONNECTIONS")
    ++ line (codes "       dhis generate N")
    ++ line (codes "       dhis --help")
    ++ line (codes "       dhis --version")

-- what each command does
unfoldable pub command_lines : List ℕ
command_lines =
    line (codes "query reads a bundle of metadata and values, and writes the analytics body of QUERY for USER.")
    ++ line (codes "session reads the metadata file META, answers the HTTP requests of its input, and writes the replies.")
    ++ line (codes "serve listens at ADDR, as 127.0.0.1:8080, and answers the requests of CONNECTIONS connections, from 1 to 1000000,")
    ++ line (codes "by WORKERS threads, from 1 to 16, over the metadata file META. Then it writes how many it served.")
    ++ line (codes "generate brings N values of its own, from 1 to 200000, and writes what they come to.")

-- what the other words do
unfoldable pub flag_lines : List ℕ
flag_lines = line (codes "--help writes this text.") ++ line (codes "--version writes the version.")

unfoldable pub help_reply : Reply
help_reply = record { outcome = outcome.Ok; text = usage_lines ++ command_lines ++ flag_lines }

unfoldable pub version_reply : Reply
version_reply = record { outcome = outcome.Ok; text = line (codes "dhis 0.1.0") }

-- ---- queries

-- how a query over a bundle ends, as the program's outcome
abbrev pub outcome_of : Ending → Outcome
outcome_of ending.Ok = outcome.Ok
outcome_of ending.MetaRefused = outcome.MetaRefused
outcome_of ending.QueryRefused = outcome.QueryRefused
outcome_of ending.DataRefused = outcome.DataRefused

abbrev pub told_as : bundle.Reply → Reply
told_as made = record { outcome = outcome_of made.ending; text = made.text }

-- the reply to a query of a user at a moment, over the bytes of a bundle
abbrev pub IsQueryReply : List ℕ → List ℕ → ℤ → List ℕ → Reply → Type 0
IsQueryReply user query moment bytes reply = (made : bundle.Reply) × IsReplyTo (asked user query moment) bytes made × (reply ≡ told_as made)

-- at a moment that the clock shows
abbrev pub IsQueryReplyNow : List ℕ → List ℕ → (ℤ → Type 0) → List ℕ → Reply → Type 0
IsQueryReplyNow user query shows bytes reply = (moment : ℤ) × shows moment × IsQueryReply user query moment bytes reply

-- ---- the generator

-- the report on so many generated values, which come at a moment
abbrev pub IsReport : ℕ → ℤ → Reply → Type 0
IsReport count moment reply = (text : List ℕ) × IsGenerated count moment text × (reply ≡ record { outcome = outcome.Ok; text = text })

-- at a moment that the clock shows
abbrev pub IsReportNow : ℕ → (ℤ → Type 0) → Reply → Type 0
IsReportNow count shows reply = (moment : ℤ) × shows moment × IsReport count moment reply

-- ---- all commands but sessions and servers, which have no text of their own

-- the reply to a command over the bytes of the input, which only a query reads
abbrev pub IsCommandReply : Command → List (List ℕ) → (ℤ → Type 0) → List ℕ → Reply → Type 0
IsCommandReply command.Help words shows bytes reply = reply ≡ help_reply
IsCommandReply command.Version words shows bytes reply = reply ≡ version_reply
IsCommandReply command.Query words shows bytes reply = IsQueryReplyNow (word_at words 1) (word_at words 2) shows bytes reply
IsCommandReply command.Session words shows bytes reply = ⊥
IsCommandReply (command.Generate count) words shows bytes reply = IsReportNow count shows reply
IsCommandReply (command.Bad place) words shows bytes reply = reply ≡ usage_reply place
IsCommandReply (command.Serve workers connections) words shows bytes reply = ⊥
