-- The reply to a query over metadata and the values of a bundle.
use Rattle.std.specs.Prelude.{ℕ, ℤ, Bool, true, false, nat_eq, List, [], Option, None, Some, Result, Ok, Err}
use Rattle.dh_base.specs.declared.codes.Code.TheVariants.{F8}
use Rattle.dh_base.specs.declared.codes.Refusal.{Refusal}
use Rattle.dh_changes.specs.declared.change.Change.{Change}
use Rattle.json_read.specs.Forms.{Formed}
use Rattle.dh_metadata.specs.declared.held.Records.{Records}
use Rattle.dh_metadata.specs.declared.kind.Kind.TheVariants.{User}
use Rattle.meta_reader.specs.Line.{line_of}
use Rattle.meta_reader.specs.declared.fault.MetaFault.TheVariants.{Shape}
use Rattle.dh_periods.specs.Moment.{day_of}
use Rattle.request_session.specs.Bodies.{error_text}
use Rattle.import_forms.specs.declared.set.SetValue.{SetValue}
use Rattle.query_lang.specs.declared.plain.Query.{Query}
use Rattle.query_lang.specs.Query.{query_of}
use Rattle.query_lang.specs.declared.query.TheConstants.{MOST_CELLS}
use Rattle.cell_values.specs.Seen.{SeenRecords, seen_of}
use Rattle.query_answer.specs.Answer.{answer_of}
use Rattle.engine.specs.declared.machine.Report.{Report}
use Rattle.engine.specs.Tables.{tables_of}
use Rattle.engine.specs.MetaAfter.{meta_after}
use Rattle.offline_replies.specs.Named.{named}
use Rattle.offline_replies.specs.Reply.{told, meta_refused, query_refused, answer_reply, refusal}
use Rattle.offline_replies.specs.Load.{loaded, log_of}
use Rattle.offline_replies.specs.declared.bundle.reply.Ending.TheVariants.{DataRefused}
use Rattle.offline_replies.specs.declared.bundle.reply.Reply.{Reply}

-- what a user sees of the tables of a log, with the rights and the tree that it leaves
abbrev pub seen_after : Records → ℕ → List Change → SeenRecords
seen_after r user log = seen_of (meta_after r log) user (tables_of r log)

-- the reply to a query over that
unfoldable pub reply_to_query : Records → ℕ → List Change → Result Query Refusal → Reply
reply_to_query r user log (Ok query) = answer_reply (answer_of (meta_after r log) query (seen_after r user log))
reply_to_query r user log (Err refused) = query_refused refused

-- all values are taken, or the report on their import says which are not
abbrev pub reply_by_status : Records → ℕ → List ℕ → ℤ → List Change → Report → Bool → Reply
reply_by_status r user text moment log report true = reply_to_query r user log (query_of (meta_after r log) user (day_of moment) MOST_CELLS text)
reply_by_status r user text moment log report false = told DataRefused report.body

-- by what loading the values comes to
abbrev pub reply_by_load : Records → ℕ → List ℕ → ℤ → List Change → Result Report Refusal → Reply
reply_by_load r user text moment log (Ok report) = reply_by_status r user text moment log report (nat_eq report.status 200)
reply_by_load r user text moment log (Err refused) = told DataRefused (error_text refused)

unfoldable pub reply_to_load : Records → ℕ → List ℕ → ℤ → List SetValue → Reply
reply_to_load r user text moment values = reply_by_load r user text moment (log_of r moment values) (loaded r moment values)

-- the user with that identifier
abbrev pub user_named : Records → List ℕ → Option ℕ
user_named r = named r User

-- what is asked: for which user, which query, at which moment
abbrev pub reply_by_user : Records → Option ℕ → List ℕ → ℤ → List SetValue → Reply
reply_by_user r None text moment values = query_refused (refusal F8 [])
reply_by_user r (Some user) text moment values = reply_to_load r user text moment values

-- the values of the bundle are in form, or the path of the first fault is reported
unfoldable pub reply_with_values : Records → List ℕ → List ℕ → ℤ → Formed (List SetValue) → Reply
reply_with_values r name text moment (Err path) = meta_refused (line_of (Shape path))
reply_with_values r name text moment (Ok values) = reply_by_user r (user_named r name) text moment values
