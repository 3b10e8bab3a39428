-- What a user doesn't see of a bundle's values leaves the reply, and so does the order of what the user sees.
use Rattle.std.specs.Prelude.{◌≡◌, ℕ, ℤ, true, List, nat_eq, Some, Ok}
use Rattle.json_read.specs.Bytes.{document_of}
use Rattle.dh_periods.specs.Moment.{day_of}
use Rattle.dh_metadata.specs.declared.held.Records.{Records}
use Rattle.meta_reader.specs.Read.{IsMetadata}
use Rattle.engine.specs.declared.machine.Report.{Report}
use Rattle.cell_values.specs.Seen.{SeenRecords, SameSeen}
use Rattle.import_forms.specs.declared.set.SetValue.{SetValue}
use Rattle.offline_replies.specs.Load.{loaded, log_of}
use Rattle.offline_replies.specs.Answer.{seen_after, user_named, reply_with_values}
use Rattle.offline_replies.specs.Bytes.{Asked, values_in}
use Rattle.offline_replies.specs.declared.bundle.reply.Reply.{Reply}

-- a bundle has metadata and values
pub record IsRead (bytes : List ℕ) (meta : Records) (values : List SetValue) : Type 0 where
  pub metadata_is : IsMetadata bytes (Ok meta)
  pub values_are : values_in (document_of bytes) ≡ Ok values

-- the values are all taken
pub record AreTaken (r : Records) (moment : ℤ) (values : List SetValue) : Type 0 where
  pub report : Report
  pub loaded_is : loaded r moment values ≡ Ok report
  pub taken : nat_eq report.status 200 ≡ true

-- what a user sees of the tables that they leave
abbrev pub seen_with : Records → ℕ → ℤ → List SetValue → SeenRecords
seen_with r user moment values = seen_after r user (log_of r moment values)

-- Values of which the user sees the same over these metadata, in whatever order it stands, have this reply on the same day.
abbrev pub UnseenStays : Asked → Records → List SetValue → Reply → Type 0
UnseenStays ask r values reply =
    (user : ℕ) → user_named r ask.user ≡ Some user → AreTaken r ask.moment values
    → (others : List SetValue) (moment : ℤ) → day_of moment ≡ day_of ask.moment → AreTaken r moment others
    → SameSeen (seen_with r user ask.moment values) (seen_with r user moment others)
    → reply_with_values r ask.user ask.query moment (Ok others) ≡ reply

-- the reply over the metadata of a bundle and its values, which nothing that the user doesn't see changes
pub record UnseenReply (ask : Asked) (meta : Records) (values : List SetValue) (reply : Reply) : Type 0 where
  pub reply_is : reply ≡ reply_with_values meta ask.user ask.query ask.moment (Ok values)
  pub unseen : UnseenStays ask meta values reply

-- the same of the bytes of a bundle, if it is read
abbrev pub IsUnseenReply : Asked → List ℕ → Reply → Type 0
IsUnseenReply ask bytes reply = (meta : Records) (values : List SetValue) → IsRead bytes meta values → UnseenReply ask meta values reply
