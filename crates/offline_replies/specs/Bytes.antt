-- The reply to a query over the bytes of a bundle.
use Rattle.std.specs.Prelude.{◌≡◌, ℕ, ℤ, List, [], Option, None, Some, Result, Ok, Err, codes}
use Rattle.serde_json.specs.Data.{Data}
use Rattle.json_read.specs.Bytes.{document_of}
use Rattle.json_read.specs.Forms.{Formed}
use Rattle.dh_metadata.specs.declared.held.Records.{Records}
use Rattle.meta_reader.specs.Line.{line_of}
use Rattle.meta_reader.specs.Read.{IsMetadata}
use Rattle.meta_reader.specs.declared.fault.MetaFault.{MetaFault}
use Rattle.import_forms.specs.Sets.{values_at}
use Rattle.import_forms.specs.declared.set.SetValue.{SetValue}
use Rattle.offline_replies.specs.Reply.{meta_refused}
use Rattle.offline_replies.specs.Answer.{reply_with_values}
use Rattle.offline_replies.specs.declared.bundle.reply.Reply.{Reply}

-- what is asked: the identifier of the user, the query's text, and the moment
pub record Asked : Type 0 where
  pub user : List ℕ
  pub query : List ℕ
  pub moment : ℤ

abbrev pub asked : List ℕ → List ℕ → ℤ → Asked
asked user query moment = record { user = user; query = query; moment = moment }

-- the reply over the metadata of a bundle and its values, or over the first fault of the metadata
abbrev pub reply_over : Asked → Formed (List SetValue) → Result Records MetaFault → Reply
reply_over ask values (Ok meta) = reply_with_values meta ask.user ask.query ask.moment values
reply_over ask values (Err fault) = meta_refused (line_of fault)

-- the values of a bundle; it has none where it is no JSON
abbrev pub values_of : Data → Formed (List SetValue)
values_of json = values_at (codes "dataValues") json

abbrev pub values_in : Option Data → Formed (List SetValue)
values_in None = Ok []
values_in (Some json) = values_of json

-- the reply to what is asked over the bytes of a bundle: over what these are, which is metadata or a first fault
unfoldable pub IsReplyTo : Asked → List ℕ → Reply → Type 0
IsReplyTo ask bytes reply =
    (found : Result Records MetaFault) × IsMetadata bytes found × (reply ≡ reply_over ask (values_in (document_of bytes)) found)
