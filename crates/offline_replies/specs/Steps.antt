-- What the steps of a reply hand on.
use Rattle.std.specs.Prelude.{◌≡◌, List, Option, None, Some, Result, Ok, Err, ⊤}
use Rattle.serde_json.specs.Data.{Data}
use Rattle.json_read.specs.Forms.{Formed}
use Rattle.json_read.specs.Given.{Gives}
use Rattle.json_read.specs.declared.fault.FormFault.{FormFault}
use Rattle.json_read.specs.declared.fault.FormFault.TheVariants as form
use Rattle.meta_forms.specs.Parts.{parts_of}
use Rattle.dh_metadata.specs.declared.held.Records.{Records}
use Rattle.dh_metadata.specs.declared.parts.MetaParts.{MetaParts}
use Rattle.meta_reader.specs.Line.{line_of}
use Rattle.meta_reader.specs.Read.{IsMetadataOf}
use Rattle.meta_reader.specs.declared.fault.MetaFault.{MetaFault}
use Rattle.meta_reader.specs.declared.fault.MetaFault.TheVariants.{NotJson, Shape}
use Rattle.import_forms.specs.declared.set.SetValue.{SetValue}
use Rattle.offline_replies.specs.Bytes.{Asked, values_of, reply_over}
use Rattle.offline_replies.specs.Reply.{meta_refused}
use Rattle.offline_replies.specs.declared.bundle.reply.Reply.{Reply}
use Rattle.offline_replies.specs.declared.bundle.bytes.Forms.{Forms}

-- the records and the values of a bundle; or the path of the first fault of its records, or that memory ran out
abbrev pub AreForms : Data → Result Forms FormFault → Type 0
AreForms json (Ok forms) = (parts_of json ≡ Ok forms.parts) × Gives (values_of json) forms.values
AreForms json (Err (form.At path)) = parts_of json ≡ Err path
AreForms json (Err form.Memory) = ⊤

-- the same of bytes; there are none where these are no JSON
abbrev pub AreFormsIn : Option Data → Option (Result Forms FormFault) → Type 0
AreFormsIn None None = ⊤
AreFormsIn None (Some read) = ⊥
AreFormsIn (Some json) None = ⊥
AreFormsIn (Some json) (Some read) = AreForms json read

-- the reply, by what was found of the bundle on the way
unfoldable pub IsOverParts : Asked → MetaParts → Formed (List SetValue) → Reply → Type 0
IsOverParts ask parts values reply = (found : Result Records MetaFault) × IsMetadataOf parts found × (reply ≡ reply_over ask values found)

abbrev pub IsOverForm : Asked → Formed MetaParts → Formed (List SetValue) → Reply → Type 0
IsOverForm ask (Err path) values reply = reply ≡ meta_refused (line_of (Shape path))
IsOverForm ask (Ok parts) values reply = IsOverParts ask parts values reply

abbrev pub IsOverDocument : Asked → Option Data → Reply → Type 0
IsOverDocument ask None reply = reply ≡ meta_refused (line_of NotJson)
IsOverDocument ask (Some json) reply = IsOverForm ask (parts_of json) (values_of json) reply
