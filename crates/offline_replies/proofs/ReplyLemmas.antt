-- Replies by cases.
use Rattle.std.proofs.Common.{◌≡◌, ◌∙◌, ℕ, ◌<◌, ◌≤◌, true, false, List, length, nat_lt, cond, Option, None, Some, refl, sym, ap, arith, Result, Ok, Err}
use Rattle.std.proofs.Common.{IfOk}
use Rattle.dh_metadata.specs.declared.held.Records.{Records}
use Rattle.json_read.specs.Bytes.{document_of}
use Rattle.meta_reader.specs.File.{most_bytes, or_shape, shaped_of, file_of}
use Rattle.meta_reader.specs.declared.file_fault.FileFault.TheVariants as file
use Rattle.meta_reader.specs.declared.fault.MetaFault.{MetaFault}
use Rattle.meta_reader.specs.declared.fault.MetaFault.TheVariants as fault
use Rattle.meta_reader.specs.Read.{IsMetadataOf}
use Rattle.meta_reader.proofs.OneMetadata.{one-metadata, metadata-from-parts, metadata-from-fault}
use Rattle.meta_forms.specs.Parts.{parts_of}
use Rattle.serde_json.specs.Data.{Data}
use Rattle.std.specs.Option.{option_map_or}
use Rattle.meta_reader.specs.Line.{line_of}
use Rattle.meta_reader.specs.declared.fault.Which.TheVariants.{Bytes}
use Rattle.offline_replies.specs.Reply.{meta_refused}
use Rattle.offline_replies.specs.Answer.{reply_with_values}
use Rattle.offline_replies.specs.Bytes.{Asked, values_of, values_in, reply_over, IsReplyTo}
use Rattle.offline_replies.specs.Steps.{IsOverParts, IsOverForm, IsOverDocument}
use Rattle.dh_base.specs.declared.memory.Memory.{Memory}
use Rattle.dh_metadata.specs.declared.parts.MetaParts.{MetaParts}
use Rattle.json_read.specs.Forms.{Formed}
use Rattle.json_read.specs.Given.{Gives}
use Rattle.json_read.specs.declared.fault.FormFault.{FormFault}
use Rattle.import_forms.specs.declared.set.SetValue.{SetValue}
use Rattle.offline_replies.specs.declared.bundle.reply.Reply.{Reply}

lt-test : (m n : ℕ) → m < n → nat_lt m n ≡ true
lt-test m n less = grind arith

ge-test : (m n : ℕ) → n ≤ m → nat_lt m n ≡ false
ge-test m n less = grind arith

long-file : (bytes : List ℕ) → most_bytes < length bytes → file_of bytes ≡ Err file.TooLong
unfolding file_of
long-file bytes long =
    ap (λ b. cond b (Err file.TooLong) (option_map_or shaped_of (document_of bytes) (Err file.NotJson))) (lt-test most_bytes (length bytes) long)

short-file : (bytes : List ℕ) → length bytes ≤ most_bytes → file_of bytes ≡ option_map_or shaped_of (document_of bytes) (Err file.NotJson)
unfolding file_of
short-file bytes short =
    ap (λ b. cond b (Err file.TooLong) (option_map_or shaped_of (document_of bytes) (Err file.NotJson))) (ge-test most_bytes (length bytes) short)

-- a bundle of too many bytes is refused
pub long_reply : (ask : Asked) (bytes : List ℕ) (reply : Reply) → most_bytes < length bytes → reply ≡ meta_refused (line_of (fault.Limit Bytes))
    → IsReplyTo ask bytes reply
unfolding IsReplyTo
long_reply ask bytes reply long is = (Err (fault.Limit Bytes), metadata-from-fault bytes file.TooLong (long-file bytes long), is)

over_form : (ask : Asked) (bytes : List ℕ) (form : Formed MetaParts) (values : Formed (List SetValue)) (reply : Reply)
    → values_in (document_of bytes) ≡ values → file_of bytes ≡ or_shape form → IsOverForm ask form values reply → IsReplyTo ask bytes reply
unfolding IsReplyTo IsOverParts
over_form ask bytes (Ok parts) values reply own says over = (
  over.0,
  metadata-from-parts bytes parts over.0 says over.1,
  over.2 ∙ ap (λ (v : Formed (List SetValue)). reply_over ask v over.0) (sym own),
)
over_form ask bytes (Err path) values reply own says over = (Err (fault.Shape path), metadata-from-fault bytes (file.Shape path) says, over)

over_document : (ask : Asked) (bytes : List ℕ) (document : Option Data) (reply : Reply) → document_of bytes ≡ document
    → file_of bytes ≡ option_map_or shaped_of document (Err file.NotJson) → IsOverDocument ask document reply → IsReplyTo ask bytes reply
unfolding IsReplyTo
over_document ask bytes None reply read says over = (Err fault.NotJson, metadata-from-fault bytes file.NotJson says, over)
over_document ask bytes (Some json) reply read says over =
    over_form ask bytes (parts_of json) (values_of json) reply (ap values_in read) says over

-- a bundle that isn't too long is replied to by its document
pub short_reply : (ask : Asked) (bytes : List ℕ) (reply : Reply) → length bytes ≤ most_bytes → IsOverDocument ask (document_of bytes) reply
    → IsReplyTo ask bytes reply
short_reply ask bytes reply short over = over_document ask bytes (document_of bytes) reply refl (short-file bytes short) over

-- metadata were made, and over them the reply was made
pub over_made : (ask : Asked) (parts : MetaParts) (given : Result (List SetValue) FormFault) (r : Records) (result : Result Reply Memory)
    → IsMetadataOf parts (Ok r)
    → IfOk result (λ reply. (formed : Formed (List SetValue)) → Gives formed given → reply ≡ reply_with_values r ask.user ask.query ask.moment formed)
    → IfOk result (λ reply. (formed : Formed (List SetValue)) → Gives formed given → IsOverParts ask parts formed reply)
unfolding IsOverParts
over_made ask parts given r (Ok reply) is made = λ formed gives. (Ok r, is, made formed gives)
over_made ask parts given r (Err memory) is made = tt

-- metadata are refused, and that is the reply
pub over_refused : (ask : Asked) (parts : MetaParts) (given : Result (List SetValue) FormFault) (found : MetaFault) (result : Result Reply Memory)
    → IsMetadataOf parts (Err found) → IfOk result (λ reply. reply ≡ meta_refused (line_of found))
    → IfOk result (λ reply. (formed : Formed (List SetValue)) → Gives formed given → IsOverParts ask parts formed reply)
unfolding IsOverParts
over_refused ask parts given found (Ok reply) is refused = λ formed gives. (Err found, is, refused)
over_refused ask parts given found (Err memory) is refused = tt

-- ---- there is one reply

one-reply : (ask : Asked) (bytes : List ℕ) (one other : Reply) → IsReplyTo ask bytes one → IsReplyTo ask bytes other → other ≡ one
unfolding IsReplyTo
one-reply ask bytes one other first second =
    second.2
    ∙ ap (λ (m : Result Records MetaFault). reply_over ask (values_in (document_of bytes)) m) (one-metadata bytes second.0 first.0 second.1 first.1)
    ∙ sym first.2

-- of every reply
pub sole_reply : (ask : Asked) (bytes : List ℕ) (result : Result Reply Memory) → IfOk result (λ reply. IsReplyTo ask bytes reply)
    → IfOk result (λ reply. (other : Reply) → IsReplyTo ask bytes other → other ≡ reply)
sole_reply ask bytes (Ok reply) is = λ other also. one-reply ask bytes reply other is also
sole_reply ask bytes (Err e) is = tt
