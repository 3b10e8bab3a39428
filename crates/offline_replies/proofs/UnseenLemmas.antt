-- A reply over a bundle depends on what its user sees of the values.
use Rattle.std.proofs.Common.{◌≡◌, ◌∙◌, ℕ, ℤ, List, Some, Result, Ok, Err, IfOk, sym, ap, refl}
use Rattle.dh_base.specs.declared.codes.Refusal.{Refusal}
use Rattle.dh_base.specs.declared.memory.Memory.{Memory}
use Rattle.dh_changes.specs.declared.change.Change.{Change}
use Rattle.dh_periods.specs.Moment.{day_of}
use Rattle.json_read.specs.Bytes.{document_of}
use Rattle.json_read.specs.Forms.{Formed}
use Rattle.dh_metadata.specs.declared.held.Records.{Records}
use Rattle.meta_reader.specs.declared.fault.MetaFault.{MetaFault}
use Rattle.meta_reader.proofs.OneMetadata.{one-metadata}
use Rattle.query_lang.specs.declared.plain.Query.{Query}
use Rattle.query_lang.specs.Query.{query_of}
use Rattle.query_lang.specs.declared.query.TheConstants.{MOST_CELLS}
use Rattle.query_answer.specs.Answer.{answer_of}
use Rattle.query_answer.proofs.UnseenLemmas.{answer_of-same}
use Rattle.engine.proofs.AfterLemmas.{same_after}
use Rattle.engine.specs.MetaAfter.{meta_after}
use Rattle.cell_values.specs.Seen.{SameSeen}
use Rattle.import_forms.specs.declared.set.SetValue.{SetValue}
use Rattle.offline_replies.specs.Reply.{answer_reply}
use Rattle.offline_replies.specs.Load.{log_of}
use Rattle.offline_replies.specs.Answer.{seen_after, reply_to_query, reply_by_status, reply_by_load, reply_to_load, user_named, reply_by_user}
use Rattle.offline_replies.specs.Answer.{reply_with_values}
use Rattle.offline_replies.specs.Bytes.{Asked, values_in, reply_over, IsReplyTo}
use Rattle.offline_replies.specs.Unseen.{AreTaken, UnseenStays, IsUnseenReply}
use Rattle.offline_replies.specs.declared.bundle.reply.Reply.{Reply}

-- the reply to a query over logs of which the user sees the same
query-same : (r : Records) (user : ℕ) (log other : List Change) (read : Result Query Refusal)
    → SameSeen (seen_after r user log) (seen_after r user other)
    → reply_to_query r user other read ≡ reply_to_query r user log read
unfolding reply_to_query
query-same r user log other (Ok query) same =
    ap answer_reply (ap (λ m. answer_of m query (seen_after r user other)) (same_after r other log)
    ∙ sym (answer_of-same (meta_after r log) query (seen_after r user log) (seen_after r user other) same))
query-same r user log other (Err refused) same = refl

-- the reply over values that are all taken is that to the query
taken : (r : Records) (name text : List ℕ) (moment : ℤ) (values : List SetValue) (user : ℕ) → user_named r name ≡ Some user → AreTaken r moment values
    → reply_with_values r name text moment (Ok values) ≡ reply_to_query r user (log_of r moment values)
    (query_of (meta_after r (log_of r moment values)) user (day_of moment) MOST_CELLS text)
unfolding reply_with_values reply_to_load
taken r name text moment values user named are =
    ap (λ found. reply_by_user r found text moment values) named
    ∙ ap (reply_by_load r user text moment (log_of r moment values)) are.loaded_is
    ∙ ap (reply_by_status r user text moment (log_of r moment values) are.report) are.taken

stays : (ask : Asked) (r : Records) (values : List SetValue) (reply : Reply) → reply ≡ reply_with_values r ask.user ask.query ask.moment (Ok values)
    → UnseenStays ask r values reply
stays ask r values reply is = λ user named are others moment day theirs same.
    taken r ask.user ask.query moment others user named theirs
    ∙ ap (λ d. reply_to_query r user (log_of r moment others) (query_of (meta_after r (log_of r moment others)) user d MOST_CELLS ask.query)) day
    ∙ ap (λ m. reply_to_query r user (log_of r moment others) (query_of m user (day_of ask.moment) MOST_CELLS ask.query))
    (same_after r (log_of r moment others) (log_of r ask.moment values))
    ∙ query-same r user (log_of r ask.moment values) (log_of r moment others)
    (query_of (meta_after r (log_of r ask.moment values)) user (day_of ask.moment) MOST_CELLS ask.query) same
    ∙ sym (taken r ask.user ask.query ask.moment values user named are) ∙ sym is

over-bytes : (ask : Asked) (bytes : List ℕ) (reply : Reply) → IsReplyTo ask bytes reply → IsUnseenReply ask bytes reply
unfolding IsReplyTo
over-bytes ask bytes reply over = λ meta values read.
    let same : over.0 ≡ Ok meta = one-metadata bytes over.0 (Ok meta) over.1 read.metadata_is in
    let is : reply ≡ reply_with_values meta ask.user ask.query ask.moment (Ok values) =
    over.2
    ∙ ap (λ (m : Result Records MetaFault). reply_over ask (values_in (document_of bytes)) m) same
    ∙ ap (λ (v : Formed (List SetValue)). reply_with_values meta ask.user ask.query ask.moment v) read.values_are in
    record { reply_is = is; unseen = stays ask meta values reply is }

-- of every reply
pub unseen_bytes : (ask : Asked) (bytes : List ℕ) (result : Result Reply Memory) → IfOk result (λ reply. IsReplyTo ask bytes reply)
    → IfOk result (IsUnseenReply ask bytes)
unseen_bytes ask bytes (Ok reply) over = over-bytes ask bytes reply over
unseen_bytes ask bytes (Err e) over = tt
