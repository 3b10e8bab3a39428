-- What is told of a look, by the tables that it shows, is what is meant over the log.
use Rattle.std.proofs.Common.{◌≡◌, ℕ, Bool, List, Option, Some, Result, Ok, Err, IfOk, subst, take}
use Rattle.std.specs.Arc.{arc_value}
use Rattle.dh_base.specs.declared.memory.Memory.{Memory}
use Rattle.dh_changes.specs.declared.change.Change.{Change}
use Rattle.dh_metadata.specs.declared.held.Records.{Records}
use Rattle.shared_engine.specs.Views.{TokenView}
use Rattle.query_lang.specs.declared.plain.Query.{Query}
use Rattle.request_session.specs.Replies.{text_in}
use Rattle.request_session.specs.declared.reply.Reply.{Reply}
use Rattle.table_rows.specs.Store.{Listed, Contents, contents_in}
use Rattle.validation.specs.declared.place.Place.{Place}
use Rattle.engine.specs.Machine.Act.{looked}
use Rattle.engine.specs.MetaAfter.{meta_after}
use Rattle.engine.specs.Seen.{published_in}
use Rattle.engine.specs.Tables.{tables_of}
use Rattle.engine.specs.declared.machine.View.{View}
use Rattle.engine.specs.declared.machine.LookFault.{LookFault}
use Rattle.engine.specs.declared.machine.LookFault.TheVariants as look
use Rattle.shared_engine.specs.Calls.{IsCall}
use Rattle.shared_engine.specs.Entries.{Entry, entries_of}
use Rattle.shared_engine.specs.Histories.{Made}
use Rattle.request_replies.specs.Texts.{told, IsTold}
use Rattle.request_replies.specs.Queries.{answer_by, answer_over, look_text}
use Rattle.request_replies.specs.Checks.{check_by, check_over, check_text}
use Rattle.request_replies.proofs.TellLemmas.{is_told}
use Rattle.shared_server.specs.Replies.{log_known, LookReply}
use Rattle.shared_server.specs.Views.{viewed_answer, viewed_check}

-- over the rows of a view's tables
pub answer_viewed : (r : Result Reply Memory) (meta : Records) (user published : ℕ) (query : Query) (keep : Bool) (shown listed : Listed) → shown ≡ listed
    → IfOk r (λ reply. text_in reply ≡ answer_by meta (contents_in shown) user query keep published)
    → IsTold (told r) (Some (answer_by meta (contents_in listed) user query keep published))
answer_viewed r meta user published query keep shown listed is text =
    is_told r (answer_by meta (contents_in listed) user query keep published)
    (subst (λ (l : Listed). IfOk r (λ reply. text_in reply ≡ answer_by meta (contents_in l) user query keep published)) is text)

pub check_viewed : (r : Result Reply Memory) (meta : Records) (user published : ℕ) (place : Place) (keep : Bool) (shown listed : Listed) → shown ≡ listed
    → IfOk r (λ reply. text_in reply ≡ check_by meta (contents_in shown) user place keep published)
    → IsTold (told r) (Some (check_by meta (contents_in listed) user place keep published))
check_viewed r meta user published place keep shown listed is text =
    is_told r (check_by meta (contents_in listed) user place keep published)
    (subst (λ (l : Listed). IfOk r (λ reply. text_in reply ≡ check_by meta (contents_in l) user place keep published)) is text)

answer_meant : (text : Option (List ℕ)) (meta after : Records) (log : List Change) (user published : ℕ) (query : Query) (keep : Bool) (contents : Contents)
    → after ≡ meta_after meta (take published log) → contents ≡ tables_of meta (take published log)
    → IsTold text (Some (answer_by after contents user query keep published)) → IsTold text (Some (answer_over meta log user query keep published))
unfolding answer_over
answer_meant text meta after log user published query keep contents is tables tells =
    subst (λ (m : Records). IsTold text (Some (answer_by m (tables_of meta (take published log)) user query keep published))) is
    (subst (λ (c : Contents). IsTold text (Some (answer_by after c user query keep published))) tables tells)

check_meant : (text : Option (List ℕ)) (meta after : Records) (log : List Change) (user published : ℕ) (place : Place) (keep : Bool) (contents : Contents)
    → after ≡ meta_after meta (take published log) → contents ≡ tables_of meta (take published log)
    → IsTold text (Some (check_by after contents user place keep published)) → IsTold text (Some (check_over meta log user place keep published))
unfolding check_over
check_meant text meta after log user published place keep contents is tables tells =
    subst (λ (m : Records). IsTold text (Some (check_by m (tables_of meta (take published log)) user place keep published))) is
    (subst (λ (c : Contents). IsTold text (Some (check_by after c user place keep published))) tables tells)

-- one look, with its entry
abbrev pub Looks : Made → TokenView Entry → TokenView Entry → ℕ → Result ℕ LookFault → Type 0
Looks made before now asked found = (faults : ℕ) × IsCall made before now (entries_of before.caller (looked asked found) faults)

pub query_replied : (made : Made) (before now : TokenView Entry) (asked user : ℕ) (query : Query) (keep : Bool) (after : Records)
    (found : Result View LookFault)
    (text : Option (List ℕ))
    → Looks made before now asked (published_in found)
    → IfOk found (λ view. contents_in (arc_value view.tables).all ≡ tables_of made.meta (take view.published (log_known made now)))
    → IfOk found (λ view. view.published ≡ now.told) → ((log : List Change) → after ≡ meta_after made.meta log)
    → IsTold text (viewed_answer after user query keep found)
    → LookReply made asked (λ log found. look_text made.meta log user query keep found) before text now
query_replied made before now asked user query keep after (Ok view) text call tables number is tells = record {
  found = Ok view.published;
  faults = call.0;
  call = call.1;
  number = number;
  tells = answer_meant text made.meta after (log_known made now) user view.published query keep (contents_in (arc_value view.tables).all)
      (is (take view.published (log_known made now))) tables tells;
}
query_replied made before now asked user query keep after (Err (look.NotYet published)) text call tables number is tells =
    record { found = Err (look.NotYet published); faults = call.0; call = call.1; number = tt; tells = tells }
query_replied made before now asked user query keep after (Err look.Memory) text call tables number is tells =
    record { found = Err look.Memory; faults = call.0; call = call.1; number = tt; tells = tells }

pub check_replied : (made : Made) (before now : TokenView Entry) (asked user : ℕ) (place : Place) (keep : Bool) (after : Records)
    (found : Result View LookFault)
    (text : Option (List ℕ))
    → Looks made before now asked (published_in found)
    → IfOk found (λ view. contents_in (arc_value view.tables).all ≡ tables_of made.meta (take view.published (log_known made now)))
    → IfOk found (λ view. view.published ≡ now.told) → ((log : List Change) → after ≡ meta_after made.meta log)
    → IsTold text (viewed_check after user place keep found)
    → LookReply made asked (λ log found. check_text made.meta log user place keep found) before text now
check_replied made before now asked user place keep after (Ok view) text call tables number is tells = record {
  found = Ok view.published;
  faults = call.0;
  call = call.1;
  number = number;
  tells = check_meant text made.meta after (log_known made now) user view.published place keep (contents_in (arc_value view.tables).all)
      (is (take view.published (log_known made now))) tables tells;
}
check_replied made before now asked user place keep after (Err (look.NotYet published)) text call tables number is tells =
    record { found = Err (look.NotYet published); faults = call.0; call = call.1; number = tt; tells = tells }
check_replied made before now asked user place keep after (Err look.Memory) text call tables number is tells =
    record { found = Err look.Memory; faults = call.0; call = call.1; number = tt; tells = tells }
