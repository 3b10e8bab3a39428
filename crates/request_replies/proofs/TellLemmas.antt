-- What is told, by what a call answered.
use Rattle.std.proofs.Common.{◌≡◌, ℕ, Bool, List, Option, None, Some, Result, Ok, Err, IfOk, ap, sym, subst, ◌∙◌}
use Rattle.std.specs.Prelude.{take}
use Rattle.dh_base.specs.Memory.{IsCause}
use Rattle.dh_base.specs.declared.memory.Memory.{Memory}
use Rattle.dh_base.specs.declared.plain.CutKind.{CutKind}
use Rattle.dh_changes.specs.declared.change.Change.{Change}
use Rattle.dh_metadata.specs.declared.held.Records.{Records}
use Rattle.change_log.specs.declared.limits.Limits.{Limits}
use Rattle.query_lang.specs.declared.plain.Query.{Query}
use Rattle.request_session.specs.Replies.{text_in}
use Rattle.request_session.specs.declared.reply.Reply.{Reply}
use Rattle.table_rows.specs.Store.{Listed, Contents, contents_in}
use Rattle.engine.specs.MetaAfter.{meta_after}
use Rattle.engine.specs.Tables.{tables_of}
use Rattle.engine.specs.Machine.{State, Step}
use Rattle.engine.specs.Machine.Act.{dropped}
use Rattle.engine.specs.declared.machine.Report.{Report}
use Rattle.request_replies.specs.Texts.{told, IsTold, report_reply}
use Rattle.request_replies.specs.Queries.{answer_by, answer_over}
use Rattle.request_replies.specs.Checks.{check_reply, refused_text, check_by, check_over}
use Rattle.request_replies.specs.Updates.{EndsUpdate}
use Rattle.validation.specs.declared.outcome.Violation.{Violation}
use Rattle.validation.specs.declared.place.Place.{Place}

pub is_told : (r : Result Reply Memory) (meant : List ℕ) → IfOk r (λ reply. text_in reply ≡ meant) → IsTold (told r) (Some meant)
is_told (Ok reply) meant is = ap Some (sym is)
is_told (Err e) meant is = tt

pub change_told : (keep : Bool) (report : Report) (reply : Reply) → text_in reply ≡ report_reply keep report → told (Ok reply) ≡ Some (report_reply keep report)
change_told keep report reply is = ap Some is

-- the answer over the rows of a store that stands for the published changes, with the metadata after these
pub answer_told : (r : Result Reply Memory) (meta after : Records) (log : List Change) (user published all : ℕ) (query : Query) (keep : Bool) (listed : Listed)
    → published ≡ all → after ≡ meta_after meta (take all log) → contents_in listed ≡ tables_of meta (take published log)
    → IfOk r (λ reply. text_in reply ≡ answer_by after (contents_in listed) user query keep published)
    → IsTold (told r) (Some (answer_over meta log user query keep published))
unfolding answer_over
answer_told r meta after log user published all query keep listed number is same told_is =
    is_told r (answer_by (meta_after meta (take published log)) (tables_of meta (take published log)) user query keep published)
    (subst (λ (c : Contents). IfOk r (λ reply. text_in reply ≡ answer_by (meta_after meta (take published log)) c user query keep published)) same
    (subst (λ (m : Records). IfOk r (λ reply. text_in reply ≡ answer_by m (contents_in listed) user query keep published))
    (is ∙ ap (λ n. meta_after meta (take n log)) (sym number)) told_is))

some-text : (a b : List ℕ) → Some a ≡ Some b → b ≡ a
some-text a b is = cc

-- a check is refused for its cause
pub check_refused : (r : Records) (published : ℕ) (keep : Bool) (meant : Result (List Violation) (List ℕ)) (cause : Option (List ℕ))
    (made : Result Reply Memory) → IsCause meant cause → IfOk made (λ reply. refused_text r published keep cause ≡ Some (text_in reply))
    → IfOk made (λ reply. text_in reply ≡ check_reply r published keep meant)
check_refused r published keep meant cause (Err e) is tells = tt
check_refused r published keep meant None (Ok reply) is tells = absurd (cc)
check_refused r published keep meant (Some id) (Ok reply) is tells =
    some-text (check_reply r published keep (Err id)) (text_in reply) tells ∙ ap (check_reply r published keep) (sym is)

-- the same for a check
pub check_told : (r : Result Reply Memory) (meta after : Records) (log : List Change) (user published all : ℕ) (place : Place) (keep : Bool) (listed : Listed)
    → published ≡ all → after ≡ meta_after meta (take all log) → contents_in listed ≡ tables_of meta (take published log)
    → IfOk r (λ reply. text_in reply ≡ check_by after (contents_in listed) user place keep published)
    → IsTold (told r) (Some (check_over meta log user place keep published))
unfolding check_over
check_told r meta after log user published all place keep listed number is same told_is =
    is_told r (check_by (meta_after meta (take published log)) (tables_of meta (take published log)) user place keep published)
    (subst (λ (c : Contents). IfOk r (λ reply. text_in reply ≡ check_by (meta_after meta (take published log)) c user place keep published)) same
    (subst (λ (m : Records). IfOk r (λ reply. text_in reply ≡ check_by m (contents_in listed) user place keep published))
    (is ∙ ap (λ n. meta_after meta (take n log)) (sym number)) told_is))

pub dropped_of : (meta : Records) (limits : Limits) (kind : CutKind) (ticket : ℕ) (keep : Bool) (later new : State) (r : Result Reply Memory)
    → told r ≡ None → Step meta limits later (dropped ticket) new → EndsUpdate meta limits kind ticket keep later (told r) new
dropped_of meta limits kind ticket keep later new r none step =
    subst (λ (made : Option (List ℕ)). EndsUpdate meta limits kind ticket keep later made new) (sym none) step
