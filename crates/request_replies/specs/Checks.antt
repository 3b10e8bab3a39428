-- A check: a look at the tables, and the violations in what the user sees of them.
use Rattle.std.specs.Prelude.{ℕ, Bool, List, take, Option, None, Some, Result, Ok, Err}
use Rattle.serde_json.specs.Written.{compact_text}
use Rattle.dh_base.specs.declared.codes.Code.TheVariants.{F18}
use Rattle.dh_changes.specs.declared.change.Change.{Change}
use Rattle.dh_metadata.specs.declared.held.Records.{Records}
use Rattle.query_lang.specs.Given.{refusal}
use Rattle.cell_values.specs.Seen.{seen_of}
use Rattle.table_rows.specs.Store.{Contents}
use Rattle.request_session.specs.Replies.{reply_text}
use Rattle.engine.specs.Machine.{Step}
use Rattle.engine.specs.Machine.Act.{looked}
use Rattle.engine.specs.Seen.{Seen}
use Rattle.engine.specs.Tables.{tables_of}
use Rattle.engine.specs.MetaAfter.{meta_after}
use Rattle.engine.specs.declared.machine.LookFault.{LookFault}
use Rattle.engine.specs.declared.machine.LookFault.TheVariants as look
use Rattle.validation.specs.declared.outcome.Violation.{Violation}
use Rattle.validation.specs.declared.place.Place.{Place}
use Rattle.web_routes.specs.declared.checked.Checked.{Checked}
use Rattle.validation.specs.Body.{body_of}
use Rattle.validation.specs.Check.{check_of}
use Rattle.request_replies.specs.Texts.{IsTold, refusal_reply, not_yet_reply}

-- what a call names is what is checked
abbrev pub place_of : Checked → Place
place_of checked = record { set = checked.set; period = checked.period; unit = checked.unit }

-- the violations, or the rule that is too wide, over tables that stand for so many changes
unfoldable pub check_reply : Records → ℕ → Bool → Result (List Violation) (List ℕ) → List ℕ
check_reply r published keep (Ok violations) = reply_text 200 (Some published) None keep (compact_text (body_of r violations))
check_reply r published keep (Err id) = refusal_reply (Some published) keep (refusal F18 id)

-- the refusal for the rule that is too wide, where there is one
abbrev pub refused_text : Records → ℕ → Bool → Option (List ℕ) → Option (List ℕ)
refused_text r published keep None = None
refused_text r published keep (Some id) = Some (check_reply r published keep (Err id))

-- the check over tables that stand for so many changes, for a user with the rights and the tree that these leave
unfoldable pub check_by : Records → Contents → ℕ → Place → Bool → ℕ → List ℕ
check_by meta tables user place keep published = check_reply meta published keep (check_of meta user (seen_of meta user tables) place)

-- the check over the tables of the first changes of a log
unfoldable pub check_over : Records → List Change → ℕ → Place → Bool → ℕ → List ℕ
check_over meta log user place keep published =
    check_by (meta_after meta (take published log)) (tables_of meta (take published log)) user place keep published

abbrev pub check_text : Records → List Change → ℕ → Place → Bool → Result ℕ LookFault → Option (List ℕ)
check_text meta log user place keep (Ok published) = Some (check_over meta log user place keep published)
check_text meta log user place keep (Err (look.NotYet published)) = Some (not_yet_reply published keep)
check_text meta log user place keep (Err look.Memory) = None

-- the reply to a check that asks for tables of at least so many changes; the machine stays
pub record CheckReply (machine : Seen) (user asked : ℕ) (place : Place) (keep : Bool) (text : Option (List ℕ)) : Type 0 where
  pub found : Result ℕ LookFault
  pub looks : Step machine.meta machine.limits machine.state (looked asked found) machine.state
  pub tells : IsTold text (check_text machine.meta machine.state.log user place keep found)
