-- A query: a look at the tables, and the answer over what the user sees of them.
use Rattle.std.specs.Prelude.{ℕ, Bool, List, take, Option, None, Some, Result, Ok, Err}
use Rattle.dh_changes.specs.declared.change.Change.{Change}
use Rattle.dh_metadata.specs.declared.held.Records.{Records}
use Rattle.query_lang.specs.declared.plain.Query.{Query}
use Rattle.query_answer.specs.Answer.{answer_of}
use Rattle.cell_values.specs.Seen.{seen_of}
use Rattle.table_rows.specs.Store.{Contents}
use Rattle.engine.specs.Machine.{Step}
use Rattle.engine.specs.Machine.Act.{looked}
use Rattle.engine.specs.Seen.{Seen}
use Rattle.engine.specs.Tables.{tables_of}
use Rattle.engine.specs.MetaAfter.{meta_after}
use Rattle.engine.specs.declared.machine.LookFault.{LookFault}
use Rattle.engine.specs.declared.machine.LookFault.TheVariants as look
use Rattle.request_replies.specs.Texts.{IsTold, answer_reply, not_yet_reply}

-- the answer over tables that stand for so many changes, to a user with the rights and the tree that these leave
unfoldable pub answer_by : Records → Contents → ℕ → Query → Bool → ℕ → List ℕ
answer_by meta tables user query keep published = answer_reply published keep (answer_of meta query (seen_of meta user tables))

-- the answer over the tables of the first changes of a log
unfoldable pub answer_over : Records → List Change → ℕ → Query → Bool → ℕ → List ℕ
answer_over meta log user query keep published =
    answer_by (meta_after meta (take published log)) (tables_of meta (take published log)) user query keep published

abbrev pub look_text : Records → List Change → ℕ → Query → Bool → Result ℕ LookFault → Option (List ℕ)
look_text meta log user query keep (Ok published) = Some (answer_over meta log user query keep published)
look_text meta log user query keep (Err (look.NotYet published)) = Some (not_yet_reply published keep)
look_text meta log user query keep (Err look.Memory) = None

-- the reply to a query that asks for tables of at least so many changes; the machine stays
pub record QueryReply (machine : Seen) (user asked : ℕ) (query : Query) (keep : Bool) (text : Option (List ℕ)) : Type 0 where
  pub found : Result ℕ LookFault
  pub looks : Step machine.meta machine.limits machine.state (looked asked found) machine.state
  pub tells : IsTold text (look_text machine.meta machine.state.log user query keep found)
