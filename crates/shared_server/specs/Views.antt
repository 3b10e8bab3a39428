-- What is told of a look at tables, by the tables that it shows.
use Rattle.std.specs.Prelude.{ℕ, Bool, List, Option, None, Some, Result, Ok, Err}
use Rattle.std.specs.Arc.{arc_value}
use Rattle.dh_metadata.specs.declared.held.Records.{Records}
use Rattle.query_lang.specs.declared.plain.Query.{Query}
use Rattle.table_rows.specs.Store.{contents_in}
use Rattle.validation.specs.declared.place.Place.{Place}
use Rattle.engine.specs.declared.machine.View.{View}
use Rattle.engine.specs.declared.machine.LookFault.{LookFault}
use Rattle.engine.specs.declared.machine.LookFault.TheVariants as look
use Rattle.request_replies.specs.Texts.{not_yet_reply}
use Rattle.request_replies.specs.Queries.{answer_by}
use Rattle.request_replies.specs.Checks.{check_by}

-- to who asks a query
abbrev pub viewed_answer : Records → ℕ → Query → Bool → Result View LookFault → Option (List ℕ)
viewed_answer meta user query keep (Ok view) = Some (answer_by meta (contents_in (arc_value view.tables).all) user query keep view.published)
viewed_answer meta user query keep (Err (look.NotYet published)) = Some (not_yet_reply published keep)
viewed_answer meta user query keep (Err look.Memory) = None

-- to who asks for a check
abbrev pub viewed_check : Records → ℕ → Place → Bool → Result View LookFault → Option (List ℕ)
viewed_check meta user place keep (Ok view) = Some (check_by meta (contents_in (arc_value view.tables).all) user place keep view.published)
viewed_check meta user place keep (Err (look.NotYet published)) = Some (not_yet_reply published keep)
viewed_check meta user place keep (Err look.Memory) = None
