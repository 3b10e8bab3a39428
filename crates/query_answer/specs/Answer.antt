-- The answer to a query.
use Rattle.std.specs.Prelude.{ℕ, List, Option, Some, None, Result, Ok, Err, find}
use Rattle.serde_json.specs.Written.{compact_text}
use Rattle.dh_metadata.specs.declared.held.Records.{Records}
use Rattle.cell_values.specs.Seen.{SeenRecords}
use Rattle.query_lang.specs.declared.plain.Dx.{Dx}
use Rattle.query_lang.specs.declared.plain.Query.{Query}
use Rattle.query_answer.specs.Body.{body_of}
use Rattle.query_answer.specs.declared.whole.AnswerFault.{AnswerFault}
use Rattle.query_answer.specs.declared.whole.AnswerFault.TheVariants as fault
use Rattle.query_answer.specs.Rows.{dx_is_wide, rows_from}

-- the first dx item with a cell that is too wide
abbrev pub wide_dx : Records → Query → SeenRecords → Option Dx
wide_dx r query shown = find (dx_is_wide r shown query) query.dx

abbrev pub answer_with : Records → Query → SeenRecords → Option Dx → Result (List ℕ) (List ℕ)
answer_with r query shown (Some dx) = Err dx.text
answer_with r query shown None = Ok (compact_text (body_of r query (rows_from r shown query 0 query.dx)))

-- the text of the body over the seen records, or that of the first dx item with a cell that is too wide
unfoldable pub answer_of : Records → Query → SeenRecords → Result (List ℕ) (List ℕ)
answer_of r query shown = answer_with r query shown (wide_dx r query shown)

-- why there is no answer; running out of memory has no cause
abbrev pub cause_of : AnswerFault → Option (List ℕ)
cause_of (fault.Wide id) = Some id
cause_of fault.Memory = None
