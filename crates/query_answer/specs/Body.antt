-- The analytics body.
use Rattle.std.specs.Prelude.{Bool, true, false, List, length, codes}
use Rattle.std.specs.List.{All}
use Rattle.serde_json.specs.Data.{Data, number, unsigned, array, object, member, no_members}
use Rattle.serde_json.specs.View.{items_of}
use Rattle.dh_metadata.specs.declared.held.Records.{Records}
use Rattle.query_lang.specs.declared.plain.Query.{Query}
use Rattle.query_answer.specs.declared.body_rows.AnswerRow.{AnswerRow}
use Rattle.query_answer.specs.Heads.{heads_of}
use Rattle.query_answer.specs.BodyRows.{IsRow, rows_of}
use Rattle.query_answer.specs.Names.{IsThere, AreUnits, meta_of}

-- names are told only where they are asked for
abbrev pub told_of : Bool → Records → Query → Data
told_of true r query = meta_of r query
told_of false r query = object no_members

unfoldable pub body_with : List Data → Data → List Data → Data
body_with heads told rows = object
    (member (codes "headerWidth") (number (unsigned (length heads)))
    (member (codes "headers") (array (items_of heads))
    (member (codes "height") (number (unsigned (length rows)))
    (member (codes "metaData") told
    (member (codes "rows") (array (items_of rows))
    (member (codes "width") (number (unsigned (length heads))) no_members))))))

-- the body of a query with these rows
unfoldable pub body_of : Records → Query → List AnswerRow → Data
body_of r query rows =
    body_with (heads_of query.periods.filter query.units.filter) (told_of query.meta r query) (rows_of r query.dx rows)

-- what a query asks is there, and the rows are of it
pub record IsAnswer (r : Records) (query : Query) (answer : List AnswerRow) : Type 0 where
  pub dx : All (IsThere r) query.dx
  pub units : AreUnits r query.units.items
  pub rows : All (IsRow r query.dx) answer
