-- The body as it is written: what stands before its rows, the rows, and what stands after them.
use Rattle.std.specs.Prelude.{◌≡◌, ℕ, Bool, true, false, List, [], ◌∷◌, ◌++◌, length, Option, codes}
use Rattle.serde_json.specs.Data.{number, unsigned, string, array}
use Rattle.serde_json.specs.View.{items_of}
use Rattle.serde_json.specs.Written.{compact_text}
use Rattle.dh_periods.specs.declared.name.PeriodName.{PeriodName}
use Rattle.dh_metadata.specs.declared.held.Records.{Records}
use Rattle.query_lang.specs.declared.plain.Dx.{Dx}
use Rattle.query_lang.specs.declared.plain.Query.{Query}
use Rattle.query_answer.specs.declared.body_rows.AnswerRow.{AnswerRow}
use Rattle.query_answer.specs.declared.body_rows.RowStart.{RowStart}
use Rattle.query_answer.specs.Texts.{in_quotes, more_texts}
use Rattle.query_answer.specs.Heads.{heads_of}
use Rattle.query_answer.specs.Body.{told_of}
use Rattle.query_answer.specs.BodyRows.{dx_text, period_texts, row_of, rows_of}

-- what the rows of a dx item and a period begin with
unfoldable pub start_text : List Dx → ℕ → Option PeriodName → List ℕ
start_text dx place period = 91 ∷ (in_quotes (dx_text dx place) ++ more_texts (period_texts period))

abbrev pub IsStart : List Dx → RowStart → Type 0
IsStart dx start = start.text.items ≡ start_text dx start.dx start.period

unfoldable pub row_text : Records → List Dx → AnswerRow → List ℕ
row_text r dx row = compact_text (row_of r dx row)

-- a row after another
abbrev pub more_row : Records → List Dx → AnswerRow → List ℕ
more_row r dx row = 44 ∷ row_text r dx row

unfoldable pub rows_text : Records → List Dx → List AnswerRow → List ℕ
rows_text r dx rows = compact_text (array (items_of (rows_of r dx rows)))

-- the name of a member, after another
abbrev pub name_text : List ℕ → List ℕ
name_text name = 44 ∷ (compact_text (string name) ++ 58 ∷ [])

-- how many columns there are
abbrev pub width_text : Bool → Bool → List ℕ
width_text periods units = compact_text (number (unsigned (length (heads_of periods units))))

-- the digit of their number
abbrev pub width_digit : Bool → Bool → ℕ
width_digit true true = 50
width_digit false false = 52
width_digit _ _ = 51

abbrev pub opening_text : Bool → Bool → List ℕ
opening_text periods units =
    123 ∷ (compact_text (string (codes "headerWidth")) ++ 58 ∷ width_digit periods units ∷ (name_text (codes "headers") ++ 91 ∷ []))

abbrev pub text_unless : Bool → List ℕ → List ℕ
text_unless true text = []
text_unless false text = text

-- the heads of the columns, after how many they are
unfoldable pub heads_text : Bool → Bool → List ℕ
heads_text periods units =
    123 ∷ (compact_text (string (codes "headerWidth")) ++ 58 ∷ (width_text periods units
    ++ (name_text (codes "headers") ++ compact_text (array (items_of (heads_of periods units))))))

-- all that stands before the array of the rows
unfoldable pub before_text : Records → Query → ℕ → List ℕ
before_text r query height =
    heads_text query.periods.filter query.units.filter
    ++ (name_text (codes "height") ++ (compact_text (number (unsigned height))
    ++ (name_text (codes "metaData") ++ (compact_text (told_of query.meta r query) ++ name_text (codes "rows")))))

-- all that stands after it
unfoldable pub after_text : Bool → Bool → List ℕ
after_text periods units = name_text (codes "width") ++ width_digit periods units ∷ 125 ∷ []
