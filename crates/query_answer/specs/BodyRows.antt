-- The rows.
use Rattle.std.specs.Prelude.{ℕ, ◌<◌, List, [], ◌∷◌, ◌++◌, length, map, slice_get, Option, Some, None}
use Rattle.std.specs.Option.{option_map_or}
use Rattle.serde_json.specs.Data.{Data, array}
use Rattle.serde_json.specs.View.{items_of}
use Rattle.dh_periods.specs.declared.name.PeriodName.{PeriodName}
use Rattle.dh_periods.specs.Texts.{period_text}
use Rattle.dh_metadata.specs.declared.held.Records.{Records}
use Rattle.dh_metadata.specs.declared.records.Unit.{Unit}
use Rattle.dh_metadata.specs.Linked.{IsBelow}
use Rattle.query_lang.specs.declared.plain.Dx.{Dx}
use Rattle.query_answer.specs.declared.body_rows.AnswerRow.{AnswerRow}
use Rattle.query_answer.specs.Texts.{texts_of}

-- a row of one of these dx items, of a unit that is there
pub record IsRow (r : Records) (asked : List Dx) (row : AnswerRow) : Type 0 where
  pub dx : row.dx < length asked
  pub unit : IsBelow (length r.organisation_units) row.unit

abbrev pub dx_text : List Dx → ℕ → List ℕ
dx_text dx place = option_map_or (λ (found : Dx). found.text) (slice_get dx place) []

abbrev pub unit_id : Records → ℕ → List ℕ
unit_id r unit = option_map_or (λ (found : Unit). found.id) (slice_get r.organisation_units unit) []

abbrev pub period_texts : Option PeriodName → List (List ℕ)
period_texts None = []
period_texts (Some period) = period_text period ∷ []

abbrev pub unit_texts : Records → Option ℕ → List (List ℕ)
unit_texts r None = []
unit_texts r (Some unit) = unit_id r unit ∷ []

-- the texts of a row
abbrev pub row_texts : Records → List Dx → AnswerRow → List (List ℕ)
row_texts r dx row = dx_text dx row.dx ∷ [] ++ period_texts row.period ++ unit_texts r row.unit ++ row.value ∷ []

unfoldable pub row_of : Records → List Dx → AnswerRow → Data
row_of r dx row = array (items_of (texts_of (row_texts r dx row)))

abbrev pub rows_of : Records → List Dx → List AnswerRow → List Data
rows_of r dx rows = map (row_of r dx) rows
