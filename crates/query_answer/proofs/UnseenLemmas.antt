-- What a user doesn't see changes no byte, nor does the order in which it stands that the user sees.
use Rattle.std.proofs.Common.{◌≡◌, ◌∙◌, ℕ, ◌+◌, Bool, false, List, [], ◌∷◌, ◌++◌, Option, None, Some, Ok, refl, ap, slice_get}
use Rattle.std.proofs.Math.Path.{fun_ext}
use Rattle.std.specs.List.{find, flat_map, list_any}
use Rattle.std.specs.Option.{option_map_or}
use Rattle.dh_base.specs.Fractions.{Fraction}
use Rattle.dh_base.specs.declared.plain.Rate.{Rate}
use Rattle.dh_periods.specs.declared.name.PeriodName.{PeriodName}
use Rattle.expr_lang.specs.declared.tree.Item.{Item}
use Rattle.dh_metadata.specs.declared.held.Records.{Records}
use Rattle.dh_metadata.specs.declared.records.Indicator.{Indicator}
use Rattle.program_cells.proofs.CellLemmas.{cell_value-permutation}
use Rattle.cell_values.specs.Seen.{SeenRecords, SameSeen}
use Rattle.cell_values.specs.Cells.{cell_of, days_in}
use Rattle.cell_values.specs.Items.{item_value_of}
use Rattle.cell_values.proofs.RateLemmas.{rate_of-permutation}
use Rattle.cell_values.proofs.ReorderLemmas.{aggregate_of-permutation, item_value_of-same}
use Rattle.query_answer.specs.declared.arithmetic.CellValue.TheVariants as cell
use Rattle.query_answer.specs.Value.{indicator_value_of}
use Rattle.query_lang.specs.declared.plain.Dx.{Dx}
use Rattle.query_lang.specs.declared.plain.DxKind.{DxKind}
use Rattle.query_lang.specs.declared.plain.DxKind.TheVariants as dx_kind
use Rattle.query_lang.specs.declared.plain.Query.{Query}
use Rattle.query_answer.specs.declared.body_rows.AnswerRow.{AnswerRow}
use Rattle.serde_json.specs.Written.{compact_text}
use Rattle.query_answer.specs.Body.{body_of}
use Rattle.query_answer.specs.Cells.{of_option, of_program, element_cell, rate_cell, indicator_cell, program_cell, cell_by, cell_value, is_wide}
use Rattle.query_answer.specs.Rows.{Slot, row_with, period_slots, unit_slots, unit_is_wide, unit_rows, period_is_wide, period_rows, dx_is_wide, dx_rows}
use Rattle.query_answer.specs.Rows.{rows_from}
use Rattle.query_answer.specs.Answer.{wide_dx, answer_with, answer_of}

element_same : (r : Records) (one other : SeenRecords) (element : ℕ) (part : Option ℕ) (periods : List PeriodName) (units : List ℕ) → SameSeen one other
    → element_cell r one.samples element part periods units ≡ element_cell r other.samples element part periods units
unfolding element_cell
element_same r one other element part periods units same =
    ap of_option (aggregate_of-permutation r one.samples other.samples (cell_of element part None periods units false) same.samples)

indicator_same : (r : Records) (one other : SeenRecords) (indicator : Indicator) (periods : List PeriodName) (units : List ℕ) → SameSeen one other
    → indicator_cell r one indicator periods units ≡ indicator_cell r other indicator periods units
unfolding indicator_cell
indicator_same r one other indicator periods units same =
    let first : Item → Option Fraction = λ asked. item_value_of r one asked periods units false in
    let second : Item → Option Fraction = λ asked. item_value_of r other asked periods units false in
    let alike : first ≡ second = fun_ext (λ asked. item_value_of-same r one other asked periods units false same) in
    ap (λ (value : Item → Option Fraction). indicator_value_of r value (days_in periods) indicator) alike

some_indicator : (r : Records) (one other : SeenRecords) (found : Option Indicator) (periods : List PeriodName) (units : List ℕ) → SameSeen one other
    → option_map_or (λ indicator. indicator_cell r one indicator periods units) found cell.None
    ≡ option_map_or (λ indicator. indicator_cell r other indicator periods units) found cell.None
some_indicator r one other None periods units same = refl
some_indicator r one other (Some indicator) periods units same = indicator_same r one other indicator periods units same

rate_same : (r : Records) (one other : SeenRecords) (which : Rate) (set : ℕ) (periods : List PeriodName) (units : List ℕ) → SameSeen one other
    → rate_cell r one.regs which set periods units ≡ rate_cell r other.regs which set periods units
unfolding rate_cell
rate_same r one other which set periods units same =
    ap of_option (rate_of-permutation r which set periods units one.regs other.regs false same.regs)

program_same : (r : Records) (one other : SeenRecords) (n : ℕ) (periods : List PeriodName) (units : List ℕ) → SameSeen one other
    → program_cell r one.events n periods units ≡ program_cell r other.events n periods units
unfolding program_cell
program_same r one other n periods units same = ap of_program (cell_value-permutation r n periods units one.events other.events same.events)

kind_same : (r : Records) (one other : SeenRecords) (kind : DxKind) (n : ℕ) (part : Option ℕ) (periods : List PeriodName) (units : List ℕ) → SameSeen one other
    → cell_by r one kind n part periods units ≡ cell_by r other kind n part periods units
kind_same r one other dx_kind.Element n part periods units same = element_same r one other n part periods units same
kind_same r one other dx_kind.Indicator n part periods units same = some_indicator r one other (slice_get r.indicators n) periods units same
kind_same r one other dx_kind.ProgramIndicator n part periods units same = program_same r one other n periods units same
kind_same r one other (dx_kind.Rate rate) n part periods units same = rate_same r one other rate n periods units same

cell_same : (r : Records) (one other : SeenRecords) (dx : Dx) (periods : List PeriodName) (units : List ℕ) → SameSeen one other
    → cell_value r one dx periods units ≡ cell_value r other dx periods units
unfolding cell_value
cell_same r one other dx periods units same = kind_same r one other dx.kind dx.number dx.part periods units same

-- ---- whether cells are too wide

unit_wide_same : (r : Records) (one other : SeenRecords) (dx : Dx) (period : Slot PeriodName) (unit : Slot ℕ) → SameSeen one other
    → unit_is_wide r one dx period unit ≡ unit_is_wide r other dx period unit
unfolding unit_is_wide
unit_wide_same r one other dx period unit same = ap is_wide (cell_same r one other dx period.items unit.items same)

period_wide_same : (r : Records) (one other : SeenRecords) (dx : Dx) (units : List (Slot ℕ)) (period : Slot PeriodName) → SameSeen one other
    → period_is_wide r one dx units period ≡ period_is_wide r other dx units period
unfolding period_is_wide
period_wide_same r one other dx units period same =
    let first : Slot ℕ → Bool = unit_is_wide r one dx period in
    let second : Slot ℕ → Bool = unit_is_wide r other dx period in
    let alike : first ≡ second = fun_ext (λ unit. unit_wide_same r one other dx period unit same) in
    ap (λ (test : Slot ℕ → Bool). list_any test units) alike

dx_wide_same : (r : Records) (one other : SeenRecords) (query : Query) (dx : Dx) → SameSeen one other → dx_is_wide r one query dx ≡ dx_is_wide r other query dx
unfolding dx_is_wide
dx_wide_same r one other query dx same =
    let first : Slot PeriodName → Bool = period_is_wide r one dx (unit_slots query) in
    let second : Slot PeriodName → Bool = period_is_wide r other dx (unit_slots query) in
    let alike : first ≡ second = fun_ext (λ period. period_wide_same r one other dx (unit_slots query) period same) in
    ap (λ (test : Slot PeriodName → Bool). list_any test (period_slots query)) alike

wide_same : (r : Records) (query : Query) (one other : SeenRecords) → SameSeen one other → wide_dx r query one ≡ wide_dx r query other
wide_same r query one other same =
    let first : Dx → Bool = dx_is_wide r one query in
    let second : Dx → Bool = dx_is_wide r other query in
    let alike : first ≡ second = fun_ext (λ dx. dx_wide_same r one other query dx same) in
    ap (λ (test : Dx → Bool). find test query.dx) alike

-- ---- the rows

unit_rows_same : (r : Records) (one other : SeenRecords) (place : ℕ) (dx : Dx) (period : Slot PeriodName) (unit : Slot ℕ) → SameSeen one other
    → unit_rows r one place dx period unit ≡ unit_rows r other place dx period unit
unfolding unit_rows
unit_rows_same r one other place dx period unit same = ap (row_with r place dx period unit) (cell_same r one other dx period.items unit.items same)

period_rows_same : (r : Records) (one other : SeenRecords) (place : ℕ) (dx : Dx) (units : List (Slot ℕ)) (period : Slot PeriodName) → SameSeen one other
    → period_rows r one place dx units period ≡ period_rows r other place dx units period
unfolding period_rows
period_rows_same r one other place dx units period same =
    let first : Slot ℕ → List AnswerRow = unit_rows r one place dx period in
    let second : Slot ℕ → List AnswerRow = unit_rows r other place dx period in
    let alike : first ≡ second = fun_ext (λ unit. unit_rows_same r one other place dx period unit same) in
    ap (λ (rows : Slot ℕ → List AnswerRow). flat_map rows units) alike

dx_rows_same : (r : Records) (one other : SeenRecords) (query : Query) (place : ℕ) (dx : Dx) → SameSeen one other
    → dx_rows r one query place dx ≡ dx_rows r other query place dx
unfolding dx_rows
dx_rows_same r one other query place dx same =
    let first : Slot PeriodName → List AnswerRow = period_rows r one place dx (unit_slots query) in
    let second : Slot PeriodName → List AnswerRow = period_rows r other place dx (unit_slots query) in
    let alike : first ≡ second = fun_ext (λ period. period_rows_same r one other place dx (unit_slots query) period same) in
    ap (λ (rows : Slot PeriodName → List AnswerRow). flat_map rows (period_slots query)) alike

rows_same : (r : Records) (one other : SeenRecords) (query : Query) (place : ℕ) (more : List Dx) → SameSeen one other
    → rows_from r one query place more ≡ rows_from r other query place more
rows_same r one other query place [] same = refl
rows_same r one other query place (dx ∷ more) same =
    ap (λ (first : List AnswerRow). first ++ rows_from r one query (place + 1) more) (dx_rows_same r one other query place dx same)
    ∙ ap (λ (rest : List AnswerRow). dx_rows r other query place dx ++ rest) (rows_same r one other query (place + 1) more same)

-- ---- the answer

with_same : (r : Records) (query : Query) (one other : SeenRecords) (found : Option Dx) → SameSeen one other
    → answer_with r query one found ≡ answer_with r query other found
with_same r query one other None same =
    ap (λ (rows : List AnswerRow). Ok (compact_text (body_of r query rows))) (rows_same r one other query 0 query.dx same)
with_same r query one other (Some dx) same = refl

-- where a user sees the same, in whatever order it stands, the answers are the same
pub answer_of-same : (r : Records) (query : Query) (one other : SeenRecords) → SameSeen one other → answer_of r query one ≡ answer_of r query other
unfolding answer_of
answer_of-same r query one other same =
    with_same r query one other (wide_dx r query one) same ∙ ap (answer_with r query other) (wide_same r query one other same)
