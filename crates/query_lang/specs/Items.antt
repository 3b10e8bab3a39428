-- The forms of the items of dimensions.
use Rattle.std.specs.Prelude.{ℕ, ℤ, nat_lt, ◌&&◌, ◌==◌, if◌then◌else◌, List, [], ◌∷◌, length, take, drop, slice_index, bytes_eq, codes, Option, None}
use Rattle.std.specs.Prelude.{Some, option_map, option_and_then}
use Rattle.dh_base.specs.Uid.{uid_of}
use Rattle.dh_base.specs.declared.plain.Rate.{Rate}
use Rattle.dh_base.specs.declared.plain.Rate.TheVariants as rate
use Rattle.dh_periods.specs.declared.name.PeriodName.{PeriodName}
use Rattle.dh_periods.specs.Keys.{same_period}
use Rattle.dh_periods.specs.Texts.{number_of_one, number_of_two, period_of}
use Rattle.dh_periods.specs.Relative.{relative_of}
use Rattle.query_lang.specs.declared.item.DxForm.{DxForm}
use Rattle.query_lang.specs.declared.item.DxForm.TheVariants as dx
use Rattle.query_lang.specs.declared.item.DxItem.{DxItem}
use Rattle.query_lang.specs.declared.item.UnitForm.{UnitForm}
use Rattle.query_lang.specs.declared.item.UnitForm.TheVariants as unit
use Rattle.query_lang.specs.declared.item.UnitItem.{UnitItem}
use Rattle.query_lang.specs.Once.{once_from, pieces, texts_once}

-- what stands beside a name in a table
abbrev pub beside : {T : Type 0} → List (List ℕ × T) → List ℕ → Option T
beside [] name = None
beside (entry ∷ more) name = if bytes_eq name entry.0 then Some entry.1 else beside more name

-- the figure of a data set that has this name
unfoldable pub rate_named : List ℕ → Option Rate
rate_named name =
    if bytes_eq name (codes "EXPECTED_REPORTS") then Some rate.Expected
    else (if bytes_eq name (codes "ACTUAL_REPORTS") then Some rate.Actual
    else (if bytes_eq name (codes "ACTUAL_REPORTS_ON_TIME") then Some rate.OnTime
    else (if bytes_eq name (codes "REPORTING_RATE") then Some rate.Reported
    else (if bytes_eq name (codes "REPORTING_RATE_ON_TIME") then Some rate.ReportedOnTime
    else None))))

abbrev pub part_by : Option Rate → List ℕ → List ℕ → Option DxForm
part_by (Some figure) id rest = Some (dx.Rate id figure)
part_by None id rest = option_map (λ combo. dx.Operand id combo) (uid_of rest)

-- after an identifier and a point stands the name of a rate or another identifier
abbrev pub part_form : List ℕ → List ℕ → Option DxForm
part_form id rest = part_by (rate_named rest) id rest

-- two parts with a point between them
unfoldable pub pair_form : List ℕ → Option DxForm
pair_form text =
    if nat_lt 11 (length text) && slice_index text 11 == 46
    then option_and_then (λ id. part_form id (drop 12 text)) (uid_of (take 11 text)) else None

abbrev pub dx_by : Option (List ℕ) → List ℕ → Option DxForm
dx_by (Some id) text = Some (dx.Object id)
dx_by None text = pair_form text

-- an item of the dimension `dx`: `UID`, `UID.UID`, or `UID.` with the name of a rate
unfoldable pub dx_form : List ℕ → Option DxForm
dx_form text = dx_by (uid_of text) text

abbrev pub dx_item : List ℕ → Option DxItem
dx_item text = option_map (λ form. record { form = form; text = text }) (dx_form text)

-- a number of one or two digits
abbrev pub level_number : List ℕ → Option ℕ
level_number digits =
    if length digits == 1 then number_of_one (slice_index digits 0)
    else (if length digits == 2 then number_of_two (slice_index digits 0) (slice_index digits 1) else None)

-- `OU_GROUP-` with an identifier, or an identifier
unfoldable pub group_or_unit : List ℕ → Option UnitForm
group_or_unit text =
    if bytes_eq (take 9 text) (codes "OU_GROUP-") then option_map (λ id. unit.Group id) (uid_of (drop 9 text))
    else option_map (λ id. unit.Unit id) (uid_of text)

-- `LEVEL-` with a number, `OU_GROUP-` with an identifier, or an identifier
unfoldable pub named_unit : List ℕ → Option UnitForm
named_unit text =
    if bytes_eq (take 6 text) (codes "LEVEL-") then option_map (λ n. unit.Level n) (level_number (drop 6 text))
    else group_or_unit text

-- an item of the dimension `ou`
unfoldable pub unit_form : List ℕ → Option UnitForm
unit_form text =
    if bytes_eq text (codes "USER_ORGUNIT") then Some unit.User
    else (if bytes_eq text (codes "USER_ORGUNIT_CHILDREN") then Some unit.Children
    else (if bytes_eq text (codes "USER_ORGUNIT_GRANDCHILDREN") then Some unit.Grandchildren
    else named_unit text))

abbrev pub unit_item : List ℕ → Option UnitItem
unit_item text = option_map (λ form. record { form = form; text = text }) (unit_form text)

abbrev pub periods_by : Option PeriodName → List ℕ → ℤ → Option (List PeriodName)
periods_by (Some period) text day = Some (period ∷ [])
periods_by None text day = relative_of text day

-- an item of the dimension `pe`: the text of a period, or the name of relative ones, which stands for them on a day
unfoldable pub period_form : ℤ → List ℕ → Option (List PeriodName)
period_form day text = periods_by (period_of text) text day

-- each of some texts in a form
abbrev pub each : {T : Type 0} → (List ℕ → Option T) → List (List ℕ) → Option (List T)
each form [] = Some []
each form (text ∷ texts) = option_and_then (λ item. option_map (λ items. item ∷ items) (each form texts)) (form text)

-- the items of a dimension, each once
unfoldable pub item_texts : List ℕ → List (List ℕ)
item_texts text = texts_once (pieces text)

unfoldable pub dx_items : List ℕ → Option (List DxItem)
dx_items text = each dx_item (item_texts text)

unfoldable pub unit_items : List ℕ → Option (List UnitItem)
unit_items text = each unit_item (item_texts text)

-- the periods of items after others, each once
abbrev pub periods_from : ℤ → List PeriodName → List (List ℕ) → Option (List PeriodName)
periods_from day kept [] = Some kept
periods_from day kept (text ∷ texts) = option_and_then (λ found. periods_from day (once_from same_period kept found) texts) (period_form day text)

unfoldable pub period_items : ℤ → List ℕ → Option (List PeriodName)
period_items day text = periods_from day [] (item_texts text)
