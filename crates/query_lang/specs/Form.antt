-- A query as its text says it, before any metadata is asked.
use Rattle.std.specs.Prelude.{ℕ, ℤ, ◌+◌, Bool, true, false, not, ◌&&◌, ◌||◌, ◌==◌, if◌then◌else◌, List, [], ◌∷◌, map, take, drop, position, bytes_eq, codes}
use Rattle.std.specs.Prelude.{Option, None, Some, option_map, option_and_then, Result, Ok, Err}
use Rattle.std.specs.List.{list_any}
use Rattle.std.specs.Option.{option_map_or}
use Rattle.std.specs.Str.Lossy.{utf8_lossy}
use Rattle.form_urlencoded.specs.Form.{raw_pairs, decode}
use Rattle.dh_base.specs.declared.codes.Code.TheVariants as code
use Rattle.dh_base.specs.declared.codes.Refusal.{Refusal}
use Rattle.query_lang.specs.declared.form.Draft.{Draft}
use Rattle.query_lang.specs.declared.form.Form.{Form}
use Rattle.query_lang.specs.Given.{and_then, refusal, or_refuse}
use Rattle.query_lang.specs.Items.{dx_items, unit_items, period_items}

-- the text that encoded bytes stand for, bytes that aren't UTF-8 replaced
unfoldable pub decoded : List ℕ → List ℕ
decoded bytes = utf8_lossy (decode bytes)

abbrev pub decoded_pair : List ℕ × List ℕ → List ℕ × List ℕ
decoded_pair pair = (decoded pair.0, decoded pair.1)

-- the names and values of the text, in order
unfoldable pub pairs_of : List ℕ → List (List ℕ × List ℕ)
pairs_of text = map decoded_pair (raw_pairs text)

-- parameters that choose other data
abbrev pub data_parameters : List (List ℕ)
data_parameters =
    codes "startDate" ∷ codes "endDate" ∷ codes "measureCriteria" ∷ codes "preAggregationMeasureCriteria"
    ∷ codes "lastYears" ∷ codes "aggregationType" ∷ codes "relativePeriodDate" ∷ []

-- parameters that choose other names, or leave out data
abbrev pub scheme_parameters : List (List ℕ)
scheme_parameters =
    codes "outputIdScheme" ∷ codes "inputIdScheme" ∷ codes "timeField" ∷ codes "orgUnitField" ∷ codes "skipData"
    ∷ codes "completedOnly" ∷ codes "approvalLevel" ∷ []

-- parameters that choose another layout
abbrev pub layout_parameters : List (List ℕ)
layout_parameters =
    codes "userOrgUnit" ∷ codes "order" ∷ codes "columns" ∷ codes "rows" ∷ codes "tableLayout"
    ∷ codes "includeNumDen" ∷ codes "skipRounding" ∷ []

abbrev pub is_listed : List (List ℕ) → List ℕ → Bool
is_listed names name = list_any (λ other. bytes_eq name other) names

-- parameters that would change the answer and aren't offered
unfoldable pub is_unsupported : List ℕ → Bool
is_unsupported name = is_listed data_parameters name || is_listed scheme_parameters name || is_listed layout_parameters name

abbrev pub is_colon : ℕ → Bool
is_colon b = b == 58

-- a dimension's name, up to the first colon
unfoldable pub head_of : List ℕ → List ℕ
head_of value = option_map_or (λ at. take at value) (position is_colon value) value

-- what stands after the first colon
unfoldable pub tail_of : List ℕ → Option (List ℕ)
tail_of value = option_map (λ at. drop (at + 1) value) (position is_colon value)

-- the items of a dimension that wasn't named before
abbrev pub fresh : {A : Type 0} → Option A → List ℕ → Option (List ℕ)
fresh (Some _) value = None
fresh None value = tail_of value

unfoldable pub with_dx : Draft → List ℕ → Result Draft Refusal
with_dx draft value =
    or_refuse code.F10 value
    (option_map (λ items. record draft { dx = Some items }) (option_and_then dx_items (fresh draft.dx value)))

unfoldable pub with_periods : ℤ → Draft → Bool → List ℕ → Result Draft Refusal
with_periods day draft filter value =
    or_refuse code.F10 value
    (option_map (λ items. record draft { periods = Some (record { items = items; filter = filter }) })
    (option_and_then (period_items day) (fresh draft.periods value)))

unfoldable pub with_units : Draft → Bool → List ℕ → Result Draft Refusal
with_units draft filter value =
    or_refuse code.F10 value
    (option_map (λ items. record draft { units = Some (record { items = items; filter = filter }) }) (option_and_then unit_items (fresh draft.units value)))

-- a pair named `dimension`, or `filter`
unfoldable pub with_dimension : ℤ → Draft → Bool → List ℕ → Result Draft Refusal
with_dimension day draft filter value =
    if not filter && bytes_eq (head_of value) (codes "dx") then with_dx draft value
    else (if bytes_eq (head_of value) (codes "pe") then with_periods day draft filter value
    else (if bytes_eq (head_of value) (codes "ou") then with_units draft filter value
    else Err (refusal code.F17 (head_of value))))

-- what is asked so far and a pair more, or the refusal of the pair
unfoldable pub with_pair : ℤ → Draft → List ℕ → List ℕ → Result Draft Refusal
with_pair day draft name value =
    if is_unsupported name then Err (refusal code.F17 name)
    else (if bytes_eq name (codes "dimension") then with_dimension day draft false value
    else (if bytes_eq name (codes "filter") then with_dimension day draft true value
    else (if bytes_eq name (codes "skipMeta") then Ok (record draft { meta = not (bytes_eq value (codes "true")) })
    else Ok draft)))

-- pair by pair
abbrev pub with_pairs : ℤ → Draft → List (List ℕ × List ℕ) → Result Draft Refusal
with_pairs day draft [] = Ok draft
with_pairs day draft (pair ∷ pairs) = and_then (with_pair day draft pair.0 pair.1) (λ next. with_pairs day next pairs)

-- nothing is asked yet
abbrev pub nothing : Draft
nothing = record { dx = None; periods = None; units = None; meta = true }

-- the three dimensions are there
unfoldable pub whole : Draft → Result Form Refusal
whole draft =
    and_then (or_refuse code.F11 [] draft.dx) (λ dx.
    and_then (or_refuse code.F12 [] draft.periods) (λ periods.
    and_then (or_refuse code.F13 [] draft.units) (λ units.
    Ok (record { dx = dx; periods = periods; units = units; meta = draft.meta }))))

-- the form of a query's text on a day, or the first refusal
unfoldable pub form_of : ℤ → List ℕ → Result Form Refusal
form_of day text = and_then (with_pairs day nothing (pairs_of text)) whole
