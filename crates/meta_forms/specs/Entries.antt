-- What stands inside the objects of a metadata file, and beside them.
use Rattle.std.specs.Prelude.{ℕ, ℤ, Bool, false, ◌&&◌, List, length, Option, Some, None, option_and_then, nat_le, cond, codes, map, Ok}
use Rattle.std.specs.Fmt.{signed_decimal}
use Rattle.std.specs.List.{list_all}
use Rattle.serde_json.specs.Data.{Data, null, boolean, number, string, array, object}
use Rattle.serde_json.specs.Find.{as_i64, as_str}
use Rattle.dh_base.specs.Decimals.{decimal_of}
use Rattle.dh_base.specs.declared.plain.Strategy.{Strategy}
use Rattle.dh_base.specs.declared.plain.Strategy.TheVariants as strategy
use Rattle.json_read.specs.Forms.{Formed, and_then, or_fault, object_of, text_of, truth_of, field_of, field_or_of, listed_of}
use Rattle.dh_metadata.specs.Names.{strategy_named}
use Rattle.meta_forms.specs.Fields.{name_of_table, reference_at, optional_reference_at}
use Rattle.meta_forms.specs.declared.entry.SetElement.{SetElement}
use Rattle.meta_forms.specs.declared.entry.ProgramAttribute.{ProgramAttribute}
use Rattle.meta_forms.specs.declared.entry.StageElement.{StageElement}
use Rattle.meta_forms.specs.declared.entry.Side.{Side}
use Rattle.meta_forms.specs.declared.entry.ConstantValue.{ConstantValue}
use Rattle.meta_forms.specs.declared.entry.TokenText.{TokenText}
use Rattle.meta_forms.specs.declared.entry.Token.{Token}
use Rattle.meta_forms.specs.declared.entry.Settings.{Settings}

-- an element of a data set, with a category combination where one is named
unfoldable pub set_element_of : Data → Formed SetElement
set_element_of = object_of (λ json.
    and_then (reference_at (codes "dataElement") json) (λ element.
    and_then (optional_reference_at (codes "categoryCombo") json) (λ combo.
    Ok (record { element = element; combo = combo }))))

unfoldable pub set_elements_of : Data → Formed (List (List ℕ × Option (List ℕ)))
set_elements_of json = and_then (listed_of (codes "dataSetElements") set_element_of json) (λ found. Ok (map (λ entry. (entry.element, entry.combo)) found))

-- an attribute of a program
unfoldable pub attribute_of : Data → Formed ProgramAttribute
attribute_of = object_of (λ json. and_then (reference_at (codes "trackedEntityAttribute") json) (λ attribute. Ok (record { attribute = attribute })))

unfoldable pub attributes_of : Data → Formed (List (List ℕ))
attributes_of json = and_then (listed_of (codes "programTrackedEntityAttributes") attribute_of json) (λ found. Ok (map (λ entry. entry.attribute) found))

-- an element of a program stage
unfoldable pub stage_element_of : Data → Formed StageElement
stage_element_of = object_of (λ json. and_then (reference_at (codes "dataElement") json) (λ element. Ok (record { element = element })))

unfoldable pub stage_elements_of : Data → Formed (List (List ℕ))
stage_elements_of json = and_then (listed_of (codes "programStageDataElements") stage_element_of json) (λ found. Ok (map (λ entry. entry.element) found))

-- a side of a validation rule
unfoldable pub side_form : Data → Formed Side
side_form = object_of (λ json.
    and_then (field_of (codes "expression") text_of json) (λ expression.
    and_then (field_or_of (codes "missingValueStrategy") (name_of_table strategy_named) strategy.Never json) (λ strategy.
    Ok (record { expression = expression; strategy = strategy }))))

unfoldable pub side_of : List ℕ → Data → Formed (List ℕ × Strategy)
side_of key json = and_then (field_of key side_form json) (λ side. Ok (side.expression, side.strategy))

-- a constant's value in millionths: a number's text, or a whole number whose text is one
unfoldable pub constant_of : Data → Option ℤ
constant_of null = None
constant_of (boolean _) = None
constant_of (number n) = option_and_then (λ whole. decimal_of (signed_decimal whole)) (as_i64 n)
constant_of (string text) = decimal_of text
constant_of (array _) = None
constant_of (object _) = None

abbrev pub constant_form : Data → Formed ConstantValue
constant_form json = and_then (or_fault (constant_of json)) (λ value. Ok (record { value = value }))

-- a visible ASCII character
abbrev pub is_visible : ℕ → Bool
is_visible byte = nat_le 33 byte && nat_le byte 126

-- a token is 1 to 64 visible ASCII characters
unfoldable pub is_token : List ℕ → Bool
is_token text = nat_le 1 (length text) && nat_le (length text) 64 && list_all is_visible text

abbrev pub token_in : Data → Option (List ℕ)
token_in json = option_and_then (λ text. cond (is_token text) (Some text) None) (as_str json)

abbrev pub token_text_of : Data → Formed TokenText
token_text_of json = and_then (or_fault (token_in json)) (λ text. Ok (record { text = text }))

-- a token and its user
unfoldable pub token_of : Data → Formed Token
token_of = object_of (λ json.
    and_then (field_of (codes "token") token_text_of json) (λ token.
    and_then (reference_at (codes "user") json) (λ user.
    Ok (record { token = token; user = user }))))

unfoldable pub tokens_of : Data → Formed (List (List ℕ × List ℕ))
tokens_of json = and_then (listed_of (codes "apiTokens") token_of json) (λ found. Ok (map (λ entry. (entry.token.text, entry.user)) found))

-- the settings of the system
unfoldable pub settings_of : Data → Formed Settings
settings_of =
    object_of (λ json. and_then (field_or_of (codes "keyAcceptanceRequiredForApproval") truth_of false json) (λ required.
    Ok (record { acceptance_required = required })))

unfoldable pub acceptance_of : Data → Formed Bool
acceptance_of json =
    and_then (field_or_of (codes "systemSettings") settings_of (record { acceptance_required = false }) json) (λ settings. Ok settings.acceptance_required)
