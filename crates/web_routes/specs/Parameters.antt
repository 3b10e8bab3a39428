-- Parameters of requests. They are the pairs of the query's text; of a repeated one the last counts.
use Rattle.std.specs.Prelude.{ℕ, Bool, true, false, not, nat_le, nat_lt, ◌&&◌, ◌||◌, if◌then◌else◌, List, [], ◌∷◌, length, find, bytes_eq, codes, Option}
use Rattle.std.specs.Prelude.{Some, None, Result, Ok, Err}
use Rattle.std.specs.List.{list_all}
use Rattle.std.specs.Option.{option_map_or}
use Rattle.std.specs.Char.{is_ascii_digit}
use Rattle.std.specs.Str.Parse.{digits_value}
use Rattle.dh_base.specs.declared.codes.Code.TheVariants as code
use Rattle.dh_base.specs.declared.codes.Refusal.{Refusal}
use Rattle.dh_base.specs.declared.plain.CutKind.{CutKind}
use Rattle.dh_base.specs.declared.plain.CutKind.TheVariants as cut
use Rattle.dh_changes.specs.declared.outcome.ImportStrategy.{ImportStrategy}
use Rattle.dh_changes.specs.declared.outcome.ImportStrategy.TheVariants as strategy
use Rattle.import_forms.specs.declared.bundle.BundleParams.{BundleParams}
use Rattle.import_forms.specs.declared.set.SetParams.{SetParams}
use Rattle.dh_metadata.specs.Names.{named}
use Rattle.query_lang.specs.Given.{and_then, refusal, or_refuse}

-- the value under a name in the pairs that are left, where this one was found before
abbrev pub last_from : List ℕ → Option (List ℕ) → List (List ℕ × List ℕ) → Option (List ℕ)
last_from name found [] = found
last_from name found (pair ∷ pairs) = last_from name (if bytes_eq pair.0 name then Some pair.1 else found) pairs

-- the last value under a name
unfoldable pub value_of : List ℕ → List (List ℕ × List ℕ) → Option (List ℕ)
value_of name pairs = last_from name None pairs

-- a text in its form, or what stands for an absent one
abbrev pub or_default : {A : Type 0} → (List ℕ → Option A) → A → Option (List ℕ) → Option A
or_default form default (Some text) = form text
or_default form default None = Some default

-- a parameter in its form, or what stands for an absent one; else F21 with its name
abbrev pub parameter : {A : Type 0} → List ℕ → (List ℕ → Option A) → A → Option (List ℕ) → Result A Refusal
parameter name form default text = or_refuse code.F21 name (or_default form default text)

-- ---- forms of values

abbrev pub truths : List (List ℕ × Bool)
truths = (codes "true", true) ∷ (codes "false", false) ∷ []

-- NEW, UPDATES, NEW_AND_UPDATES and DELETES are older names
abbrev pub strategies : List (List ℕ × ImportStrategy)
strategies =
    (codes "CREATE", strategy.Create) ∷ (codes "NEW", strategy.Create)
    ∷ (codes "UPDATE", strategy.Update) ∷ (codes "UPDATES", strategy.Update)
    ∷ (codes "CREATE_AND_UPDATE", strategy.CreateAndUpdate) ∷ (codes "NEW_AND_UPDATES", strategy.CreateAndUpdate)
    ∷ (codes "DELETE", strategy.Delete) ∷ (codes "DELETES", strategy.Delete) ∷ []

-- an update is of the latest part alone, or of all
abbrev pub kinds : List (List ℕ × CutKind)
kinds = (codes "true", cut.Latest) ∷ (codes "false", cut.Full) ∷ []

-- one conflict leaves all objects of a tracker bundle unwritten, or each object stands for itself
abbrev pub atomicities : List (List ℕ × Bool)
atomicities = (codes "ALL", true) ∷ (codes "OBJECT", false) ∷ []

-- a decimal of 1 to 18 digits
unfoldable pub is_number : List ℕ → Bool
is_number text = nat_lt 0 (length text) && (nat_le (length text) 18 && list_all is_ascii_digit text)

unfoldable pub number_of : List ℕ → Option ℕ
number_of text = if is_number text then Some (digits_value 10 text) else None

-- objects are named by their identifiers
unfoldable pub is_scheme : List ℕ → Bool
is_scheme text = bytes_eq text (codes "UID") || bytes_eq text (codes "uid")

-- ---- the parameters of routes

-- the change that the tables have to have taken in, from the field `X-Min-Change`
unfoldable pub asked_of : Option (List ℕ) → Result ℕ Refusal
asked_of field = parameter (codes "X-Min-Change") number_of 0 field

-- an update is of all years unless `latest` is true
abbrev pub kind_of : List (List ℕ × List ℕ) → Result CutKind Refusal
kind_of pairs = parameter (codes "latest") (named kinds) cut.Full (value_of (codes "latest") pairs)

abbrev pub scheme_names : List (List ℕ)
scheme_names = codes "idScheme" ∷ codes "dataElementIdScheme" ∷ codes "orgUnitIdScheme" ∷ codes "categoryOptionComboIdScheme" ∷ []

-- the parameter names objects otherwise than by their identifiers
unfoldable pub is_bad_scheme : List (List ℕ × List ℕ) → List ℕ → Bool
is_bad_scheme pairs name = option_map_or (λ text. not (is_scheme text)) (value_of name pairs) false

unfoldable pub bad_scheme : List (List ℕ × List ℕ) → Option (List ℕ)
bad_scheme pairs = find (is_bad_scheme pairs) scheme_names

abbrev pub unless_bad : {A : Type 0} → Option (List ℕ) → A → Result A Refusal
unless_bad (Some name) value = Err (refusal code.F21 name)
unless_bad None value = Ok value

-- how a set of values is to be imported
unfoldable pub params_of : List (List ℕ × List ℕ) → Result SetParams Refusal
params_of pairs =
    and_then (parameter (codes "importStrategy") (named strategies) strategy.CreateAndUpdate (value_of (codes "importStrategy") pairs)) (λ chosen.
    and_then (parameter (codes "dryRun") (named truths) false (value_of (codes "dryRun") pairs)) (λ dry.
    unless_bad (bad_scheme pairs) (record { strategy = chosen; dry = dry })))

-- how a tracker bundle is to be imported
unfoldable pub bundle_params_of : List (List ℕ × List ℕ) → Result BundleParams Refusal
bundle_params_of pairs =
    and_then (parameter (codes "importStrategy") (named strategies) strategy.CreateAndUpdate (value_of (codes "importStrategy") pairs)) (λ chosen.
    and_then (parameter (codes "atomicMode") (named atomicities) true (value_of (codes "atomicMode") pairs)) (λ atomic.
    Ok (record { strategy = chosen; atomic = atomic })))
