-- A registration that is taken away: it is named by the parameters `ds`, `pe` and `ou`.
use Rattle.std.specs.Prelude.{ℕ, Bool, false, is_some, if◌then◌else◌, List, codes, Option, Some, None, Result, Ok, Err}
use Rattle.std.specs.Option.{option_map_or}
use Rattle.dh_base.specs.Uid.{uid_of}
use Rattle.dh_base.specs.declared.codes.Code.TheVariants as code
use Rattle.dh_base.specs.declared.codes.Refusal.{Refusal}
use Rattle.dh_periods.specs.Texts.{period_of}
use Rattle.dh_metadata.specs.declared.held.Records.{Records}
use Rattle.dh_metadata.specs.declared.kind.Kind.{Kind}
use Rattle.dh_metadata.specs.declared.kind.Kind.TheVariants as kind
use Rattle.dh_metadata.specs.Objects.{find_of}
use Rattle.import_forms.specs.declared.completion.Completion.{Completion}
use Rattle.query_lang.specs.Given.{and_then, refusal}
use Rattle.web_routes.specs.Parameters.{value_of}

-- the text is the identifier of an object of the kind
unfoldable pub is_name : Records → Kind → List ℕ → Bool
is_name r kind text = option_map_or (λ id. is_some (find_of r kind id)) (uid_of text) false

-- the text is a period's
unfoldable pub is_period : List ℕ → Bool
is_period text = is_some (period_of text)

-- a parameter that has to be there and pass the test; else F21 with its name
abbrev pub needed : List ℕ → (List ℕ → Bool) → Option (List ℕ) → Result (List ℕ) Refusal
needed name fits None = Err (refusal code.F21 name)
needed name fits (Some text) = if fits text then Ok text else Err (refusal code.F21 name)

abbrev pub not_done : List ℕ → List ℕ → List ℕ → Completion
not_done set period unit = record {
  data_set = Some set;
  period = Some period;
  unit = Some unit;
  attribute = None;
  date = None;
  done = false;
}

-- the registration that is taken away
unfoldable pub uncompletion_of : Records → List (List ℕ × List ℕ) → Result Completion Refusal
uncompletion_of r pairs =
    and_then (needed (codes "ds") (is_name r kind.DataSet) (value_of (codes "ds") pairs)) (λ set.
    and_then (needed (codes "pe") is_period (value_of (codes "pe") pairs)) (λ period.
    and_then (needed (codes "ou") (is_name r kind.OrganisationUnit) (value_of (codes "ou") pairs)) (λ unit.
    Ok (not_done set period unit))))
