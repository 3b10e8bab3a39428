-- The expressions of objects.
use Rattle.std.specs.Prelude.{◌≡◌, ℕ, List, [], ◌∷◌, ◌++◌, Option, None, Some, Result, Ok, Err, option_map}
use Rattle.std.specs.Option.{option_or}
use Rattle.expr_lang.specs.declared.tree.Place.{Place}
use Rattle.expr_lang.specs.declared.tree.Place.TheVariants.{Aggregate, Program}
use Rattle.expr_lang.specs.declared.tree.Sort.{Sort}
use Rattle.expr_lang.specs.declared.tree.Sort.TheVariants.{Number, Truth}
use Rattle.expr_lang.specs.declared.expr.Expr.{Expr}
use Rattle.expr_lang.specs.declared.fault.ExprFault as language
use Rattle.expr_lang.specs.declared.fault.ExprFault.TheVariants as syntax_fault
use Rattle.dh_metadata.specs.declared.raw.RawIndicator.{RawIndicator}
use Rattle.dh_metadata.specs.declared.raw.RawRule.{RawRule}
use Rattle.dh_metadata.specs.declared.raw.RawProgramIndicator.{RawProgramIndicator}
use Rattle.dh_metadata.specs.declared.records.Indicator.{Indicator}
use Rattle.dh_metadata.specs.declared.records.Rule.{Rule}
use Rattle.dh_metadata.specs.declared.records.ProgramIndicator.{ProgramIndicator}
use Rattle.dh_metadata.specs.declared.records.IndicatorLinks.{IndicatorLinks}
use Rattle.dh_metadata.specs.declared.records.ProgramIndicatorLinks.{ProgramIndicatorLinks}
use Rattle.dh_sharing.specs.declared.rule.Sharing.{Sharing}
use Rattle.meta_rules.specs.declared.expr_fault.ExprFault.{ExprFault}
use Rattle.meta_rules.specs.declared.expr_fault.ExprError.{ExprError}
use Rattle.meta_rules.specs.declared.expr_fault.ExprError.TheVariants.{Unread, Memory}
use Rattle.meta_rules.specs.Names.{KindIds}
use Rattle.meta_rules.specs.Read.{Meaning, byte_of, unread_at, expr_in}

-- what a fault carries; running out of memory carries nothing
abbrev pub expr_cause : ExprError → Option ExprFault
expr_cause (Unread fault) = Some fault
expr_cause Memory = None

-- the object's fault where the language finds one in its text
abbrev pub text_error : List ℕ → language.ExprFault → ExprError
text_error uid syntax_fault.Memory = Memory
text_error uid fault = Unread (record { uid = uid; at = byte_of fault })

-- a text of an object isn't read
unfoldable pub unread : Meaning → KindIds → List (List ℕ) → List ℕ → Place → Sort → List ℕ → Option ExprFault
unread meaning ids days uid place wanted text = option_map (λ at. record { uid = uid; at = at }) (unread_at meaning ids days place wanted text)

-- the first object of a list with a text that isn't read
abbrev pub first_unread : {X : Type 0} → (X → Option ExprFault) → List X → Option ExprFault
first_unread unread_of [] = None
first_unread unread_of (object ∷ objects) = option_or (unread_of object) (first_unread unread_of objects)

-- numerator and denominator are numbers over aggregate data
abbrev pub indicator_unread : Meaning → KindIds → List (List ℕ) → RawIndicator → Option ExprFault
indicator_unread meaning ids days raw =
    option_or (unread meaning ids days raw.id Aggregate Number raw.numerator) (unread meaning ids days raw.id Aggregate Number raw.denominator)

-- so are the two sides of a validation rule
abbrev pub rule_unread : Meaning → KindIds → List (List ℕ) → RawRule → Option ExprFault
rule_unread meaning ids days raw =
    option_or (unread meaning ids days raw.id Aggregate Number raw.left_side.0) (unread meaning ids days raw.id Aggregate Number raw.right_side.0)

-- the expression of a program indicator is a number over an event, and its filter a truth
abbrev pub filter_unread : Meaning → KindIds → List (List ℕ) → List ℕ → Option (List ℕ) → Option ExprFault
filter_unread meaning ids days uid None = None
filter_unread meaning ids days uid (Some text) = unread meaning ids days uid Program Truth text

abbrev pub program_indicator_unread : Meaning → KindIds → List (List ℕ) → RawProgramIndicator → Option ExprFault
program_indicator_unread meaning ids days raw =
    option_or (unread meaning ids days raw.id Program Number raw.expression) (filter_unread meaning ids days raw.id raw.filter)

-- an indicator of a file, with these expressions and references
abbrev pub indicator_with : RawIndicator → List ℕ → Expr → Expr → IndicatorLinks → Indicator
indicator_with raw name numerator denominator links = record {
  id = raw.id;
  name = name;
  numerator = numerator;
  denominator = denominator;
  indicator_type = links.indicator_type;
  annualized = raw.annualized;
  decimals = raw.decimals;
  sharing = links.sharing;
}

-- an indicator of a file, with its references and its expressions
abbrev pub indicator_in : Meaning → List (List ℕ) → RawIndicator → IndicatorLinks → Indicator
indicator_in meaning days raw links =
    indicator_with raw raw.name (expr_in meaning days Aggregate Number raw.numerator) (expr_in meaning days Aggregate Number raw.denominator) links

-- a validation rule
abbrev pub rule_with : RawRule → List ℕ → Expr → Expr → Sharing → Rule
rule_with raw name left right links = record {
  id = raw.id;
  name = name;
  operator = raw.operator;
  period_type = raw.period_type;
  left_side = (left, raw.left_side.1);
  right_side = (right, raw.right_side.1);
  sharing = links;
}

abbrev pub rule_in : Meaning → List (List ℕ) → RawRule → Sharing → Rule
rule_in meaning days raw links =
    rule_with raw raw.name (expr_in meaning days Aggregate Number raw.left_side.0) (expr_in meaning days Aggregate Number raw.right_side.0) links

-- a program indicator
abbrev pub program_indicator_with : RawProgramIndicator → List ℕ → Expr → Option Expr → ProgramIndicatorLinks → ProgramIndicator
program_indicator_with raw name expression filter links = record {
  id = raw.id;
  name = name;
  program = links.program;
  expression = expression;
  filter = filter;
  aggregation_type = raw.aggregation_type;
  analytics_type = raw.analytics_type;
  decimals = raw.decimals;
  sharing = links.sharing;
}

abbrev pub program_indicator_in : Meaning → List (List ℕ) → RawProgramIndicator → ProgramIndicatorLinks → ProgramIndicator
program_indicator_in meaning days raw links =
    program_indicator_with raw raw.name (expr_in meaning days Program Number raw.expression) (option_map (expr_in meaning days Program Truth) raw.filter) links

-- each object made of what stands at its place in two lists
abbrev pub made_of : {A B C : Type 0} → (A → B → C) → List A → List B → List C
made_of make [] links = []
made_of make (raw ∷ others) [] = []
made_of make (raw ∷ others) (own ∷ links) = make raw own ∷ made_of make others links

-- what was made stands last, or its fault is handed on
abbrev pub IsKept : {C : Type 0} → Result C ExprError → List C → List C → Result (Unit {0}) ExprError → Type 0
IsKept (Ok one) old new (Ok _) = new ≡ old ++ one ∷ []
IsKept (Ok one) old new (Err fault) = fault ≡ Memory
IsKept (Err fault) old new (Ok _) = ⊥
IsKept (Err fault) old new (Err told) = told ≡ fault
