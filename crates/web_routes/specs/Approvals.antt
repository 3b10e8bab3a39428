-- An act on an approval: the parameters `wf`, `pe`, `ou` and `aoc` say what it is of.
use Rattle.std.specs.Prelude.{ℕ, ◌==◌, if◌then◌else◌, List, codes, slice_get, Option, Some, None, option_map, option_and_then, Result, Ok}
use Rattle.std.specs.List.{position_from}
use denote.Enum.Bare.{sameb}
use Rattle.dh_periods.specs.contracts.kind.PeriodType.{the_type}
use Rattle.dh_base.specs.Uid.{uid_of}
use Rattle.dh_base.specs.declared.codes.Code.TheVariants as code
use Rattle.dh_base.specs.declared.codes.Refusal.{Refusal}
use Rattle.dh_periods.specs.Texts.{period_of}
use Rattle.dh_periods.specs.declared.name.PeriodName.{PeriodName}
use Rattle.dh_metadata.specs.BuiltIn.{default_option_combo}
use Rattle.dh_metadata.specs.declared.held.Records.{Records}
use Rattle.dh_metadata.specs.declared.kind.Kind.{Kind}
use Rattle.dh_metadata.specs.declared.kind.Kind.TheVariants as kind
use Rattle.dh_metadata.specs.declared.records.Workflow.{Workflow}
use Rattle.org_tree.specs.Units.{level_of}
use Rattle.dh_metadata.specs.Approval.{levels_at, unit_rows}
use Rattle.dh_metadata.specs.Objects.{find_of}
use Rattle.dh_approvals.specs.declared.act.ApprovalAct.{ApprovalAct}
use Rattle.dh_approvals.specs.declared.act.Verb.{Verb}
use Rattle.query_lang.specs.Given.{and_then, or_refuse}
use Rattle.web_routes.specs.Parameters.{value_of, parameter}

-- the object of a kind that a text names: its number and its identifier
unfoldable pub named : Records → Kind → List ℕ → Option (ℕ × List ℕ)
named r kind text = option_and_then (λ id. option_map (λ number. (number, id)) (find_of r kind id)) (uid_of text)

-- the period, if it is of the workflow's type
abbrev pub if_typed : Records → ℕ → PeriodName → Option PeriodName
if_typed r workflow period =
    option_and_then (λ (found : Workflow). if sameb the_type found.period_type period.kind then Some period else None)
    (slice_get r.data_approval_workflows workflow)

-- a period of the workflow's type
unfoldable pub period_for : Records → ℕ → List ℕ → Option PeriodName
period_for r workflow text = option_and_then (if_typed r workflow) (period_of text)

-- the position among the workflow's levels whose level in the tree is that of the unit
unfoldable pub position_of : Records → ℕ → ℕ → Option ℕ
position_of r workflow unit = position_from (λ level. level == level_of (unit_rows r) unit) 0 (levels_at r workflow)

-- a unit at a level of the workflow: its identifier and its position
unfoldable pub unit_for : Records → ℕ → List ℕ → Option (List ℕ × ℕ)
unit_for r workflow text =
    option_and_then (λ unit. option_map (λ at. (unit.1, at)) (position_of r workflow unit.0)) (named r kind.OrganisationUnit text)

-- the identifier of an attribute option combination
unfoldable pub attribute_for : Records → List ℕ → Option (List ℕ)
attribute_for r text = option_map (λ found. found.1) (named r kind.CategoryOptionCombo text)

-- a parameter that has to be there and in its form; else F21 with its name
abbrev pub needed : {A : Type 0} → List ℕ → (List ℕ → Option A) → Option (List ℕ) → Result A Refusal
needed name form text = or_refuse code.F21 name (option_and_then form text)

abbrev pub act_from : Verb → List ℕ → PeriodName → List ℕ × ℕ → List ℕ → ApprovalAct
act_from verb workflow period unit attribute = record {
  verb = verb;
  key = record { workflow = workflow; period = period; unit = unit.0; attribute = attribute };
  position = unit.1;
}

-- the act; without `aoc` it is of the default combination
unfoldable pub act_of : Records → Verb → List (List ℕ × List ℕ) → Result ApprovalAct Refusal
act_of r verb pairs =
    and_then (needed (codes "wf") (named r kind.Workflow) (value_of (codes "wf") pairs)) (λ workflow.
    and_then (needed (codes "pe") (period_for r workflow.0) (value_of (codes "pe") pairs)) (λ period.
    and_then (needed (codes "ou") (unit_for r workflow.0) (value_of (codes "ou") pairs)) (λ unit.
    and_then (parameter (codes "aoc") (attribute_for r) default_option_combo (value_of (codes "aoc") pairs)) (λ attribute.
    Ok (act_from verb workflow.1 period unit attribute)))))
